-- Laws for the reader. Its counts are those of the columns that it has read, or both are past the limit of entries, and then
-- the answer is the same. Assumes nothing.
use mathlib.Core.Path.{◌≡◌, refl, sym, ap, ◌∙◌}
use mathlib.Core.Logic.{◌⊎◌, inl, inr}
use mathlib.Core.Bool.{Bool, true, false, cond}
use mathlib.Core.List.{List, [], ◌∷◌, ◌++◌}
use Prim.Native.Nat.{ℕ, ◌+◌, ◌-◌, ◌*◌, ◌/◌, ◌≤◌, ◌<◌}
use native.Mathlib.Omega.{arith}
use borrow.Author.Tests.{le-leb, lt-leb, leb-true, leb-false}
use lib.Dec.{leb}
use lib.ListN.{length, length-append}
use Rattle.records.specs.Outcome.{ok, refused}
use Rattle.records.specs.Records.{read}
use Rattle.rules.specs.Columns.{Column, within, column_format}
use Rattle.rules.specs.Columns.{entries_in, published_in, largest_in, sheet_limits, limited_sheet, read_sheet}
use Rattle.rules.specs.Circuit.{constants_in, gates_in, products_in, tests_in}
use Rattle.rules.specs.Columns.{yes_no, choice, number, top, point, record_size}
use Rattle.rules.specs.Circuit.{constants_of, gates_of, products_at, products_of, tests_of}
use Rattle.columns.specs.declared.Counts.{Counts}
use Rattle.columns.specs.Counting.{counts_of, Small}
use Rattle.columns.proofs.Sums.{entries, published, gates, products, tests, total_append, largest_append}
use Rattle.sheet.specs.Cursor.{bytes_in}
use Rattle.sheet.specs.Reading.{reading, reading_of, plus, more, with_constants, Countable, limited}
use Rattle.sheet.proofs.SheetBytes.{records_long}

-- ---- the counts: those of the columns, or both past the limit
pub none_small : Small 320 (counts_of [])
unfolding entries_in published_in constants_in gates_in products_in tests_in largest_in
none_small = search arith

-- the counts of columns, but for the constants
abbrev seen : List Column → Counts
seen cs =
    record {
      columns = length cs;
      entries = entries_in cs;
      published = published_in cs;
      constants = 0;
      gates = gates_in cs;
      products = products_in cs;
      tests = tests_in cs;
      largest = largest_in cs;
    }

abbrev pub Tracks : Counts → List Column → Type 0
Tracks c done = (c ≡ seen done) ⊎ ((256 < c.entries) × (256 < entries_in done))

pub tracks_none : Tracks (counts_of []) []
unfolding constants_in
tracks_none = inl refl

counts_next : (done : List Column) (c : Column) → seen (done ++ (c ∷ [])) ≡ plus (seen done) (counts_of (c ∷ []))
counts_next done c =
    rw (
      total_append entries done (c ∷ []),
      total_append published done (c ∷ []),
      total_append gates done (c ∷ []),
      total_append products done (c ∷ []),
      total_append tests done (c ∷ []),
      largest_append done (c ∷ []),
      length-append done (c ∷ []),
    )

pub tracks_next : (c : Counts) (done : List Column) (a : Column) → Tracks c done → Tracks (more c (counts_of (a ∷ []))) (done ++ (a ∷ []))
unfolding more
tracks_next c done a t = go (leb c.entries 256) refl t
  where
    all : entries_in (done ++ (a ∷ [])) ≡ entries_in done + entries_in (a ∷ [])
    all = total_append entries done (a ∷ [])

    go : (b : Bool) → leb c.entries 256 ≡ b → Tracks c done → Tracks (cond b (plus c (counts_of (a ∷ []))) c) (done ++ (a ∷ []))
    go true e (inl q) = inl (rw q (sym (counts_next done a)))
    go true e (inr o) = let h : c.entries ≤ 256 = leb-true _ _ e in absurd (omega arith)
    go false e (inl q) =
        let h : 256 < c.entries = leb-false _ _ e in
        let g : c.entries ≡ entries_in done = ap (λ d. d.entries) q in
        inr (h, omega (arith, all))
    go false e (inr o) = inr (o.0, omega (arith, all))

limited_over : (c : Counts) (n : ℕ) → 256 < c.entries → limited c n ≡ refused 2
unfolding limited
limited_over c n h = let low : 1 ≤ c.entries = omega arith in simp (le-leb 1 c.entries, lt-leb c.entries 256)

tracks_limited : (c : Counts) (done : List Column) (n : ℕ) → Tracks c done → limited c n ≡ limited (seen done) n
tracks_limited c done n (inl q) = ap (λ k. limited k n) q
tracks_limited c done n (inr o) = limited_over c n o.0 ∙ sym (limited_over (seen done) n o.1)

-- ---- the constants
-- behind its kind byte a column has a byte for each of its sums, one for the two sums of a point, and two more for a constant
column_bodies : (c : Column) → 2 * (record_size c + gates_of c) + products_of c ≡ 2 * (1 + tests_of c + 2 * constants_of c)
unfolding record_size gates_of products_of products_at tests_of constants_of
column_bodies yes_no = refl
column_bodies (choice n) = omega arith
column_bodies (number n) = omega arith
column_bodies (top n) = omega arith
column_bodies (point n) = omega arith

column_sums : (c : Column) → 2 * gates_of c + products_of c ≤ 2 * tests_of c
unfolding gates_of products_of products_at tests_of
column_sums yes_no = omega arith
column_sums (choice n) = omega arith
column_sums (number n) = omega arith
column_sums (top n) = omega arith
column_sums (point n) = omega arith

bodies_are : (cs : List Column) → 2 * (bytes_in cs + gates_in cs) + products_in cs ≡ 2 * (length cs + tests_in cs + 2 * constants_in cs)
unfolding bytes_in gates_in products_in tests_in constants_in
bodies_are [] = refl
bodies_are (c ∷ cs) = omega (arith, column_bodies c, bodies_are cs)

sums_some : (cs : List Column) → 2 * gates_in cs + products_in cs ≤ 2 * tests_in cs
unfolding gates_in products_in tests_in
sums_some [] = omega arith
sums_some (c ∷ cs) = omega (arith, column_sums c, sums_some cs)

counts_whole : (cs : List Column) → with_constants (seen cs) (bytes_in cs) ≡ counts_of cs
counts_whole cs =
    let e : (bytes_in cs - length cs - (tests_in cs - gates_in cs - products_in cs / 2)) / 2 ≡ constants_in cs
    = omega (arith, bodies_are cs, sums_some cs) in
    rw e refl

pub tracks_countable : (c : Counts) (done : List Column) (n : ℕ) → n ≡ bytes_in done → Tracks c done → Countable c n
tracks_countable c done n e (inl q) =
    rw q (record {
      sums = λ h. omega (arith, sums_some done);
      bodies = λ h. omega (arith, bodies_are done, sums_some done);
    })
tracks_countable c done n e (inr o) = record { sums = λ h. absurd (omega (arith, o.0)); bodies = λ h. absurd (omega (arith, o.0)) }

-- ---- the answer
limits_reading : (cs : List Column) → reading (sheet_limits cs) ≡ limited (seen cs) (bytes_in cs)
unfolding reading sheet_limits limited
limits_reading cs = rw (counts_whole cs) (go (within 1 256 (entries_in cs)))
  where
    go : (b : Bool) → reading (cond b (ok cs) (refused 2)) ≡ cond b (ok (counts_of cs)) (refused 2)
    go true = refl
    go false = refl

module _ (s : List ℕ) where
  pub answer_refused : (n : ℕ) → read column_format s ≡ refused n → reading_of s ≡ refused n
  unfolding reading_of reading read_sheet limited_sheet
  answer_refused n e = rw e

  pub answer_limited : (c : Counts) (done : List Column) → Tracks c done → read column_format s ≡ ok done
      → reading_of s ≡ limited c (length s)
  unfolding reading_of read_sheet limited_sheet
  answer_limited c done t e =
      rw (e, records_long s done e) (limits_reading done ∙ sym (tracks_limited c done (bytes_in done) t))
