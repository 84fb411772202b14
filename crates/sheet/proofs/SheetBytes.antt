-- Where the columns of a sheet that is read stand in its bytes: each behind those before it, where its record tells it. By the
-- records that were read: one more changes nothing in front of it. Assumes nothing.
use mathlib.Core.Path.{◌≡◌, refl, sym, ap, ◌∙◌}
use mathlib.Core.Logic.{⊎_elim}
use mathlib.Core.Bool.{Bool, true, false, cond}
use mathlib.Core.List.{List, [], ◌∷◌, ◌++◌}
use Prim.Native.Nat.{ℕ, suc, ◌+◌, ◌-◌, ◌≤◌, ◌<◌}
use native.Mathlib.Nat.{eq-or-lt_of_le}
use native.Mathlib.Omega.{arith}
use lib.ListN.{length, get_or, take, drop, length-append, length-drop, get_or-append}
use lib.Seq.{drop-append-le, drop-append-add, get_or-append_seam, take-append-le, take-append_seam, take_all}
use Rattle.words.specs.Bytes.{part}
use Rattle.records.specs.Outcome.{Outcome, ok, refused}
use Rattle.records.specs.Records.{read, Says, nothing, more}
use Rattle.records.proofs.Runs.{says_of_read}
use Rattle.rules.specs.Columns.{Column, yes_no, within, column_format, column_of}
use Rattle.rules.specs.Columns.{entries_in, sheet_limits, limited_sheet, read_sheet}
use Rattle.rules.specs.Columns.{record_size}
use Rattle.rules.proofs.Circuits.Limits.{column_sized}
use Rattle.columns.specs.Kinds.{bytes_of_kind}
use Rattle.columns.proofs.ColumnBytes.{kind_size}
use Rattle.columns.proofs.Sums.{Total, total_append, total_one}
use Rattle.sheet.specs.Cursor.{bytes_in}

-- the bytes of columns are a sum over them
pub bytes : Total record_size bytes_in
unfolding bytes_in
bytes = record { nothing = refl; next = λ c cs. refl }

-- the bytes of s from place `at` tell the column a
pub record Told (s : List ℕ) (at : ℕ) (a : Column) : Type 0 where
  pub size_some : 1 ≤ bytes_of_kind (get_or s at 0)
  pub size_is : bytes_of_kind (get_or s at 0) ≡ record_size a
  pub size_fits : at + bytes_of_kind (get_or s at 0) ≤ length s
  pub column_is : column_of (get_or s at 0) (part (at + 1) (bytes_of_kind (get_or s at 0) - 1) s) ≡ ok a

-- a part of the front
part_front : (s t : List ℕ) (a n : ℕ) → a + n ≤ length s → part a n (s ++ t) ≡ part a n s
part_front s t a n h =
    ap (take n) (drop-append-le a s t (omega arith))
    ∙ take-append-le n (drop a s) t (let l = length-drop a s in omega arith)

told_front : (s t : List ℕ) (at : ℕ) (a : Column) → Told s at a → Told (s ++ t) at a
told_front s t at a r =
    let e : get_or (s ++ t) at 0 ≡ get_or s at 0 = get_or-append s t 0 at (omega (arith, r.size_some, r.size_fits)) in
    let q : part (at + 1) (bytes_of_kind (get_or s at 0) - 1) (s ++ t) ≡ part (at + 1) (bytes_of_kind (get_or s at 0) - 1) s
    = part_front s t (at + 1) (bytes_of_kind (get_or s at 0) - 1) (omega (arith, r.size_some, r.size_fits)) in
    let long = length-append s t in
    record {
      size_some = rw e r.size_some;
      size_is = rw e r.size_is;
      size_fits = rw e (omega (arith, r.size_fits));
      column_is = rw (e, q) r.column_is;
    }

told_last : (s : List ℕ) (k : ℕ) (body : List ℕ) (a : Column) → bytes_of_kind k ≡ suc (length body) → suc (length body) ≡ record_size a
    → column_of k body ≡ ok a → Told (s ++ (k ∷ body)) (length s) a
told_last s k body a size is h =
    let e : get_or (s ++ (k ∷ body)) (length s) 0 ≡ k = get_or-append_seam s k body 0 in
    let q : part (length s + 1) (bytes_of_kind k - 1) (s ++ (k ∷ body)) ≡ body
    = ap (take (bytes_of_kind k - 1)) (drop-append-add s (k ∷ body) 1) ∙ take_all (bytes_of_kind k - 1) body (omega arith) in
    let long = length-append s (k ∷ body) in
    record {
      size_some = rw e (omega arith);
      size_is = rw e (size ∙ is);
      size_fits = rw e (omega arith);
      column_is = rw (e, q) h;
    }

-- each column of a run of records stands behind those before it
pub record Placed (s : List ℕ) (cs : List Column) : Type 0 where
  pub long : length s ≡ bytes_in cs
  pub told : (k : ℕ) → k < length cs → Told s (bytes_in (take k cs)) (get_or cs k yes_no)

module _
    (s : List ℕ) (done : List Column) (before : Placed s done) (k : ℕ) (body : List ℕ) (c : Column)
    (size : bytes_of_kind k ≡ suc (length body)) (size_is : suc (length body) ≡ record_size c) (h : column_of k body ≡ ok c)
  where
    ToldAt : ℕ → Type 0
    ToldAt i = Told (s ++ (k ∷ body)) (bytes_in (take i (done ++ (c ∷ [])))) (get_or (done ++ (c ∷ [])) i yes_no)

    at_last : (i : ℕ) → i ≡ length done → ToldAt i
    unfolding ToldAt
    at_last i q =
        rw (q, take-append_seam done (c ∷ []), get_or-append_seam done c [] yes_no, ← before.long)
        (told_last s k body c size size_is h)

    at_front : (i : ℕ) → i < length done → ToldAt i
    unfolding ToldAt
    at_front i l =
        rw (take-append-le i done (c ∷ []) (omega arith), get_or-append done (c ∷ []) yes_no i l)
        (told_front s (k ∷ body) (bytes_in (take i done)) (get_or done i yes_no) (before.told i l))

    placed_more : Placed (s ++ (k ∷ body)) (done ++ (c ∷ []))
    unfolding ToldAt
    placed_more = record {
      long =
          omega (
            arith,
            length-append s (k ∷ body),
            before.long,
            size_is,
            total_append bytes done (c ∷ []),
            total_one bytes c,
          );
      told = λ i l. ⊎_elim (at_last i) (at_front i) (eq-or-lt_of_le (let m = length-append done (c ∷ []) in omega arith));
    }

says_placed : {s : List ℕ} {cs : List Column} → Says column_format s cs → Placed s cs
says_placed nothing = record { long = sym bytes.nothing; told = λ k h. absurd (omega arith) }
says_placed (more {s} {done} k body c w e j) =
    placed_more s done (says_placed w) k body c (kind_size k (length body) e) (column_sized k body c (length body) e j) j

read_is : (r : Outcome (List Column)) (cs : List Column) → limited_sheet r ≡ ok cs → r ≡ ok cs
unfolding limited_sheet sheet_limits
read_is (ok ds) cs h = by_limit (within 1 256 (entries_in ds)) h
  where
    by_limit : (b : Bool) → cond b (ok ds) (refused 2) ≡ ok cs → ok ds ≡ ok cs
    by_limit true g = g
    by_limit false g = let z : ◌≡◌ {A = ℕ} 0 1 = cc in absurd (omega arith)
read_is (refused n) cs h = let z : ◌≡◌ {A = ℕ} 0 1 = cc in absurd (omega arith)

pub placed : (s : List ℕ) (cs : List Column) → read_sheet s ≡ ok cs → Placed s cs
unfolding read_sheet
placed s cs h = says_placed (says_of_read column_format s cs (read_is (read column_format s) cs h))

-- a sheet whose records are read is as long as they are
pub records_long : (s : List ℕ) (cs : List Column) → read column_format s ≡ ok cs → length s ≡ bytes_in cs
records_long s cs e = (says_placed (says_of_read column_format s cs e)).long
