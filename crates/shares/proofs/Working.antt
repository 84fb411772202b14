-- What is worked out from a share that is taken: the sheet that the code cuts out of a table is read, and with the elements of a
-- share it is what judging asks for (`the_share`). The place of a free record lies within the run of numbers (`within`), so the
-- elements that were read into it are those of the message (`judgeable`). Assumes nothing.
use mathlib.Core.Path.{◌≡◌, refl, ap, ◌∙◌}
use mathlib.Core.Bool.{true}
use mathlib.Core.List.{List}
use Prim.Native.Nat.{ℕ, ◌+◌, ◌-◌, ◌*◌, ◌≤◌}
use native.Mathlib.Nat.{mul-le-mul}
use native.Mathlib.Omega.{arith}
use lib.ListN.{length, take, drop}
use Rattle.std.specs.Prelude.{Option, None, Some, is_some}
use Rattle.words.specs.Bytes.{part, splice}
use Rattle.words.proofs.Below.{all_of_below}
use Rattle.words.proofs.Splice.{part_splice}
use Rattle.records.specs.Outcome.{ok}
use Rattle.rules.specs.Settings.{document01}
use Rattle.rules.specs.Columns.{read_sheet, columns_of}
use Rattle.rules.specs.Judging.{share_size}
use Rattle.rules.specs.WaitingList.{free_place}
use Rattle.rules.specs.Table.{header_length, Lent, sheet_in, columns_in}
use Rattle.share_message.specs.Shares.{share_at}
use Rattle.share_message.proofs.Shares.{share_long}
use Rattle.snip.specs.declared.judging.Shape.{Shape}
use Rattle.snip.specs.Judged.{Share, shape_of, judged_of}
use Rattle.steps.proofs.Parts.{span}
use Rattle.limits.specs.Sheets.{size_of}
use Rattle.layout.specs.Places.{place_size_of}
use Rattle.layout.specs.Numbers.{table_of}
use Rattle.layout.specs.declared.Table.{Table}
use Rattle.waiting.specs.Stages.{place_in}
use Rattle.waiting.proofs.Places.{place_within}
use Rattle.table.specs.Reading.{Headed}
use Rattle.table.proofs.Answers.{headed_of}
use Rattle.table.proofs.Judged.{cut_reads}
use Rattle.shares.specs.Taking.{Judgeable, Brought, Takable}

-- ---- the sheet
-- the sheet as the code cuts it out
abbrev pub sheet_cut : List ℕ → Table → List ℕ
sheet_cut t k = part header_length k.sheet t

-- the shape of the sheet, as the table says
abbrev pub shape_at : Table → Shape
shape_at k = record { entries = k.entries; gates = k.gates; tests = k.tests }

module _ (t : List ℕ) (k : Table) (h : Headed t k) where
  sheet_cut_lem : sheet_cut t k ≡ sheet_in document01 t
  unfolding table_of
  sheet_cut_lem = rw h.says

  sheet_reads : read_sheet (sheet_cut t k) ≡ ok (columns_of (sheet_cut t k))
  sheet_reads = cut_reads t k h (sheet_cut t k) refl

  shape_is : shape_at k ≡ shape_of (columns_of (sheet_cut t k))
  unfolding table_of
  shape_is = rw (sheet_cut_lem, h.says)

  size_is : size_of k.entries k.gates ≡ share_size (columns_of (sheet_cut t k))
  unfolding table_of share_size
  size_is = rw (sheet_cut_lem, h.says)

module _ (t : List ℕ) (k : Table) (xs : List ℕ) (r s : ℕ) (h : Judgeable t k xs r s) where
  pub the_share : Share (sheet_cut t k) (shape_at k) xs r s
  the_share = record {
    is_read = sheet_reads t k h.table;
    shape_is = shape_is t k h.table;
    size = h.size ∙ size_is t k h.table;
    elements = all_of_below 2147483647 xs h.elements;
    r_below = h.r_below;
    s_below = h.s_below;
  }

  pub worked_out : judged_of (columns_of (sheet_cut t k)) k.own xs r s ≡ judged_of (columns_in document01 t) k.own xs r s
  worked_out = ap (λ (l : List ℕ). judged_of (columns_of l) k.own xs r s) (sheet_cut_lem t k h.table)

-- ---- the place of a free record, in the numbers of code: record i, z numbers to a place, n of them the elements of the share
pub record Place (T : Lent) (k : Table) (i z n : ℕ) : Type 0 where
  pub record_is : i ≡ free_place T.slots
  pub place_is : z ≡ place_size_of k.entries k.gates
  pub size_is : n ≡ size_of k.entries k.gates

-- as the code finds it: o is the record, where there is one
pub place_found : (T : Lent) (k : Table) (o : Option ℕ) (i z n : ℕ) → o ≡ Some i → place_in o ≡ free_place T.slots
    → z ≡ place_size_of k.entries k.gates → n ≡ size_of k.entries k.gates → Place T k i z n
place_found T k o i z n e p q g = record { record_is = rw e at p; place_is = q; size_is = g }

module _ (T : Lent) (k : Table) (m x : List ℕ) (r s : ℕ) (h : Takable T k m x r s) where
  -- there is one
  pub is_found : (o : Option ℕ) → place_in o ≡ free_place T.slots → is_some o ≡ true
  is_found None e = absurd (omega (arith, h.free))
  is_found (Some i) e = refl

  -- the elements that the message brings
  elements_long : length (share_at (size_of k.entries k.gates) m) ≡ size_of k.entries k.gates
  elements_long = share_long (size_of k.entries k.gates) m h.brought.long

  module _ {i z n : ℕ} (q : Place T k i z n) where
    pub within : z * i + n + 2 ≤ length T.elements
    within =
        let l : z * i + z ≤ z * 8 = place_within z i (omega (arith, q.record_is, h.free)) in
        let b : z * 8 ≤ length T.elements = rw q.place_is h.table.run_long in
        omega (arith, l, b, q.place_is, q.size_is)

    pub small : z * i + n ≤ 6984
    small =
        let a : z ≤ 776 = omega (arith, q.place_is, h.table.limited.entries_most, h.table.limited.gates_most) in
        let b : i ≤ 8 = omega (arith, q.record_is, h.free) in
        let l : z * i ≤ 776 * 8 = mul-le-mul a b in
        omega (arith, l, a, q.place_is, q.size_is)

    pub brought : Brought n m x
    brought = rw q.size_is h.brought

    pub brought_long : length (share_at n m) ≡ n
    brought_long = rw q.size_is elements_long

    -- the elements, read into the place
    module _ (es : List ℕ) (e : es ≡ splice T.elements (z * i) (share_at n m)) where
      pub place_reads : take (z * i + n - z * i) (drop (z * i) es) ≡ share_at (size_of k.entries k.gates) m
      place_reads =
          let f : z * i + length (share_at n m) ≤ length T.elements = omega (arith, within, brought_long) in
          rw (span (z * i) n es, e, ← q.size_is) (part_splice T.elements (z * i) (share_at n m) f n brought_long)

      pub judgeable : Judgeable T.bytes k (take (z * i + n - z * i) (drop (z * i) es)) r s
      judgeable =
          rw place_reads
          (record {
            table = headed_of T k h.table;
            size = elements_long;
            elements = h.elements;
            r_below = h.r_below;
            s_below = h.s_below;
          })
