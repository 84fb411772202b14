-- The totals of a table, word by word, and the sheet of its bytes: what the loop over the columns reads. The places are rules'
-- at document 01's setting. Assumes nothing.
use mathlib.Core.Path.{◌≡◌, refl, sym, ap, ◌∙◌}
use mathlib.Core.List.{List}
use Prim.Native.Nat.{ℕ, ◌+◌, ◌*◌, ◌≤◌, ◌<◌}
use native.Mathlib.Omega.{arith}
use lib.Dec.{lit<}
use lib.ListN.{length, get_or}
use Rattle.words.specs.Bytes.{value_of, part, elements_of}
use Rattle.words.proofs.Splice.{length_part}
use Rattle.words.proofs.Elements.{element_within}
use Rattle.words.proofs.Below.{all_of_below}
use Rattle.records.specs.Outcome.{ok}
use Rattle.field.specs.Residues.{prime}
use Rattle.field.proofs.Below.{member_below}
use Rattle.rules.specs.Settings.{document01}
use Rattle.rules.specs.Columns.{read_sheet, entries_in, published_in}
use Rattle.rules.specs.Table.{header_length, sheet_size, sheet_in, columns_in, totals_in, totals_place}
use Rattle.rules.proofs.Circuits.Refusals.{sheet_read}
use Rattle.steps.proofs.Parts.{part_of_part}
use Rattle.layout.specs.Places.{totals_at}
use Rattle.layout.specs.declared.Table.{Table}
use Rattle.layout.specs.Numbers.{table_of}
use Rattle.entering.specs.Totals.{word_at, Adds}

-- ---- what a table says, in the numbers of code
pub record Says (t : List ℕ) (k : Table) : Type 0 where
  pub sheet_is : k.sheet ≡ sheet_size document01 t
  pub published_is : k.published ≡ published_in (columns_in document01 t)
  pub entries_is : k.entries ≡ entries_in (columns_in document01 t)

says_at : (t : List ℕ) → Says t (table_of t)
unfolding table_of
says_at t = record { sheet_is = refl; published_is = refl; entries_is = refl }

pub says : (t : List ℕ) (k : Table) → k ≡ table_of t → Says t k
says t k e = rw e (says_at t)

-- ---- words of a run of elements
word_of : (t : List ℕ) (a n j : ℕ) → a + 4 * n ≤ length t → j < n → word_at t (a + 4 * j) ≡ get_or (elements_of 4 (part a (4 * n) t)) j 0
word_of t a n j h l =
    let long : length (part a (4 * n) t) ≡ 4 * n = length_part a (4 * n) t h in
    sym (element_within 4 (lit< tt) (part a (4 * n) t) j (omega arith) ∙ ap value_of (part_of_part (4 * j) 4 a (4 * n) t (omega arith)))

module _ (t : List ℕ) (k : Table) (xs : List ℕ) (v : Adds t k xs) where
  pub total_word : (j : ℕ) → j < k.published → word_at t (totals_at k.sheet + 4 * j) ≡ get_or (totals_in document01 t) j 0
  unfolding totals_place
  total_word j h =
      let n = says t k v.headed.says in
      rw n.sheet_is
      (word_of t (header_length + sheet_size document01 t) (published_in (columns_in document01 t)) j
      (omega (arith, n.sheet_is, n.published_is, v.long)) (omega (arith, n.published_is)))

  -- its totals are elements, and its sheet is read
  pub total_below : (j : ℕ) → get_or (totals_in document01 t) j 0 < prime
  total_below j = member_below (totals_in document01 t) j (all_of_below prime (totals_in document01 t) v.totals_below)

  pub sheet_reads : read_sheet (sheet_in document01 t) ≡ ok (columns_in document01 t)
  sheet_reads = sheet_read (sheet_in document01 t) v.headed.no_fault_lem

  pub sheet_long : length (sheet_in document01 t) ≡ k.sheet
  sheet_long =
      let n = says t k v.headed.says in
      length_part header_length (sheet_size document01 t) t (omega (arith, n.sheet_is, v.long)) ∙ sym n.sheet_is
