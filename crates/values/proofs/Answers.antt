-- The refusals of an encoding in their order, by the cases of each check. Assumes nothing.
use mathlib.Core.Path.{◌≡◌, refl, ◌∙◌}
use mathlib.Core.Bool.{Bool, true, false, ◌&&◌}
use mathlib.Core.List.{List}
use Prim.Native.Nat.{ℕ, ◌*◌, ◌≤◌, ◌<◌}
use native.Mathlib.Omega.{arith}
use borrow.Author.Tests.{lt-leb, le-leb, leb-true, eq-eqb, ne_eqb, eqb-true}
use lib.Dec.{leb, eqb}
use lib.ListN.{length}
use Rattle.words.specs.Bytes.{elements_of}
use Rattle.records.specs.Outcome.{ok, or_else}
use Rattle.records.proofs.Outcome.{or_none, or_first, or_zero}
use Rattle.rules.specs.Columns.{entries_in, read_sheet, sheet_fault, columns_of, check}
use Rattle.rules.specs.Values.{legal_values}
use Rattle.rules.specs.Making.{values_fault}
use Rattle.rules.proofs.Circuits.Refusals.{sheet_read, sheet_fault_lem}
use Rattle.values.specs.Encode.{encode_refusal, encoded_into, encode_out, Encodable}

check_zero : (b : Bool) (n : ℕ) → check b n ≡ 0 → (n ≡ 0 → ⊥) → b ≡ true
check_zero true n h z = refl
check_zero false n h z = absurd (z h)

both : (a b : Bool) → a && b ≡ true → a ≡ true
both true b h = refl
both false b h = h

module _ (s values : List ℕ) (room : ℕ) where
  pub refused_sheet : (n : ℕ) → sheet_fault s ≡ n → (n ≡ 0 → ⊥) → encode_refusal s values room ≡ n
  unfolding encode_refusal
  refused_sheet n e z = rw e (or_first n _ z)

  module _ (is_read : read_sheet s ≡ ok (columns_of s)) where
    after_sheet : encode_refusal s values room
        ≡ or_else (values_fault (columns_of s) values) (check (leb (entries_in (columns_of s)) room) 14)
    unfolding encode_refusal
    after_sheet = rw (sheet_fault_lem s (columns_of s) is_read).0 (or_none _)

    pub refused_values : (values_fault (columns_of s) values ≡ 0 → ⊥) → encode_refusal s values room ≡ values_fault (columns_of s) values
    refused_values z = after_sheet ∙ or_first _ _ z

    module _ (legal : values_fault (columns_of s) values ≡ 0) where
      after_values : encode_refusal s values room ≡ check (leb (entries_in (columns_of s)) room) 14
      after_values = after_sheet ∙ rw legal (or_none _)

      pub refused_room : room < entries_in (columns_of s) → encode_refusal s values room ≡ 14
      refused_room h = after_values ∙ rw (lt-leb (entries_in (columns_of s)) room h)

      pub not_refused : entries_in (columns_of s) ≤ room → encode_refusal s values room ≡ 0
      not_refused h = after_values ∙ rw (le-leb (entries_in (columns_of s)) room h)

module _ (s values out : List ℕ) where
  pub out_kept : (encode_refusal s values (length out) ≡ 0 → ⊥) → encode_out s values out ≡ out
  unfolding encode_out
  out_kept h = rw (ne_eqb (encode_refusal s values (length out)) 0 h)

  pub out_put : encode_refusal s values (length out) ≡ 0 → encode_out s values out ≡ encoded_into s values out
  unfolding encode_out
  out_put h = rw (eq-eqb (encode_refusal s values (length out)) 0 h)

  pub encodable : encode_refusal s values (length out) ≡ 0 → Encodable s values out
  unfolding encode_refusal values_fault
  encodable h =
      let a = or_zero (sheet_fault s) _ h in
      let b = or_zero (values_fault (columns_of s) values) _ a.1 in
      let each : eqb (length values) (4 * length (columns_of s)) ≡ true
      = both _ (legal_values (columns_of s) (elements_of 4 values))
      (check_zero (eqb (length values) (4 * length (columns_of s)) && legal_values (columns_of s) (elements_of 4 values)) 5 b.0
      (λ z. omega arith)) in
      let fits : leb (entries_in (columns_of s)) (length out) ≡ true
      = check_zero (leb (entries_in (columns_of s)) (length out)) 14 b.1 (λ z. omega arith) in
      record {
        is_read = sheet_read s a.0;
        a_value_each = eqb-true (length values) (4 * length (columns_of s)) each;
        room = leb-true (entries_in (columns_of s)) (length out) fits;
      }
