-- The refusals of making, in their order: by the first check that fails. And what holds where there is none.
-- Assumes nothing.
use mathlib.Core.Path.{◌≡◌, refl, ap, ◌∙◌}
use mathlib.Core.Bool.{◌&&◌}
use mathlib.Core.List.{List}
use Prim.Native.Nat.{ℕ, ◌+◌, ◌-◌, ◌*◌, ◌≤◌, ◌<◌}
use native.Mathlib.Nat.{mul-le-mul}
use native.Mathlib.Omega.{arith}
use borrow.Author.Tests.{lt-leb, le-leb, leb-true, eqb-true}
use lib.Dec.{leb, eqb}
use lib.ListN.{length}
use Rattle.algebra.proofs.Members.{and_left, and_right}
use Rattle.words.specs.Bytes.{elements_of, all_below}
use Rattle.words.proofs.Below.{all_of_below}
use Rattle.records.specs.Outcome.{Outcome, ok, refused}
use Rattle.records.specs.Refusals.{number_of}
use Rattle.records.specs.Answers.{answered}
use Rattle.records.specs.declared.Refusal.{Refusal}
use Rattle.records.specs.declared.Refusal.TheVariants as why
use Rattle.field.specs.Residues.{prime}
use Rattle.rules.specs.Settings.{document01}
use Rattle.rules.specs.Columns.{check, read_sheet, sheet_fault, columns_of}
use Rattle.rules.specs.Judging.{share_size}
use Rattle.rules.specs.Making.{share_length, random_count, random_fault, make_refusal}
use Rattle.columns.specs.declared.Counts.{Counts}
use Rattle.steps.proofs.Parts.{check_holds}
use Rattle.whole.specs.Pieces.{Counted}
use Rattle.whole.proofs.Room.{room}
use Rattle.whole.proofs.Refusals.{early_fault, in_order, passed, sheet_refused, early_refused, fourth_refused, last_refused, none_refused}
use Rattle.client.specs.Pieces.{random_fault_at, Random, message_bytes, Makeable}

module _ (sheet values random : List ℕ) (servers room : ℕ) where
  abbrev refusal : ℕ
  refusal = make_refusal document01 sheet servers values random room

  abbrev fault : ℕ
  fault = random_fault_at servers (share_size (columns_of sheet)) random

  abbrev bytes : ℕ
  bytes = servers * (6 + 4 * share_size (columns_of sheet))

  abbrev no_room : ℕ
  no_room = check (leb bytes room) 14

  abbrev answer : Outcome ℕ
  answer = answered refusal (servers * share_length document01 (columns_of sheet))

  refusal_is : in_order sheet values servers fault no_room ≡ refusal
  unfolding make_refusal random_fault random_fault_at random_count share_length
  refusal_is = refl

  answer_is : answered (in_order sheet values servers fault no_room) bytes ≡ answer
  unfolding share_length
  answer_is = ap (λ (f : ℕ). answered f bytes) refusal_is

  pub by_sheet : (r : Refusal) → number_of r ≡ sheet_fault sheet → refused (number_of r) ≡ answer
  by_sheet r e = sheet_refused sheet values servers fault no_room bytes r e ∙ answer_is

  module _ (is_read : read_sheet sheet ≡ ok (columns_of sheet)) where
    pub by_early : (r : Refusal) → number_of r ≡ early_fault sheet values servers → refused (number_of r) ≡ answer
    by_early r e = early_refused sheet values servers fault no_room bytes is_read r e ∙ answer_is

    module _ (legal : 0 ≡ early_fault sheet values servers) where
      pub by_random : (r : Refusal) → number_of r ≡ fault → refused (number_of r) ≡ answer
      by_random r e = fourth_refused sheet values servers fault no_room bytes is_read legal r e ∙ answer_is

      module _ (sound : 0 ≡ fault) where
        pub by_room : room < bytes → refused 14 ≡ answer
        by_room h =
            last_refused sheet values servers fault no_room bytes is_read legal sound why.Room (rw (lt-leb bytes room h)) ∙ answer_is

        pub by_none : (m : ℕ) → bytes ≤ room → m ≡ bytes → ok m ≡ answer
        by_none m h e =
            none_refused sheet values servers fault no_room bytes is_read legal sound m (rw (le-leb bytes room h)) e ∙ answer_is

-- ---- where nothing is refused
module _ (sheet values random out : List ℕ) (servers : ℕ) (k : Counts) (counted : Counted sheet k) where
  random_given : (size : ℕ) → servers ≤ 8 → size ≤ 774 → random_fault_at servers size random ≡ 0 → Random random (servers - 1) size
  unfolding random_fault_at
  random_given size few small h =
      let both = check_holds (eqb (length random) (4 * ((servers - 1) * size + 4)) && all_below prime (elements_of 4 random)) 5 h in
      record {
        few = omega arith;
        small = small;
        long = eqb-true _ _ (and_left (eqb (length random) (4 * ((servers - 1) * size + 4))) _ both);
        elements =
            all_of_below prime (elements_of 4 random) (and_right (eqb (length random) (4 * ((servers - 1) * size + 4))) _ both);
      }

  pub makeable : make_refusal document01 sheet servers values random (length out) ≡ 0 → Makeable sheet k servers values random out
  makeable h =
      let size = share_size (columns_of sheet) in
      let p = passed sheet values servers _ _ (refusal_is sheet values random servers (length out) ∙ h) in
      record {
        counted = counted;
        some = p.several.0;
        legal = p.legal;
        elements = random_given size p.several.1 (room counted).size_small p.fourth;
        room = leb-true _ _ (check_holds (leb (servers * message_bytes size) (length out)) 13 p.last);
      }

-- all messages of S servers
pub messages_small : (servers size : ℕ) → servers ≤ 8 → size ≤ 774 → servers * (6 + 4 * size) ≤ 24816
messages_small servers size h k = mul-le-mul {n₁ = servers} {m₁ = 6 + 4 * size} {n₂ = 8} {m₂ = 3102} h (omega arith)
