-- What the rules read of a list that is lent: the definition asks one test, so each law is that test's outcome put in.
-- Assumes nothing.
use Rattle.std.proofs.Common.{◌≡◌, List, length, replicate, refl}
use borrow.Author.Tests.{eq-eqb, ne_eqb}
use Rattle.slots.specs.declared.Slot.{Slot}
use Rattle.slots.specs.Slots.{broken_slot, eight_of}

-- eight records that are lent are those that the rules work on
pub eight_is : (ys : List Slot) → length ys ≡ 8 → eight_of ys ≡ ys
unfolding eight_of
eight_is ys e = rw (eq-eqb (length ys) 8 e) refl

pub eight_broken : (ys : List Slot) → (length ys ≡ 8 → ⊥) → eight_of ys ≡ replicate 8 broken_slot
unfolding eight_of
eight_broken ys ne = rw (ne_eqb (length ys) 8 ne) refl
