-- Laws of refusals by number: no refusal is 0, and of two calls in turn the first refusal counts. Assumes nothing.
use mathlib.Core.Path.{◌≡◌, refl, sym, ◌∙◌}
use Prim.Native.Nat.{ℕ, ◌<◌}
use native.Mathlib.Omega.{arith}
use Rattle.std.specs.Prelude.{Result}
use Rattle.std.specs.Result.{IsErrAnd}
use Rattle.std.proofs.lemmas.Result.{err_from_is_err_and}
use Rattle.records.specs.Outcome.{refused, or_else}
use Rattle.records.specs.Refusals.{number_of, fault_of, outcome_of}
use Rattle.records.specs.declared.Refusal.{Refusal}
use Rattle.records.specs.declared.Refusal.TheVariants as why
use Rattle.records.proofs.Outcome.{or_none, or_first}

-- no refusal is 0
pub number_positive : (r : Refusal) → 0 < number_of r
number_positive why.Kind = omega arith
number_positive why.Limit = omega arith
number_positive why.Wire = omega arith
number_positive why.Wrap = omega arith
number_positive why.Value = omega arith
number_positive why.Random = omega arith
number_positive why.Share = omega arith
number_positive why.Element = omega arith
number_positive why.Pair = omega arith
number_positive why.Decided = omega arith
number_positive why.Stage = omega arith
number_positive why.Joined = omega arith
number_positive why.Full = omega arith
number_positive why.Room = omega arith
number_positive why.Few = omega arith
number_positive why.Unequal = omega arith
number_positive why.Many = omega arith
number_positive why.NoLine = omega arith
number_positive why.Run = omega arith

pub number_nonzero : (r : Refusal) → number_of r ≡ 0 → ⊥
number_nonzero r z = omega (arith, number_positive r)

-- of two faults the first counts, where it is that of a refusal r; the second, where there is no first
pub first_counts : (r : Refusal) (a b : ℕ) → number_of r ≡ a → number_of r ≡ or_else a b
first_counts r a b e = e ∙ sym (or_first a b (λ z. number_nonzero r (e ∙ z)))

pub second_counts : (a b f : ℕ) → 0 ≡ a → f ≡ b → f ≡ or_else a b
second_counts a b f e h = h ∙ sym (rw (sym e) (or_none b))

module _ {A : Type 0} where
  -- what a `?` passes on is the refusal that it met
  pub fault_passed : (r : Result A Refusal) (e : Refusal) → IsErrAnd r (λ y. y ≡ e) → fault_of r ≡ number_of e
  fault_passed r e h = let p = err_from_is_err_and r h in rw (p.1, p.2) refl

  pub outcome_passed : (r : Result A Refusal) (e : Refusal) → IsErrAnd r (λ y. y ≡ e) → outcome_of r ≡ refused (number_of e)
  outcome_passed r e h = let p = err_from_is_err_and r h in rw (p.1, p.2) refl
