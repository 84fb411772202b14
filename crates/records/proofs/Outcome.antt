-- Laws of checks in an order: the first refusal counts, and there is none exactly where each check gives 0. They go by
-- the first number, as `or_else` is defined. Assumes nothing.
use mathlib.Core.Path.{◌≡◌, refl, sym}
use mathlib.Core.List.{List, [], ◌∷◌, ◌++◌}
use Prim.Native.Nat.{ℕ, zero, suc}
use native.Mathlib.Omega.{arith}
use Rattle.algebra.specs.Lists.{All, all[], all∷}
use Rattle.records.specs.Outcome.{or_else, first}

pub or_none : (b : ℕ) → or_else 0 b ≡ b
unfolding or_else
or_none b = refl

pub or_first : (a b : ℕ) → (a ≡ 0 → ⊥) → or_else a b ≡ a
unfolding or_else
or_first zero b h = absurd (h refl)
or_first (suc a) b h = refl

pub or_assoc : (a b c : ℕ) → or_else (or_else a b) c ≡ or_else a (or_else b c)
unfolding or_else
or_assoc zero b c = refl
or_assoc (suc a) b c = refl

-- no refusal of both is no refusal of each
pub or_zero : (a b : ℕ) → or_else a b ≡ 0 → (a ≡ 0) × (b ≡ 0)
unfolding or_else
or_zero zero b h = (refl, h)
or_zero (suc a) b h = absurd (omega arith)

pub first_append : (s t : List ℕ) → first (s ++ t) ≡ or_else (first s) (first t)
unfolding first
first_append [] t = sym (or_none (first t))
first_append (a ∷ s) t = rw (first_append s t) (sym (or_assoc a (first s) (first t)))

-- no refusal is no refusal of each, and back
pub first_zero : (s : List ℕ) → first s ≡ 0 → All (λ a. a ≡ 0) s
unfolding first
first_zero [] h = all[]
first_zero (a ∷ s) h =
    let z = or_zero a (first s) h in
    all∷ z.0 (first_zero s z.1)

pub zero_first : (s : List ℕ) → All (λ a. a ≡ 0) s → first s ≡ 0
unfolding first
zero_first [] all[] = refl
zero_first (a ∷ s) (all∷ h z) = rw (h, or_none (first s)) (zero_first s z)
