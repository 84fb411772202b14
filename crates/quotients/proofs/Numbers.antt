-- The field of residues, whose elements have the numbers below the prime as values, and in it the weights of points by
-- inverses of factorials. Assumes nothing.
use mathlib.Core.Path.{◌≡◌, sym, ◌∙◌, ap, ap₂}
use mathlib.Core.Logic.{◌≢◌}
use Prim.Native.Nat.{ℕ, suc, ◌-◌, ◌≤◌, ◌<◌}
use native.Mathlib.Nat.{mod-eq_of_lt}
use native.Mathlib.Omega.{arith}
use Rattle.algebra.specs.Ops.{Field, Hom}
use Rattle.algebra.specs.Interpolation.{weight, sign}
use Rattle.algebra.proofs.Trial.{prime_2147483647}
use Rattle.algebra.proofs.Residues.{residues as residueField, to_numbers, value_of, points_apart}
use Rattle.algebra.proofs.Sums.{product_ext}
use Rattle.algebra.proofs.Homs.{product_hom, weight_hom, sign_hom}
use Rattle.algebra.proofs.Weights.{weight_factorial}
use Rattle.algebra.proofs.Weights as weights
use Rattle.field.specs.Residues.{prime, residues}
use Rattle.field.proofs.Below.{inverse_below}
use Rattle.quotients.specs.Factorials.{inverse_factorial, next_over}
use Rattle.quotients.proofs.Steps.{weight_next, weight_mirror}

-- the field, and the values of its elements
abbrev pub 𝓕 : Field
𝓕 = residueField prime prime_2147483647

abbrev pub values : Hom 𝓕.ops residues
values = to_numbers prime prime_2147483647

-- a number below the prime is the value of an element
pub back : {x : ℕ} → x < prime → values.φ (𝓕.ops.ι x) ≡ x
back {x} h = value_of prime prime_2147483647 x h

-- the numbers from 1 below the prime are not 0 in the field
pub not_zero : (i : ℕ) → suc i < prime → 𝓕.ops.ι (suc i) ≢ 𝓕.ops.𝟘
not_zero i h e = points_apart prime prime_2147483647 (suc i) 0 h (omega arith) (omega arith) (e ∙ sym 𝓕.law_ι_zero)

-- ---- the weights
pub inverse_value : (m : ℕ) → m < prime → values.φ (weights.inverse_factorial 𝓕 m) ≡ inverse_factorial m
inverse_value m h =
    product_hom values m _
    ∙ product_ext residues m _ _
    (λ i l. values.rec _ ∙ ap residues.inv (values.num (suc i) ∙ mod-eq_of_lt (omega arith)))

pub weight_is : (n j : ℕ) → j ≤ n → n < prime
    → weight residues n j
    ≡ residues.◌⊗◌ (inverse_factorial j) (residues.◌⊗◌ (sign residues (n - j)) (inverse_factorial (n - j)))
weight_is n j h l =
    sym (weight_hom values n j)
    ∙ ap values.φ (weight_factorial 𝓕 n j h (λ i k. not_zero i (omega arith)))
    ∙ values.mul _ _
    ∙ ap₂ residues.◌⊗◌ (inverse_value j (omega arith))
    (values.mul _ _ ∙ ap₂ residues.◌⊗◌ (sign_hom values (n - j)) (inverse_value (n - j) (omega arith)))

pub weight_step : (n j : ℕ) → j < n → n < prime
    → weight residues n (suc j) ≡ residues.◌⊗◌ (weight residues n j) (next_over n j)
weight_step n j h l =
    sym (weight_hom values n (suc j))
    ∙ ap values.φ (weight_next 𝓕 n j h (λ i k. not_zero i (omega arith)))
    ∙ values.mul _ _
    ∙ ap₂ residues.◌⊗◌ (weight_hom values n j)
    (values.mul _ _
    ∙ ap₂ residues.◌⊗◌
    (values.opp _ ∙ ap residues.neg (values.num (n - j) ∙ mod-eq_of_lt (omega arith)))
    (values.rec _ ∙ ap residues.inv (values.num (suc j) ∙ mod-eq_of_lt (omega arith))))

pub weight_across : (n j : ℕ) → j ≤ n → n < prime
    → weight residues n j ≡ residues.◌⊗◌ (sign residues n) (weight residues n (n - j))
weight_across n j h l =
    sym (weight_hom values n j)
    ∙ ap values.φ (weight_mirror 𝓕 n j h (λ i k. not_zero i (omega arith)))
    ∙ values.mul _ _
    ∙ ap₂ residues.◌⊗◌ (sign_hom values n) (weight_hom values n (n - j))

pub weight_below : (n j : ℕ) → weight residues n j < prime
unfolding weight
weight_below n j = inverse_below _
