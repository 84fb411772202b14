-- Sums, products and interpolation under a map that keeps the operations: what is proved in a field holds of the numbers
-- that code computes with. Each definition is taken apart once. Assumes nothing.
use mathlib.Core.Path.{◌≡◌, refl, sym, ◌∙◌, ap, ap₂}
use mathlib.Core.List.{List, [], ◌∷◌, map}
use Prim.Native.Nat.{ℕ, zero, suc, ◌+◌, ◌-◌}
use Rattle.algebra.specs.Ops.{Ops, Hom, minus}
use Rattle.algebra.specs.Sums.{sum, product, inner, power}
use Rattle.algebra.specs.Polynomial.{horner}
use Rattle.algebra.specs.Interpolation.{ascending, descending, others, weight, basis, interpolate, numerator, sign}
use Rattle.algebra.proofs.Sums.{sum_ext, product_ext}

module _ {A B : Ops} (h : Hom A B) where
  open h use {φ, add, mul, opp, nil, one, rec, num}

  pub sum_hom : (m : ℕ) (g : ℕ → A.F) → φ (sum A m g) ≡ sum B m (λ i. φ (g i))
  unfolding sum
  sum_hom zero g = nil
  sum_hom (suc m) g = add _ _ ∙ ap (λ t. B.◌⊕◌ t (φ (g m))) (sum_hom m g)

  pub product_hom : (m : ℕ) (g : ℕ → A.F) → φ (product A m g) ≡ product B m (λ i. φ (g i))
  unfolding product
  product_hom zero g = one
  product_hom (suc m) g = mul _ _ ∙ ap (λ t. B.◌⊗◌ t (φ (g m))) (product_hom m g)

  pub inner_hom : (m : ℕ) (x y : ℕ → A.F) → φ (inner A m x y) ≡ inner B m (λ i. φ (x i)) (λ i. φ (y i))
  inner_hom m x y = sum_hom m (λ i. A.◌⊗◌ (x i) (y i)) ∙ sum_ext B m _ _ (λ i l. mul _ _)

  pub power_hom : (s : A.F) (k : ℕ) → φ (power A s k) ≡ power B (φ s) k
  power_hom s k = product_hom k (λ i. s)

  pub horner_hom : (cs : List A.F) (x : A.F) → φ (horner A cs x) ≡ horner B (map φ cs) (φ x)
  unfolding horner
  horner_hom [] x = nil
  horner_hom (c ∷ cs) x = add _ _ ∙ ap (B.◌⊕◌ (φ c)) (mul _ _ ∙ ap (B.◌⊗◌ (φ x)) (horner_hom cs x))

  minus_hom : (x : A.F) (k : ℕ) → φ (minus A x (A.ι k)) ≡ minus B (φ x) (B.ι k)
  minus_hom x k = add _ _ ∙ ap (B.◌⊕◌ (φ x)) (opp _ ∙ ap B.neg (num k))

  pub ascending_hom : (s m : ℕ) (x : A.F) → φ (ascending A s m x) ≡ ascending B s m (φ x)
  ascending_hom s m x = product_hom m _ ∙ product_ext B m _ _ (λ i l. minus_hom x (s + i))

  pub descending_hom : (s m : ℕ) (x : A.F) → φ (descending A s m x) ≡ descending B s m (φ x)
  unfolding descending
  descending_hom s zero x = one
  descending_hom s (suc m) x = mul _ _ ∙ ap₂ B.◌⊗◌ (minus_hom x s) (descending_hom (suc s) m x)

  pub others_hom : (n j : ℕ) (x : A.F) → φ (others A n j x) ≡ others B n j (φ x)
  unfolding others
  others_hom n j x = mul _ _ ∙ ap₂ B.◌⊗◌ (ascending_hom 0 j x) (descending_hom (suc j) (n - j) x)

  pub weight_hom : (n j : ℕ) → φ (weight A n j) ≡ weight B n j
  unfolding weight
  weight_hom n j = rec _ ∙ ap B.inv (others_hom n j _ ∙ ap (others B n j) (num j))

  pub basis_hom : (n j : ℕ) (x : A.F) → φ (basis A n j x) ≡ basis B n j (φ x)
  unfolding basis
  basis_hom n j x = mul _ _ ∙ ap₂ B.◌⊗◌ (weight_hom n j) (others_hom n j x)

  pub interpolate_hom : (n : ℕ) (y : ℕ → A.F) (x : A.F) → φ (interpolate A n y x) ≡ interpolate B n (λ j. φ (y j)) (φ x)
  unfolding interpolate
  interpolate_hom n y x =
      inner_hom (suc n) y (λ j. basis A n j x)
      ∙ sum_ext B (suc n) _ _ (λ j l. ap (B.◌⊗◌ (φ (y j))) (basis_hom n j x))

  pub numerator_hom : (s n : ℕ) (x : A.F) (t : ℕ → A.F)
      → φ (numerator A s x n t) ≡ numerator B s (φ x) n (λ i. φ (t i))
  unfolding numerator
  numerator_hom s zero x t = nil
  numerator_hom s (suc n) x t =
      add _ _
      ∙ ap₂ B.◌⊕◌ (mul _ _ ∙ ap₂ B.◌⊗◌ (numerator_hom s n x t) (minus_hom x (s + n)))
      (mul _ _ ∙ ap (B.◌⊗◌ (φ (t n))) (ascending_hom s n x))

  pub sign_hom : (n : ℕ) → φ (sign A n) ≡ sign B n
  unfolding sign
  sign_hom zero = one
  sign_hom (suc n) = opp _ ∙ ap B.neg (sign_hom n)
