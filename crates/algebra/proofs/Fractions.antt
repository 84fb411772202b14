-- Interpolation as a sum of fractions. The numerator of the sum of t j / (x - j) is the sum of t j times the product of
-- x - k over the other k, so with values times weights it is the polynomial at x; a point may be taken by itself.
-- Assumes nothing.
use mathlib.Core.Path.{◌≡◌, refl, sym, ◌∙◌, ap, ap₂}
use Prim.Native.Nat.{ℕ, zero, suc, ◌+◌, ◌-◌, ◌≤◌, ◌<◌}
use native.Mathlib.Nat.{add-zero as n-add-zero, zero-add as n-zero-add}
use native.Mathlib.Omega.{arith}
use Rattle.algebra.specs.Ops.{Ops, Field, minus}
use Rattle.algebra.specs.Sums.{sum, product}
use Rattle.algebra.specs.Interpolation.{ascending, others, weight, basis, interpolate, numerator}
use Rattle.algebra.proofs.Ring.{ring, mul-one, one-mul, mul_assoc}
use Rattle.algebra.proofs.Sums.{sum_ext, sum_times}
use Rattle.algebra.proofs.Interpolation.{others_ascending, ascending_front}

module _ (O : Ops) where
  -- equal terms
  pub numerator_ext : (s n : ℕ) (x : O.F) (t u : ℕ → O.F) → ((i : ℕ) → i < n → t i ≡ u i)
      → numerator O s x n t ≡ numerator O s x n u
  unfolding numerator
  numerator_ext s zero x t u e = refl
  numerator_ext s (suc n) x t u e =
      ap₂ (λ a b. O.◌⊕◌ (O.◌⊗◌ a (minus O x (O.ι (s + n)))) (O.◌⊗◌ b (ascending O s n x)))
      (numerator_ext s n x t u (λ i l. e i (omega arith)))
      (e n (omega arith))

module _ (𝓕 : Field) where
  open 𝓕.ops use {F, ◌⊕◌, ◌⊗◌, neg, 𝟘, 𝟙, ι}

  infixl 65 ◌⊕◌
  infixl 70 ◌⊗◌
  abbrev O : Ops
  O = 𝓕.ops

  -- ---- two fractions after another, or their sum at once
  pub id_two : (s p t d u e : F) → (s ⊗ d ⊕ t ⊗ p) ⊗ e ⊕ u ⊗ (p ⊗ d) ≡ s ⊗ (d ⊗ e) ⊕ (t ⊗ e ⊕ u ⊗ d) ⊗ p
  id_two s p t d u e = simp ring

  -- ---- the numerator as a sum over the points
  -- the product over the points other than the j-th of n
  abbrev rest : ℕ → F → ℕ → ℕ → F
  rest s x n j = ascending O s j x ⊗ ascending O (s + suc j) (n - 1 - j) x

  rest_more : (s n j : ℕ) (x : F) → j < n → rest s x n j ⊗ minus O x (ι (s + n)) ≡ rest s x (suc n) j
  unfolding product
  rest_more s n j x h =
      let last : s + n ≡ s + suc j + (n - 1 - j) = omega arith in
      let more : suc (n - 1 - j) ≡ suc n - 1 - j = omega arith in
      mul_assoc 𝓕 _ _ _
      ∙ ap (ascending O s j x ⊗◌)
      (ap (λ k. ascending O (s + suc j) (n - 1 - j) x ⊗ minus O x (ι k)) last ∙ ap (λ m. ascending O (s + suc j) m x) more)

  rest_last : (s n : ℕ) (x : F) → rest s x (suc n) n ≡ ascending O s n x
  unfolding product
  rest_last s n x =
      ap (λ m. ascending O s n x ⊗ ascending O (s + suc n) m x) (let e : suc n - 1 - n ≡ 0 = omega arith in e)
      ∙ mul-one 𝓕 _

  numerator_sum : (s n : ℕ) (x : F) (t : ℕ → F) → numerator O s x n t ≡ sum O n (λ j. t j ⊗ rest s x n j)
  unfolding numerator sum
  numerator_sum s zero x t = refl
  numerator_sum s (suc n) x t =
      ap₂ ◌⊕◌
      (ap (◌⊗ minus O x (ι (s + n))) (numerator_sum s n x t)
      ∙ sym (sum_times 𝓕 n _ _)
      ∙ sum_ext O n _ _ (λ j l. mul_assoc 𝓕 _ _ _ ∙ ap (t j ⊗◌) (rest_more s n j x l)))
      (ap (t n ⊗◌) (sym (rest_last s n x)))

  -- ---- values times weights give the polynomial
  pub numerator_interpolate : (n : ℕ) (x : F) (y : ℕ → F)
      → numerator O 0 x (suc n) (λ j. y j ⊗ weight O n j) ≡ interpolate O n y x
  unfolding interpolate basis
  numerator_interpolate n x y =
      numerator_sum 0 (suc n) x _
      ∙ sum_ext O (suc n) _ _
      (λ j l. mul_assoc 𝓕 _ _ _ ∙ ap (λ o. y j ⊗ (weight O n j ⊗ o)) (same j))
    where
      same : (j : ℕ) → rest 0 x (suc n) j ≡ others O n j x
      same j =
          ap₂ (λ k m. ascending O 0 j x ⊗ ascending O k m x) (n-zero-add (suc j))
          (let e : suc n - 1 - j ≡ n - j = omega arith in e)
          ∙ sym (others_ascending 𝓕 n j x)

  -- ---- the first point by itself
  id_front_none : (t d : F) → 𝟘 ⊗ d ⊕ t ⊗ 𝟙 ≡ t ⊗ 𝟙 ⊕ d ⊗ 𝟘
  id_front_none t d = simp ring

  id_front : (t a d s e u b : F) → (t ⊗ a ⊕ d ⊗ s) ⊗ e ⊕ u ⊗ (d ⊗ b) ≡ t ⊗ (a ⊗ e) ⊕ d ⊗ (s ⊗ e ⊕ u ⊗ b)
  id_front t a d s e u b = simp ring

  pub numerator_front : (s n : ℕ) (x : F) (t : ℕ → F)
      → numerator O s x (suc n) t
      ≡ t 0 ⊗ ascending O (suc s) n x ⊕ minus O x (ι s) ⊗ numerator O (suc s) x n (λ i. t (suc i))
  unfolding numerator product
  numerator_front s zero x t = ap (λ k. 𝟘 ⊗ minus O x (ι k) ⊕ t 0 ⊗ 𝟙) (n-add-zero s) ∙ id_front_none _ _
  numerator_front s (suc n) x t =
      ap₂ (λ u v. u ⊗ minus O x (ι (s + suc n)) ⊕ t (suc n) ⊗ v) (numerator_front s n x t) (ascending_front 𝓕 s n x)
      ∙ ap (λ k. (t 0 ⊗ ascending O (suc s) n x ⊕ minus O x (ι s) ⊗ numerator O (suc s) x n (λ i. t (suc i)))
      ⊗ minus O x (ι k) ⊕ t (suc n) ⊗ (minus O x (ι s) ⊗ ascending O (suc s) n x))
      (let e : s + suc n ≡ suc s + n = omega arith in e)
      ∙ id_front _ _ _ _ _ _ _

  -- in front is the point 0
  id_zero : (x : F) → x ⊕ neg 𝟘 ≡ x
  id_zero x = simp ring

  pub numerator_zero : (n : ℕ) (x : F) (t : ℕ → F)
      → numerator O 0 x (suc n) t ≡ t 0 ⊗ ascending O 1 n x ⊕ x ⊗ numerator O 1 x n (λ i. t (suc i))
  numerator_zero n x t =
      numerator_front 0 n x t
      ∙ ap (λ d. t 0 ⊗ ascending O 1 n x ⊕ d ⊗ numerator O 1 x n (λ i. t (suc i)))
      (ap (λ z. x ⊕ neg z) 𝓕.law_ι_zero ∙ id_zero x)

  pub basis_zero : (n : ℕ) (x : F) → basis O n 0 x ≡ weight O n 0 ⊗ ascending O 1 n x
  unfolding basis product
  basis_zero n x =
      ap (weight O n 0 ⊗◌)
      (others_ascending 𝓕 n 0 x
      ∙ one-mul 𝓕 _
      ∙ ap (λ m. ascending O 1 m x) (let e : n - 0 ≡ n = omega arith in e))
