-- The polynomial through values that are elements, at a number r: the numerator of the sum of its fractions, and the same
-- with the point 0 by itself. Each law is one of the field of residues. Assumes nothing.
use mathlib.Core.Path.{◌≡◌, sym, ◌∙◌, ap, ap₂}
use Prim.Native.Nat.{ℕ, suc, ◌<◌, ◌≤◌}
use native.Mathlib.Omega.{arith}
use Rattle.algebra.specs.Interpolation.{ascending, weight, basis, interpolate, numerator}
use Rattle.algebra.proofs.Sums.{sum_ext}
use Rattle.algebra.proofs.Homs.{ascending_hom, weight_hom, basis_hom, interpolate_hom, numerator_hom}
use Rattle.algebra.proofs.Fractions.{numerator_ext, numerator_interpolate, numerator_zero, basis_zero}
use Rattle.field.specs.Residues.{prime, residues}
use Rattle.field.proofs.Below.{sum_below}
use Rattle.quotients.proofs.Numbers.{𝓕, values, back}

module _ (n r : ℕ) (below : r < prime) where
  -- for values that are elements
  pub interpolate_numerator : (y : ℕ → ℕ) → ((j : ℕ) → j ≤ n → y j < prime)
      → interpolate residues n y r ≡ numerator residues 0 r (suc n) (λ j. residues.◌⊗◌ (y j) (weight residues n j))
  unfolding interpolate
  interpolate_numerator y elements =
      let x = 𝓕.ops.ι r in
      let t : ℕ → 𝓕.ops.F = λ j. 𝓕.ops.◌⊗◌ (𝓕.ops.ι (y j)) (weight 𝓕.ops n j) in
      sym
      (interpolate_hom values n (λ j. 𝓕.ops.ι (y j)) x
      ∙ ap (interpolate residues n (λ j. values.φ (𝓕.ops.ι (y j)))) (back below)
      ∙ sum_ext residues (suc n) _ _
      (λ j l. ap (λ v. residues.◌⊗◌ v (basis residues n j r)) (back (elements j (omega arith)))))
      ∙ ap values.φ (sym (numerator_interpolate 𝓕 n x (λ j. 𝓕.ops.ι (y j))))
      ∙ numerator_hom values 0 (suc n) x t
      ∙ ap (λ v. numerator residues 0 v (suc n) (λ j. values.φ (t j))) (back below)
      ∙ numerator_ext residues 0 (suc n) r _ _
      (λ j l. values.mul _ _ ∙ ap₂ residues.◌⊗◌ (back (elements j (omega arith))) (weight_hom values n j))

  -- for terms that are elements
  pub first_apart : (t : ℕ → ℕ) → ((j : ℕ) → j ≤ n → t j < prime)
      → numerator residues 0 r (suc n) t
      ≡ residues.◌⊕◌ (residues.◌⊗◌ (t 0) (ascending residues 1 n r))
      (residues.◌⊗◌ r (numerator residues 1 r n (λ i. t (suc i))))
  first_apart t elements =
      let x = 𝓕.ops.ι r in
      let u : ℕ → 𝓕.ops.F = λ j. 𝓕.ops.ι (t j) in
      sym
      (numerator_hom values 0 (suc n) x u
      ∙ ap (λ v. numerator residues 0 v (suc n) (λ i. values.φ (u i))) (back below)
      ∙ numerator_ext residues 0 (suc n) r _ _ (λ j l. back (elements j (omega arith))))
      ∙ ap values.φ (numerator_zero 𝓕 n x u)
      ∙ values.add _ _
      ∙ ap₂ residues.◌⊕◌
      (values.mul _ _
      ∙ ap₂ residues.◌⊗◌ (back (elements 0 (omega arith)))
      (ascending_hom values 1 n x ∙ ap (ascending residues 1 n) (back below)))
      (values.mul _ _
      ∙ ap₂ residues.◌⊗◌ (back below)
      (numerator_hom values 1 n x (λ i. u (suc i))
      ∙ ap (λ v. numerator residues 1 v n (λ i. values.φ (u (suc i)))) (back below)
      ∙ numerator_ext residues 1 n r _ _ (λ i l. back (elements (suc i) (omega arith)))))

  -- the basis of the point 0
  pub basis_first : basis residues n 0 r ≡ residues.◌⊗◌ (weight residues n 0) (ascending residues 1 n r)
  basis_first =
      let x = 𝓕.ops.ι r in
      ap (basis residues n 0) (sym (back below))
      ∙ sym (basis_hom values n 0 x)
      ∙ ap values.φ (basis_zero 𝓕 n x)
      ∙ values.mul _ _
      ∙ ap₂ residues.◌⊗◌ (weight_hom values n 0)
      (ascending_hom values 1 n x ∙ ap (ascending residues 1 n) (back below))

-- the polynomial at r is an element
pub interpolate_below : (n : ℕ) (y : ℕ → ℕ) (r : ℕ) → interpolate residues n y r < prime
unfolding interpolate
interpolate_below n y r = sum_below (suc n) _
