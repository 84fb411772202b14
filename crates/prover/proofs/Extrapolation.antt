-- Interpolation with numbers modulo the prime, at the points and beyond them: the value at a point is the given one, and
-- at t > n it is an inner product with the inverses of t - j, times the product of t - k. That product at t + 1 is the
-- one at t times t + 1 over t - n. Each law is one of the field of residues. Assumes nothing.
use mathlib.Core.Path.{◌≡◌, sym, ◌∙◌, ap, ap₂}
use mathlib.Core.Logic.{◌≢◌}
use Prim.Native.Nat.{ℕ, zero, suc, ◌+◌, ◌-◌, ◌≤◌, ◌<◌}
use native.Mathlib.Nat.{zero-add}
use native.Mathlib.Omega.{arith}
use Rattle.algebra.specs.Ops.{Ops, Field, minus}
use Rattle.algebra.specs.Sums.{inner, product}
use Rattle.algebra.specs.Interpolation.{ascending, weight, basis, interpolate}
use Rattle.algebra.proofs.Ring.{ring, mul-one, ι_add}
use Rattle.algebra.proofs.Trial.{prime_2147483647}
use Rattle.algebra.proofs.Residues.{points_apart}
use Rattle.algebra.proofs.Sums.{sum_ext}
use Rattle.algebra.proofs.Homs.{inner_hom, ascending_hom, weight_hom, interpolate_hom}
use Rattle.algebra.proofs.Interpolation.{interpolate_at}
use Rattle.algebra.proofs.Weights.{extrapolate}
use Rattle.field.specs.Residues.{prime, residues}
use Rattle.prover.specs.Curves.{fall_at}
use Rattle.quotients.proofs.Numbers.{𝓕, values, not_zero, back}

-- ---- the products of t - k, in a field
module _ (𝓖 : Field) where
  open 𝓖.ops use {F, ◌⊕◌, ◌⊗◌, neg, 𝟘, 𝟙, inv, ι}

  infixl 65 ◌⊕◌
  infixl 70 ◌⊗◌
  abbrev O : Ops
  O = 𝓖.ops

  id_shift_one : (x o z : F) → o ⊗ (x ⊕ neg z) ≡ (x ⊕ neg z) ⊗ o
  id_shift_one x o z = simp ring

  id_shift : (x o a m : F) → (x ⊕ o) ⊗ a ⊗ (x ⊕ o ⊕ neg (m ⊕ o)) ≡ (x ⊕ o) ⊗ (a ⊗ (x ⊕ neg m))
  id_shift x o a m = simp ring

  id_minus_zero : (x : F) → x ⊕ neg 𝟘 ≡ x
  id_minus_zero x = simp ring

  id_next : (a b d i : F) → b ⊗ (a ⊗ (d ⊗ i)) ≡ a ⊗ d ⊗ (b ⊗ i)
  id_next a b d i = simp ring

  -- one more: the product at x + 1 starts with x + 1
  shifted : (m : ℕ) (x : F) → ascending O 0 (suc m) (x ⊕ 𝟙) ≡ (x ⊕ 𝟙) ⊗ ascending O 0 m x
  unfolding product
  shifted zero x =
      id_shift_one (x ⊕ 𝟙) 𝟙 (ι 0) ∙ ap (λ t. (x ⊕ 𝟙 ⊕ neg t) ⊗ 𝟙) 𝓖.law_ι_zero ∙ ap (◌⊗ 𝟙) (id_minus_zero (x ⊕ 𝟙))
  shifted (suc m) x =
      ap₂ (λ a b. a ⊗ (x ⊕ 𝟙 ⊕ neg b)) (shifted m x) (ap ι (zero-add (suc m)) ∙ 𝓖.law_ι_suc m)
      ∙ id_shift x 𝟙 _ (ι m)
      ∙ ap (λ t. (x ⊕ 𝟙) ⊗ (ascending O 0 m x ⊗ (x ⊕ neg (ι t)))) (sym (zero-add m))

  next_in : (n : ℕ) (x : F) → minus O x (ι n) ≢ 𝟘
      → ascending O 0 (suc n) (x ⊕ 𝟙) ≡ ascending O 0 (suc n) x ⊗ ((x ⊕ 𝟙) ⊗ inv (minus O x (ι n)))
  unfolding product
  next_in n x nz =
      shifted n x
      ∙ ap ((x ⊕ 𝟙) ⊗◌)
      (sym (mul-one 𝓖 _) ∙ ap (ascending O 0 n x ⊗◌) (sym (𝓖.mul_inv (minus O x (ι n)) nz)))
      ∙ id_next _ _ _ _
      ∙ ap (λ t. ascending O 0 n x ⊗ minus O x (ι t) ⊗ ((x ⊕ 𝟙) ⊗ inv (minus O x (ι n)))) (sym (zero-add n))

  id_gap : (d m : F) → d ⊕ m ⊕ neg m ≡ d
  id_gap d m = simp ring

  -- at numbers: x = d + n, where d is not 0
  fall_in : (n d : ℕ) → ι d ≢ 𝟘
      → ascending O 0 (suc n) (ι (suc (d + n))) ≡ ascending O 0 (suc n) (ι (d + n)) ⊗ (ι (suc (d + n)) ⊗ inv (ι d))
  fall_in n d nz =
      let gap : minus O (ι (d + n)) (ι n) ≡ ι d = ap (◌⊕ neg (ι n)) (ι_add 𝓖 d n) ∙ id_gap (ι d) (ι n) in
      ap (ascending O 0 (suc n)) (𝓖.law_ι_suc (d + n))
      ∙ next_in n (ι (d + n)) (λ e. nz (sym gap ∙ e))
      ∙ ap₂ (λ a b. ascending O 0 (suc n) (ι (d + n)) ⊗ (a ⊗ inv b)) (sym (𝓖.law_ι_suc (d + n))) gap

-- ---- with numbers
-- the product at t + 1 from the one at t = n + 1 + i
pub fall_next : (n i : ℕ) → suc (suc n + i) < prime
    → fall_at n (suc i) ≡ residues.◌⊗◌ (fall_at n i) (residues.◌⊗◌ (suc (suc n + i)) (residues.inv (suc i)))
fall_next n i h =
    let t : suc i + n ≡ suc n + i = omega arith in
    let u : suc n + suc i ≡ suc (suc i + n) = omega arith in
    let at : (k : ℕ) → k < prime → values.φ (ascending 𝓕.ops 0 (suc n) (𝓕.ops.ι k)) ≡ ascending residues 0 (suc n) k =
    λ k l. ascending_hom values 0 (suc n) (𝓕.ops.ι k) ∙ ap (ascending residues 0 (suc n)) (back l)
    in
    ap (ascending residues 0 (suc n)) u
    ∙ sym (at (suc (suc i + n)) (omega arith))
    ∙ ap values.φ (fall_in 𝓕 n (suc i) (not_zero i (omega arith)))
    ∙ values.mul _ _
    ∙ ap₂ residues.◌⊗◌ (at (suc i + n) (omega arith) ∙ ap (ascending residues 0 (suc n)) t)
    (values.mul _ _
    ∙ ap₂ residues.◌⊗◌ (back (let l : suc (suc i + n) < prime = omega arith in l) ∙ ap suc t)
    (values.rec _ ∙ ap residues.inv (back (let l : suc i < prime = omega arith in l))))

-- the values y as those of elements
module _ (n : ℕ) (y : ℕ → ℕ) (below : (j : ℕ) → y j < prime) where
  abbrev lifted : ℕ → 𝓕.ops.F
  lifted j = 𝓕.ops.ι (y j)

  lift_value : (t : ℕ) → values.φ (interpolate 𝓕.ops n lifted (𝓕.ops.ι t)) ≡ interpolate residues n y (residues.ι t)
  unfolding interpolate
  lift_value t =
      interpolate_hom values n lifted (𝓕.ops.ι t)
      ∙ ap (interpolate residues n (λ j. values.φ (lifted j))) (values.num t)
      ∙ sum_ext residues (suc n) _ _ (λ j l. ap (λ v. residues.◌⊗◌ v (basis residues n j (residues.ι t))) (back (below j)))

  -- at a point
  pub value_at_point : (j : ℕ) → j ≤ n → n < prime → interpolate residues n y (residues.ι j) ≡ y j
  value_at_point j h l =
      sym (lift_value j)
      ∙ ap values.φ
      (interpolate_at 𝓕 n (λ i k a b. points_apart prime prime_2147483647 i k (omega arith) (omega arith)) lifted j h)
      ∙ back (below j)

  -- beyond the points
  pub value_beyond : (t : ℕ) → n < t → t < prime
      → interpolate residues n y (residues.ι t)
      ≡ residues.◌⊗◌ (inner residues (suc n) (λ j. residues.◌⊗◌ (y j) (weight residues n j)) (λ j. residues.inv (t - j)))
      (ascending residues 0 (suc n) t)
  value_beyond t h l =
      sym (lift_value t)
      ∙ ap values.φ (extrapolate 𝓕 n t lifted h (λ i k. not_zero i (omega arith)))
      ∙ values.mul _ _
      ∙ ap₂ residues.◌⊗◌
      (inner_hom values (suc n) _ _
      ∙ sum_ext residues (suc n) _ _
      (λ j k. ap₂ residues.◌⊗◌
      (values.mul _ _ ∙ ap₂ residues.◌⊗◌ (back (below j)) (weight_hom values n j))
      (values.rec _ ∙ ap residues.inv (back (let q : t - j < prime = omega arith in q)))))
      (ascending_hom values 0 (suc n) (𝓕.ops.ι t) ∙ ap (ascending residues 0 (suc n)) (back l))
