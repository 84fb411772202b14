-- Interpolation: `others n j` is 0 at every point but j, so the sum has the values y j at the points; it is a polynomial
-- function of degree at most n, and so the only one with these values. Assumes nothing.
use mathlib.Core.Path.{◌≡◌, refl, sym, ◌∙◌, ap, ap₂, subst, ◌≡⟨◌⟩◌, ◌∎}
use mathlib.Core.Logic.{◌≢◌}
use mathlib.Core.List.{List}
use Prim.Native.Nat.{ℕ, zero, suc, ◌+◌, ◌-◌, ◌≤◌, ◌<◌}
use native.Mathlib.Nat.{add-zero as n-add-zero}
use native.Mathlib.Decide.{dec_lt}
use native.Mathlib.Omega.{arith}
use lib.ListN.{length, get_or, length-map}
use Rattle.algebra.specs.Lists.{All, Distinct, distinct[], distinct∷, tabulate}
use Rattle.algebra.specs.Ops.{Ops, Field, minus}
use Rattle.algebra.specs.Sums.{sum, product}
use Rattle.algebra.specs.Polynomial.{PolyFn}
use Rattle.algebra.specs.Interpolation.{ascending, descending, others, weight, basis, interpolate}
use Rattle.algebra.specs.Claims.{Apart}
use Rattle.algebra.proofs.Tables.{length_tabulate, tabulate_none, tabulate_front}
use Rattle.algebra.proofs.Members.{all_tabulate}
use Rattle.algebra.proofs.Ring.{add_neg, add_mul, mul-zero, zero-mul, mul-one, mul_comm, sub_zero, mul_nonzero}
use Rattle.algebra.proofs.Sums.{sum_ext, sum_one, sum_zero, sum_add, product_ext, product_front, product_nonzero, product_zero}
use Rattle.algebra.proofs.Polynomial.{poly_add, poly_const, poly_id, poly_ext, poly_mul, poly_product, poly_scale, poly_sum}
use Rattle.algebra.proofs.Roots.{unique}

module _ (𝓕 : Field) where
  open 𝓕.ops use {F, ◌⊕◌, ◌⊗◌, neg, 𝟘, 𝟙, inv, ι}

  infixl 65 ◌⊕◌
  infixl 70 ◌⊗◌
  abbrev O : Ops
  O = 𝓕.ops

  -- the two products are one
  pub ascending_front : (s m : ℕ) (x : F) → ascending O s (suc m) x ≡ minus O x (ι s) ⊗ ascending O (suc s) m x
  ascending_front s m x =
      product_front 𝓕 m (λ i. minus O x (ι (s + i)))
      ∙ ap₂ ◌⊗◌ (ap (λ k. minus O x (ι k)) (n-add-zero s))
      (product_ext O m _ _ (λ i l. ap (λ k. minus O x (ι k)) (let e : s + suc i ≡ suc s + i = omega arith in e)))

  pub descending_ascending : (s m : ℕ) (x : F) → descending O s m x ≡ ascending O s m x
  unfolding descending product
  descending_ascending s zero x = refl
  descending_ascending s (suc m) x =
      ap (minus O x (ι s) ⊗◌) (descending_ascending (suc s) m x) ∙ sym (ascending_front s m x)

  pub others_ascending : (n j : ℕ) (x : F) → others O n j x ≡ ascending O 0 j x ⊗ ascending O (suc j) (n - j) x
  unfolding others
  others_ascending n j x = ap (ascending O 0 j x ⊗◌) (descending_ascending (suc j) (n - j) x)

  ascending_zero : (s m k : ℕ) → s ≤ k → k < s + m → ascending O s m (ι k) ≡ 𝟘
  ascending_zero s m k h l =
      product_zero 𝓕 m (λ i. minus O (ι k) (ι (s + i))) (k - s) (omega arith)
      (ap (λ t. minus O (ι k) (ι t)) (let e : s + (k - s) ≡ k = omega arith in e) ∙ add_neg 𝓕 (ι k))

  -- the degree
  ascending_poly : (s m : ℕ) → PolyFn 𝓕 m (ascending O s m)
  ascending_poly s m =
      poly_product 𝓕 m (λ i x. minus O x (ι (s + i))) (λ i l. poly_add 𝓕 (poly_id 𝓕) (poly_const 𝓕 1 (neg (ι (s + i)))))

  pub others_poly : (n j : ℕ) → j ≤ n → PolyFn 𝓕 n (others O n j)
  others_poly n j h =
      subst (λ k. PolyFn 𝓕 k (others O n j)) (omega arith)
      (poly_ext 𝓕 (poly_mul 𝓕 (ascending_poly 0 j) (ascending_poly (suc j) (n - j))) (others_ascending n j))

  pub basis_poly : (n j : ℕ) → j ≤ n → PolyFn 𝓕 n (basis O n j)
  unfolding basis
  basis_poly n j h = poly_scale 𝓕 (weight O n j) (others_poly n j h)

  pub interpolate_poly : (n : ℕ) (y : ℕ → F) → PolyFn 𝓕 n (interpolate O n y)
  unfolding interpolate
  interpolate_poly n y =
      poly_sum 𝓕 n (suc n) (λ j x. y j ⊗ basis O n j x) (λ j l. poly_scale 𝓕 (y j) (basis_poly n j (omega arith)))

  -- points that differ
  module _ (n : ℕ) (apart : Apart 𝓕 (suc n) ι) where
    ascending_nonzero : (s m k : ℕ) → k ≤ n → s + m ≤ suc n → ((i : ℕ) → i < m → k ≢ s + i)
        → ascending O s m (ι k) ≢ 𝟘
    ascending_nonzero s m k kn h ne =
        product_nonzero 𝓕 m (λ i. minus O (ι k) (ι (s + i)))
        (λ i l e. apart k (s + i) (omega arith) (omega arith) (ne i l) (sub_zero 𝓕 e))

    pub others_nonzero : (j : ℕ) → j ≤ n → others O n j (ι j) ≢ 𝟘
    others_nonzero j h =
        rw (others_ascending n j (ι j))
        (mul_nonzero 𝓕 (ascending_nonzero 0 j j h (omega arith) (λ i l. omega arith))
        (ascending_nonzero (suc j) (n - j) j h (omega arith) (λ i l. omega arith)))

    others_zero : (j k : ℕ) → j ≤ n → k ≤ n → k ≢ j → others O n j (ι k) ≡ 𝟘
    others_zero j k hj hk ne = others_ascending n j (ι k) ∙ go (dec_lt k j)
      where
        go : Dec (k < j) → ascending O 0 j (ι k) ⊗ ascending O (suc j) (n - j) (ι k) ≡ 𝟘
        go (yes l) = ap (◌⊗ ascending O (suc j) (n - j) (ι k)) (ascending_zero 0 j k (omega arith) (omega arith)) ∙ zero-mul 𝓕 _
        go (no l) = ap (ascending O 0 j (ι k) ⊗◌) (ascending_zero (suc j) (n - j) k (omega arith) (omega arith)) ∙ mul-zero 𝓕 _

    -- the value at a point
    pub interpolate_at : (y : ℕ → F) (j : ℕ) → j ≤ n → interpolate O n y (ι j) ≡ y j
    unfolding interpolate basis weight
    interpolate_at y j h =
        sum_one 𝓕 (suc n) (λ i. y i ⊗ basis O n i (ι j)) j (omega arith) away
        ∙ ap (y j ⊗◌) (mul_comm 𝓕 _ _ ∙ 𝓕.mul_inv (others O n j (ι j)) (others_nonzero j h))
        ∙ mul-one 𝓕 (y j)
      where
        away : (i : ℕ) → i < suc n → i ≢ j → y i ⊗ (weight O n i ⊗ others O n i (ι j)) ≡ 𝟘
        away i l ne =
            ap (λ t. y i ⊗ (weight O n i ⊗ t)) (others_zero i j (omega arith) h (λ e. ne (sym e)))
            ∙ ap (y i ⊗◌) (mul-zero 𝓕 _) ∙ mul-zero 𝓕 _

  -- the points 0, .., m - 1 as a list
  pub points_distinct : (m : ℕ) (pt : ℕ → F) → Apart 𝓕 m pt → Distinct (tabulate pt m)
  points_distinct zero pt h = rw (tabulate_none pt) distinct[]
  points_distinct (suc m) pt h =
      rw (tabulate_front pt m)
      (distinct∷
      (all_tabulate (λ i. pt (suc i)) m (λ i l. h (suc i) 0 (omega arith) (omega arith) (omega arith)))
      (points_distinct m (λ i. pt (suc i)) (λ i j k l ne. h (suc i) (suc j) (omega arith) (omega arith) (omega arith))))

  -- a polynomial function is what its values at 0, .., n interpolate to
  module _ (n : ℕ) (apart : Apart 𝓕 (suc n) ι) where
    pub unique_at : {f g : F → F} → PolyFn 𝓕 n f → PolyFn 𝓕 n g → ((j : ℕ) → j ≤ n → f (ι j) ≡ g (ι j))
        → (x : F) → f x ≡ g x
    unique_at {f} {g} p q e =
        unique 𝓕 (tabulate ι (suc n)) p q (omega (arith, length_tabulate ι (suc n))) (points_distinct (suc n) ι apart)
        (all_tabulate ι (suc n) (λ i l. e i (omega arith)))

    pub interpolate_of : {f : F → F} → PolyFn 𝓕 n f → (x : F) → interpolate O n (λ j. f (ι j)) x ≡ f x
    interpolate_of {f} p =
        unique_at (interpolate_poly n (λ j. f (ι j))) p (λ j l. interpolate_at n apart (λ i. f (ι i)) j l)

  -- shares: interpolation adds up
  pub interpolate_add : (n : ℕ) (y z : ℕ → F) (x : F)
      → interpolate O n (λ j. y j ⊕ z j) x ≡ interpolate O n y x ⊕ interpolate O n z x
  unfolding interpolate
  interpolate_add n y z x =
      sum_ext O (suc n) _ _ (λ j l. add_mul 𝓕 (y j) (z j) (basis O n j x))
      ∙ sum_add 𝓕 (suc n) (λ j. y j ⊗ basis O n j x) (λ j. z j ⊗ basis O n j x)

  pub interpolate_zero : (n : ℕ) (x : F) → interpolate O n (λ j. 𝟘) x ≡ 𝟘
  unfolding interpolate
  interpolate_zero n x = sum_zero 𝓕 (suc n) (λ j. 𝟘 ⊗ basis O n j x) (λ j l. zero-mul 𝓕 _)

  pub interpolate_sum : (m n : ℕ) (y : ℕ → ℕ → F) (x : F)
      → interpolate O n (λ j. sum O m (λ i. y i j)) x ≡ sum O m (λ i. interpolate O n (y i) x)
  unfolding sum
  interpolate_sum zero n y x = interpolate_zero n x
  interpolate_sum (suc m) n y x =
      interpolate_add n (λ j. sum O m (λ i. y i j)) (y m) x ∙ ap (◌⊕ interpolate O n (y m) x) (interpolate_sum m n y x)

  pub interpolate_ext : (n : ℕ) (y z : ℕ → F) (x : F) → ((j : ℕ) → j ≤ n → y j ≡ z j) → interpolate O n y x ≡ interpolate O n z x
  unfolding interpolate
  interpolate_ext n y z x e = sum_ext O (suc n) _ _ (λ j l. ap (◌⊗ basis O n j x) (e j (omega arith)))
