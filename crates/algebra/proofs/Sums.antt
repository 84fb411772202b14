-- Laws of `sum` and `product`. By induction on the number of terms. Assumes nothing.
use mathlib.Core.Path.{◌≡◌, refl, sym, ◌∙◌, ap, ap₂}
use mathlib.Core.Logic.{◌≢◌}
use Prim.Native.Nat.{ℕ, zero, suc, ◌+◌, ◌<◌}
use native.Mathlib.Decide.{ℕ_discrete}
use native.Mathlib.Omega.{arith}
use Rattle.algebra.specs.Ops.{Ops, Field}
use Rattle.algebra.specs.Sums.{sum, product}
use Rattle.algebra.proofs.Ring.{ring, add-zero, zero-add, neg_zero, neg_dist, mul-zero, zero-mul, mul-add, add_mul}
use Rattle.algebra.proofs.Ring.{mul-one, one-mul, mul_assoc, mul_nonzero, product_inverse}

module _ (O : Ops) where
  pub sum_ext : (m : ℕ) (g h : ℕ → O.F) → ((i : ℕ) → i < m → g i ≡ h i) → sum O m g ≡ sum O m h
  unfolding sum
  sum_ext zero g h e = refl
  sum_ext (suc m) g h e = ap₂ O.◌⊕◌ (sum_ext m g h (λ i l. e i (omega arith))) (e m (omega arith))

  pub product_ext : (m : ℕ) (g h : ℕ → O.F) → ((i : ℕ) → i < m → g i ≡ h i) → product O m g ≡ product O m h
  unfolding product
  product_ext zero g h e = refl
  product_ext (suc m) g h e = ap₂ O.◌⊗◌ (product_ext m g h (λ i l. e i (omega arith))) (e m (omega arith))

module _ (𝓕 : Field) where
  open 𝓕.ops use {F, ◌⊕◌, ◌⊗◌, neg, 𝟘, 𝟙}

  infixl 65 ◌⊕◌
  infixl 70 ◌⊗◌
  abbrev Σ : ℕ → (ℕ → F) → F
  Σ = sum 𝓕.ops

  abbrev Π : ℕ → (ℕ → F) → F
  Π = product 𝓕.ops

  pub sum_zero : (m : ℕ) (g : ℕ → F) → ((i : ℕ) → i < m → g i ≡ 𝟘) → Σ m g ≡ 𝟘
  unfolding sum
  sum_zero zero g h = refl
  sum_zero (suc m) g h = ap₂ ◌⊕◌ (sum_zero m g (λ i l. h i (omega arith))) (h m (omega arith)) ∙ add-zero 𝓕 𝟘

  -- a sum with one term that may not be 0
  pub sum_one : (m : ℕ) (g : ℕ → F) (j : ℕ) → j < m → ((i : ℕ) → i < m → i ≢ j → g i ≡ 𝟘) → Σ m g ≡ g j
  unfolding sum
  sum_one zero g j l h = absurd (omega arith)
  sum_one (suc m) g j l h = go (sum_one m g j) (ℕ_discrete j m)
    where
      go : (j < m → ((i : ℕ) → i < m → i ≢ j → g i ≡ 𝟘) → Σ m g ≡ g j) → Dec (j ≡ m) → Σ m g ⊕ g m ≡ g j
      go ih (yes e) = ap₂ ◌⊕◌ (sum_zero m g (λ i k. h i (omega arith) (omega arith))) (ap g (sym e)) ∙ zero-add 𝓕 (g j)
      go ih (no ne) = ap₂ ◌⊕◌ (ih (omega arith) (λ i k n. h i (omega arith) n)) (h m (omega arith) (omega arith)) ∙ add-zero 𝓕 (g j)

  -- a sum of zeros but for the first term
  pub sum_first : (m : ℕ) (g : ℕ → F) → 0 < m → ((i : ℕ) → g (suc i) ≡ 𝟘) → Σ m g ≡ g 0
  sum_first m g h z = sum_one m g 0 h later
    where
      later : (i : ℕ) → i < m → i ≢ 0 → g i ≡ 𝟘
      later zero l ne = absurd (ne refl)
      later (suc i) l ne = z i

  swap_middle : (a b u v : F) → (a ⊕ b) ⊕ (u ⊕ v) ≡ (a ⊕ u) ⊕ (b ⊕ v)
  swap_middle a b u v = simp ring

  pub sum_add : (m : ℕ) (g h : ℕ → F) → Σ m (λ i. g i ⊕ h i) ≡ Σ m g ⊕ Σ m h
  unfolding sum
  sum_add zero g h = sym (add-zero 𝓕 𝟘)
  sum_add (suc m) g h = ap (◌⊕ (g m ⊕ h m)) (sum_add m g h) ∙ swap_middle _ _ _ _

  pub sum_neg : (m : ℕ) (g : ℕ → F) → Σ m (λ i. neg (g i)) ≡ neg (Σ m g)
  unfolding sum
  sum_neg zero g = sym (neg_zero 𝓕)
  sum_neg (suc m) g = ap (◌⊕ neg (g m)) (sum_neg m g) ∙ sym (neg_dist 𝓕 _ _)

  pub times_sum : (m : ℕ) (c : F) (g : ℕ → F) → Σ m (λ i. c ⊗ g i) ≡ c ⊗ Σ m g
  unfolding sum
  times_sum zero c g = sym (mul-zero 𝓕 c)
  times_sum (suc m) c g = ap (◌⊕ c ⊗ g m) (times_sum m c g) ∙ sym (mul-add 𝓕 c _ _)

  pub sum_times : (m : ℕ) (g : ℕ → F) (c : F) → Σ m (λ i. g i ⊗ c) ≡ Σ m g ⊗ c
  unfolding sum
  sum_times zero g c = sym (zero-mul 𝓕 c)
  sum_times (suc m) g c = ap (◌⊕ g m ⊗ c) (sum_times m g c) ∙ sym (add_mul 𝓕 (Σ m g) (g m) c)

  -- rows first or columns first
  pub sum_swap : (m n : ℕ) (g : ℕ → ℕ → F) → Σ m (λ i. Σ n (g i)) ≡ Σ n (λ j. Σ m (λ i. g i j))
  unfolding sum
  sum_swap zero n g = sym (sum_zero n (λ j. 𝟘) (λ j l. refl))
  sum_swap (suc m) n g = ap (◌⊕ Σ n (g m)) (sum_swap m n g) ∙ sym (sum_add n (λ j. Σ m (λ i. g i j)) (g m))

  -- by the front
  pub sum_front : (m : ℕ) (g : ℕ → F) → Σ (suc m) g ≡ g 0 ⊕ Σ m (λ i. g (suc i))
  unfolding sum
  sum_front zero g = zero-add 𝓕 (g 0) ∙ sym (add-zero 𝓕 (g 0))
  sum_front (suc m) g = ap (◌⊕ g (suc m)) (sum_front m g) ∙ 𝓕.law_add_assoc _ _ _

  pub product_front : (m : ℕ) (g : ℕ → F) → Π (suc m) g ≡ g 0 ⊗ Π m (λ i. g (suc i))
  unfolding product
  product_front zero g = one-mul 𝓕 (g 0) ∙ sym (mul-one 𝓕 (g 0))
  product_front (suc m) g = ap (◌⊗ g (suc m)) (product_front m g) ∙ mul_assoc 𝓕 _ _ _

  pub product_nonzero : (m : ℕ) (g : ℕ → F) → ((i : ℕ) → i < m → g i ≢ 𝟘) → Π m g ≢ 𝟘
  unfolding product
  product_nonzero zero g h = 𝓕.one_not_zero
  product_nonzero (suc m) g h = mul_nonzero 𝓕 (product_nonzero m g (λ i l. h i (omega arith))) (h m (omega arith))

  -- a product with a factor 0
  pub product_zero : (m : ℕ) (g : ℕ → F) (j : ℕ) → j < m → g j ≡ 𝟘 → Π m g ≡ 𝟘
  unfolding product
  product_zero zero g j l z = absurd (omega arith)
  product_zero (suc m) g j l z = go (product_zero m g j) (ℕ_discrete j m)
    where
      go : (j < m → g j ≡ 𝟘 → Π m g ≡ 𝟘) → Dec (j ≡ m) → Π m g ⊗ g m ≡ 𝟘
      go ih (yes e) = ap (Π m g ⊗◌) (ap g (sym e) ∙ z) ∙ mul-zero 𝓕 _
      go ih (no ne) = ap (◌⊗ g m) (ih (omega arith) z) ∙ zero-mul 𝓕 _

  -- the product of the inverses is the inverse of the product
  pub product_inverses : (m : ℕ) (g h : ℕ → F) → ((i : ℕ) → i < m → g i ⊗ h i ≡ 𝟙) → Π m g ⊗ Π m h ≡ 𝟙
  unfolding product
  product_inverses zero g h e = mul-one 𝓕 𝟙
  product_inverses (suc m) g h e =
      product_inverse 𝓕 (product_inverses m g h (λ i l. e i (omega arith))) (e m (omega arith))
