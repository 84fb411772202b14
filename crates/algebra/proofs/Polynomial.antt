-- Polynomial functions: constants, the identity, sums, products and multiples are polynomial functions, with the degrees
-- that one expects. Each follows Horner's form. Assumes nothing.
use mathlib.Core.Path.{◌≡◌, refl, sym, ◌∙◌, ap, ap₂, subst}
use mathlib.Core.List.{List, [], ◌∷◌}
use Prim.Native.Nat.{ℕ, zero, suc, ◌+◌, ◌-◌, ◌<◌}
use native.Mathlib.Nat.{suc-add, zero-add as n-zero-add}
use native.Mathlib.Omega.{arith}
use lib.ListN.{length, get_or}
use Rattle.algebra.specs.Ops.{Field}
use Rattle.algebra.specs.Sums.{sum, product, power}
use Rattle.algebra.specs.Polynomial.{PolyFn, const, step, horner}
use Rattle.algebra.proofs.Ring.{ring, one-mul}
use Rattle.algebra.proofs.Sums.{sum_ext, sum_front, times_sum, product_front}

module _ (𝓕 : Field) where
  open 𝓕.ops use {F, ◌⊕◌, ◌⊗◌, neg, 𝟘, 𝟙}

  infixl 65 ◌⊕◌
  infixl 70 ◌⊗◌
  -- the constructors as functions: a call of one has its function from the goal
  flat : {f : F → F} (c : F) → ((x : F) → f x ≡ c) → PolyFn 𝓕 zero f
  flat c e = const c e

  next : {n : ℕ} {f g : F → F} (c : F) → PolyFn 𝓕 n g → ((x : F) → f x ≡ c ⊕ x ⊗ g x) → PolyFn 𝓕 (suc n) f
  next c p e = step c p e

  -- the identities that the clauses below use. They stand apart: `simp` sorts a sum by the order in which its variables
  -- are bound, and that order changes while a clause is compiled
  id_zero : (x : F) → 𝟘 ≡ 𝟘 ⊕ x ⊗ 𝟘
  id_zero x = simp ring

  id_const : (c x : F) → c ≡ c ⊕ x ⊗ 𝟘
  id_const c x = simp ring

  id_id : (x : F) → x ≡ 𝟘 ⊕ x ⊗ 𝟙
  id_id x = simp ring

  id_add : (c d x g h : F) → (c ⊕ x ⊗ g) ⊕ (d ⊕ x ⊗ h) ≡ (c ⊕ d) ⊕ x ⊗ (g ⊕ h)
  id_add c d x g h = simp ring

  id_scale : (k c x g : F) → k ⊗ (c ⊕ x ⊗ g) ≡ k ⊗ c ⊕ x ⊗ (k ⊗ g)
  id_scale k c x g = simp ring

  id_mul : (c x g h : F) → (c ⊕ x ⊗ g) ⊗ h ≡ c ⊗ h ⊕ (𝟘 ⊕ x ⊗ (g ⊗ h))
  id_mul c x g h = simp ring

  id_neg : (a : F) → neg a ≡ neg 𝟙 ⊗ a
  id_neg a = simp ring

  pub poly_zero : (n : ℕ) → PolyFn 𝓕 n (λ x. 𝟘)
  poly_zero zero = flat 𝟘 (λ x. refl)
  poly_zero (suc n) = next 𝟘 (poly_zero n) id_zero

  pub poly_const : (n : ℕ) (c : F) → PolyFn 𝓕 n (λ x. c)
  poly_const zero c = flat c (λ x. refl)
  poly_const (suc n) c = next c (poly_zero n) (id_const c)

  pub poly_id : PolyFn 𝓕 1 (λ x. x)
  poly_id = next 𝟘 (flat 𝟙 (λ x. refl)) id_id

  pub poly_ext : {n : ℕ} {f g : F → F} → PolyFn 𝓕 n f → ((x : F) → g x ≡ f x) → PolyFn 𝓕 n g
  poly_ext (const c e) h = flat c (λ x. h x ∙ e x)
  poly_ext (step c p e) h = next c p (λ x. h x ∙ e x)

  poly_up : {n : ℕ} {f : F → F} → PolyFn 𝓕 n f → PolyFn 𝓕 (suc n) f
  poly_up (const c e) = next c (poly_zero zero) (λ x. e x ∙ id_const c x)
  poly_up (step c p e) = next c (poly_up p) e

  poly_ups : {n : ℕ} (m : ℕ) {f : F → F} → PolyFn 𝓕 n f → PolyFn 𝓕 (m + n) f
  poly_ups zero p = rw n-zero-add p
  poly_ups (suc m) p = rw suc-add (poly_up (poly_ups m p))

  pub poly_add : {n : ℕ} {f g : F → F} → PolyFn 𝓕 n f → PolyFn 𝓕 n g → PolyFn 𝓕 n (λ x. f x ⊕ g x)
  poly_add (const c e) (const d h) = flat (c ⊕ d) (λ x. rw (e x, h x))
  poly_add (step c p e) (step d q h) = next (c ⊕ d) (poly_add p q) (λ x. ap₂ ◌⊕◌ (e x) (h x) ∙ id_add _ _ _ _ _)

  pub poly_scale : {n : ℕ} {f : F → F} (k : F) → PolyFn 𝓕 n f → PolyFn 𝓕 n (λ x. k ⊗ f x)
  poly_scale k (const c e) = flat (k ⊗ c) (λ x. rw (e x))
  poly_scale k (step c p e) = next (k ⊗ c) (poly_scale k p) (λ x. ap (k ⊗◌) (e x) ∙ id_scale _ _ _ _)

  pub poly_neg : {n : ℕ} {f : F → F} → PolyFn 𝓕 n f → PolyFn 𝓕 n (λ x. neg (f x))
  poly_neg p = poly_ext (poly_scale (neg 𝟙) p) (λ x. id_neg _)

  pub poly_mul : {n m : ℕ} {f g : F → F} → PolyFn 𝓕 n f → PolyFn 𝓕 m g → PolyFn 𝓕 (n + m) (λ x. f x ⊗ g x)
  poly_mul (const c e) q = rw n-zero-add (poly_ext (poly_scale c q) (λ x. rw (e x)))
  poly_mul {g = g} (step {n = n} c p e) q =
      rw suc-add
      (poly_ext (poly_add (poly_up (poly_ups n (poly_scale c q))) (next 𝟘 (poly_mul p q) (λ x. refl)))
      (λ x. ap (◌⊗ g x) (e x) ∙ id_mul _ _ _ _))

  pub poly_sum : (n m : ℕ) (g : ℕ → F → F) → ((i : ℕ) → i < m → PolyFn 𝓕 n (g i))
      → PolyFn 𝓕 n (λ x. sum 𝓕.ops m (λ i. g i x))
  unfolding sum
  poly_sum n zero g h = poly_zero n
  poly_sum n (suc m) g h = poly_add (poly_sum n m g (λ i l. h i (omega arith))) (h m (omega arith))

  -- a product of m functions of degree at most 1
  pub poly_product : (m : ℕ) (g : ℕ → F → F) → ((i : ℕ) → i < m → PolyFn 𝓕 1 (g i))
      → PolyFn 𝓕 m (λ x. product 𝓕.ops m (λ i. g i x))
  unfolding product
  poly_product zero g h = poly_const 0 𝟙
  poly_product (suc m) g h =
      subst (λ k. PolyFn 𝓕 k (λ x. product 𝓕.ops m (λ i. g i x) ⊗ g m x)) (omega arith)
      (poly_mul (poly_product m g (λ i l. h i (omega arith))) (h m (omega arith)))

  -- Horner's rule
  pub poly_horner : (c : F) (cs : List F) → PolyFn 𝓕 (length cs) (horner 𝓕.ops (c ∷ cs))
  unfolding horner
  poly_horner c [] = flat c (λ x. sym (id_const c x))
  poly_horner c (d ∷ cs) = next c (poly_horner d cs) (λ x. refl)

  -- Horner's rule is the sum of the coefficients times the powers
  pub horner_powers : (cs : List F) (x : F)
      → horner 𝓕.ops cs x ≡ sum 𝓕.ops (length cs) (λ k. power 𝓕.ops x k ⊗ get_or cs k 𝟘)
  unfolding horner
  horner_powers [] x = sym (sum_none x)
    where
      sum_none : (x : F) → sum 𝓕.ops 0 (λ k. power 𝓕.ops x k ⊗ get_or {A = F} [] k 𝟘) ≡ 𝟘
      sum_none x = unfold sum in refl
  horner_powers (c ∷ cs) x =
      ap (λ t. c ⊕ x ⊗ t) (horner_powers cs x)
      ∙ ap (c ⊕◌) (sym (times_sum 𝓕 (length cs) x (λ k. power 𝓕.ops x k ⊗ get_or cs k 𝟘))
      ∙ sum_ext 𝓕.ops (length cs) _ _ (λ k l. more k (get_or cs k 𝟘)))
      ∙ ap (◌⊕ sum 𝓕.ops (length cs) (λ k. power 𝓕.ops x (suc k) ⊗ get_or cs k 𝟘)) (sym (first c))
      ∙ sym (sum_front 𝓕 (length cs) (λ k. power 𝓕.ops x k ⊗ get_or (c ∷ cs) k 𝟘))
    where
      first : (c : F) → power 𝓕.ops x 0 ⊗ c ≡ c
      first c = unfold product in one-mul 𝓕 c

      more : (k : ℕ) (c : F) → x ⊗ (power 𝓕.ops x k ⊗ c) ≡ power 𝓕.ops x (suc k) ⊗ c
      more k c = sym (𝓕.law_mul_assoc _ _ _) ∙ ap (◌⊗ c) (sym (product_front 𝓕 k (λ i. x)))
