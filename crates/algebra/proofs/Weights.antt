-- The weights by factorials: below j the differences j - k multiply to j!, above it to (n - j)! and a sign. At a point
-- beyond n, `others` is the whole product over one difference. Assumes nothing.
use mathlib.Core.Path.{◌≡◌, refl, sym, ◌∙◌, ap, ap₂, ◌≡⟨◌⟩◌, ◌∎}
use mathlib.Core.Logic.{◌≢◌}
use Prim.Native.Nat.{ℕ, zero, suc, ◌+◌, ◌-◌, ◌≤◌, ◌<◌}
use native.Mathlib.Nat.{add-zero as n-add-zero, zero-add as n-zero-add}
use native.Mathlib.Omega.{arith}
use Rattle.algebra.specs.Ops.{Ops, Field, minus}
use Rattle.algebra.specs.Sums.{sum, product, inner, factorial}
use Rattle.algebra.specs.Interpolation.{ascending, others, weight, basis, interpolate, sign}
use Rattle.algebra.proofs.Ring.{ring, mul-one, one-mul, mul_assoc, mul_comm, ι_add, inv_unique, product_inverse}
use Rattle.algebra.proofs.Sums.{sum_ext, sum_times, product_inverses}
use Rattle.algebra.proofs.Interpolation.{others_ascending}

module _ (𝓕 : Field) where
  open 𝓕.ops use {F, ◌⊕◌, ◌⊗◌, neg, 𝟘, 𝟙, inv, ι}

  infixl 65 ◌⊕◌
  infixl 70 ◌⊗◌
  abbrev O : Ops
  O = 𝓕.ops

  -- below j: j!
  id_below : (u w d : F) → u ⊗ (w ⊗ d) ≡ u ⊗ d ⊗ w
  id_below u w d = simp ring

  id_gap : (d m : F) → (d ⊕ m) ⊕ neg m ≡ d
  id_gap d m = simp ring

  below_from : (d m : ℕ) → factorial O d ⊗ ascending O 0 m (ι (d + m)) ≡ factorial O (d + m)
  unfolding product
  below_from d zero = rw (n-add-zero d) (mul-one 𝓕 _)
  below_from d (suc m) =
      let shift : d + suc m ≡ suc d + m = omega arith in
      let run : ℕ → F = λ t. ascending O 0 m (ι t) in
      factorial O d ⊗ (run (d + suc m) ⊗ minus O (ι (d + suc m)) (ι (0 + m)))
      ≡⟨ ap (λ t. factorial O d ⊗ (run t ⊗ minus O (ι t) (ι (0 + m)))) shift ⟩
      factorial O d ⊗ (run (suc d + m) ⊗ minus O (ι (suc d + m)) (ι (0 + m)))
      ≡⟨ ap (λ t. factorial O d ⊗ (run (suc d + m) ⊗ t)) (gap d m) ⟩
      factorial O d ⊗ (run (suc d + m) ⊗ ι (suc d)) ≡⟨ id_below _ _ _ ⟩
      factorial O (suc d) ⊗ run (suc d + m) ≡⟨ below_from (suc d) m ⟩
      factorial O (suc d + m) ≡⟨ ap (factorial O) (sym shift) ⟩
      factorial O (d + suc m) ∎
    where
      gap : (d m : ℕ) → minus O (ι (suc d + m)) (ι (0 + m)) ≡ ι (suc d)
      gap d m = ap₂ (λ s t. s ⊕ neg (ι t)) (ι_add 𝓕 (suc d) m) (n-zero-add m) ∙ id_gap _ _

  below : (j : ℕ) → ascending O 0 j (ι j) ≡ factorial O j
  unfolding product
  below j =
      sym (one-mul 𝓕 _) ∙ ap (λ t. factorial O 0 ⊗ ascending O 0 j (ι t)) (sym (n-zero-add j)) ∙ below_from 0 j
      ∙ ap (factorial O) (n-zero-add j)

  -- above j: m! and a sign
  id_above : (j m o s f : F) → s ⊗ f ⊗ (j ⊕ neg (j ⊕ o ⊕ m)) ≡ neg s ⊗ (f ⊗ (m ⊕ o))
  id_above j m o s f = simp ring

  above : (j m : ℕ) → ascending O (suc j) m (ι j) ≡ sign O m ⊗ factorial O m
  unfolding product sign
  above j zero = sym (mul-one 𝓕 𝟙)
  above j (suc m) =
      ap₂ (λ u v. u ⊗ (ι j ⊕ neg v)) (above j m) (ι_add 𝓕 (suc j) m ∙ ap (◌⊕ ι m) (𝓕.law_ι_suc j))
      ∙ id_above (ι j) (ι m) 𝟙 (sign O m) (factorial O m)
      ∙ ap (λ t. neg (sign O m) ⊗ (factorial O m ⊗ t)) (sym (𝓕.law_ι_suc m))

  others_factorial : (n j : ℕ) → others O n j (ι j) ≡ factorial O j ⊗ (sign O (n - j) ⊗ factorial O (n - j))
  others_factorial n j = others_ascending 𝓕 n j (ι j) ∙ ap₂ ◌⊗◌ (below j) (above j (n - j))

  sign_sign : (m : ℕ) → sign O m ⊗ sign O m ≡ 𝟙
  unfolding sign
  sign_sign zero = mul-one 𝓕 𝟙
  sign_sign (suc m) = id_square (sign O m) ∙ sign_sign m
    where
      id_square : (s : F) → neg s ⊗ neg s ≡ s ⊗ s
      id_square s = simp ring

  -- the product of the inverses of 1, .., n: the inverse of n!
  abbrev pub inverse_factorial : ℕ → F
  inverse_factorial n = product O n (λ i. inv (ι (suc i)))

  pub factorial_inverse : (n : ℕ) → ((i : ℕ) → i < n → ι (suc i) ≢ 𝟘) → factorial O n ⊗ inverse_factorial n ≡ 𝟙
  factorial_inverse n nz = product_inverses 𝓕 n _ _ (λ i l. 𝓕.mul_inv (ι (suc i)) (nz i l))

  -- the weight from the inverses of the factorials
  pub weight_factorial : (n j : ℕ) → j ≤ n → ((i : ℕ) → i < n → ι (suc i) ≢ 𝟘)
      → weight O n j ≡ inverse_factorial j ⊗ (sign O (n - j) ⊗ inverse_factorial (n - j))
  unfolding weight
  weight_factorial n j h nz =
      ap inv (others_factorial n j)
      ∙ inv_unique 𝓕
      (product_inverse 𝓕 (factorial_inverse j (λ i l. nz i (omega arith)))
      (product_inverse 𝓕 (sign_sign (n - j)) (factorial_inverse (n - j) (λ i l. nz i (omega arith)))))

  -- beyond the points: x - j times the product over the others is the product over all
  id_whole : (a b d : F) → a ⊗ b ⊗ d ≡ a ⊗ d ⊗ b
  id_whole a b d = simp ring

  ascending_split : (a b s : ℕ) (x : F) → ascending O s (a + b) x ≡ ascending O s a x ⊗ ascending O (s + a) b x
  unfolding product
  ascending_split a zero s x = ap (λ t. ascending O s t x) (n-add-zero a) ∙ sym (mul-one 𝓕 _)
  ascending_split a (suc b) s x =
      ap (λ t. ascending O s t x) (let e : a + suc b ≡ suc (a + b) = omega arith in e)
      ∙ ap₂ (λ u v. u ⊗ minus O x (ι v)) (ascending_split a b s x) (let e : s + (a + b) ≡ s + a + b = omega arith in e)
      ∙ mul_assoc 𝓕 _ _ _

  pub others_whole : (n j : ℕ) (x : F) → j ≤ n → others O n j x ⊗ minus O x (ι j) ≡ ascending O 0 (suc n) x
  unfolding product
  others_whole n j x h =
      ap (◌⊗ minus O x (ι j)) (others_ascending 𝓕 n j x)
      ∙ id_whole _ _ _
      ∙ ap (λ t. ascending O 0 j x ⊗ minus O x (ι t) ⊗ ascending O (suc j) (n - j) x) (sym (n-zero-add j))
      ∙ sym (ascending_split (suc j) (n - j) 0 x ∙ ap (λ t. ascending O 0 (suc j) x ⊗ ascending O t (n - j) x) (n-zero-add (suc j)))
      ∙ ap (λ t. ascending O 0 t x) (let e : suc j + (n - j) ≡ suc n = omega arith in e)

  -- extrapolation: at the number t beyond n, with the inverses of t - j
  id_term : (y w o d i : F) → y ⊗ (w ⊗ o) ⊗ (d ⊗ i) ≡ y ⊗ w ⊗ i ⊗ (o ⊗ d)
  id_term y w o d i = simp ring

  pub extrapolate : (n t : ℕ) (y : ℕ → F) → n < t → ((i : ℕ) → i < t → ι (suc i) ≢ 𝟘)
      → interpolate O n y (ι t)
      ≡ inner O (suc n) (λ j. y j ⊗ weight O n j) (λ j. inv (ι (t - j))) ⊗ ascending O 0 (suc n) (ι t)
  unfolding interpolate basis
  extrapolate n t y h nz =
      sum_ext O (suc n) _ _ (λ j l. term j (omega arith))
      ∙ sum_times 𝓕 (suc n) (λ j. y j ⊗ weight O n j ⊗ inv (ι (t - j))) (ascending O 0 (suc n) (ι t))
    where
      gap : (j : ℕ) → j ≤ n → minus O (ι t) (ι j) ≡ ι (t - j)
      gap j l =
          ap (λ k. ι k ⊕ neg (ι j)) (let e : t ≡ t - j + j = omega arith in e) ∙ ap (◌⊕ neg (ι j)) (ι_add 𝓕 (t - j) j)
          ∙ id_gap _ _

      some : (j : ℕ) → j ≤ n → ι (t - j) ≢ 𝟘
      some j l e = nz (t - j - 1) (omega arith) (ap ι (let q : suc (t - j - 1) ≡ t - j = omega arith in q) ∙ e)

      term : (j : ℕ) → j ≤ n
          → y j ⊗ (weight O n j ⊗ others O n j (ι t))
          ≡ y j ⊗ weight O n j ⊗ inv (ι (t - j)) ⊗ ascending O 0 (suc n) (ι t)
      term j l =
          sym (mul-one 𝓕 _)
          ∙ ap (y j ⊗ (weight O n j ⊗ others O n j (ι t)) ⊗◌)
          (sym (𝓕.mul_inv (ι (t - j)) (some j l)) ∙ ap (◌⊗ inv (ι (t - j))) (sym (gap j l)))
          ∙ id_term _ _ _ _ _
          ∙ ap (y j ⊗ weight O n j ⊗ inv (ι (t - j)) ⊗◌) (others_whole n j (ι t) l)
