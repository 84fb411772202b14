-- The weights one from another: of the next point, by a quotient of two small numbers, and of the point on the other side of
-- the middle, by a sign. Both from the weights by factorials. Assumes nothing.
use mathlib.Core.Path.{◌≡◌, sym, ◌∙◌, ap}
use mathlib.Core.Logic.{◌≢◌}
use Prim.Native.Nat.{ℕ, zero, suc, ◌+◌, ◌-◌, ◌≤◌, ◌<◌}
use native.Mathlib.Nat.{zero-add}
use native.Mathlib.Omega.{arith}
use Rattle.algebra.specs.Ops.{Ops, Field}
use Rattle.algebra.specs.Sums.{product}
use Rattle.algebra.specs.Interpolation.{weight, sign}
use Rattle.algebra.proofs.Ring.{ring, mul-one}
use Rattle.algebra.proofs.Weights.{inverse_factorial, weight_factorial}

module _ (𝓕 : Field) where
  open 𝓕.ops use {F, ◌⊗◌, neg, 𝟘, inv, ι}

  infixl 70 ◌⊗◌
  abbrev O : Ops
  O = 𝓕.ops

  abbrev over : ℕ → F
  over = inverse_factorial 𝓕

  id_next : (i u s f w v : F) → i ⊗ u ⊗ (s ⊗ f) ⊗ (w ⊗ v) ≡ i ⊗ (neg s ⊗ (f ⊗ v)) ⊗ (neg w ⊗ u)
  id_next i u s f w v = simp ring

  pub weight_next : (n j : ℕ) → j < n → ((i : ℕ) → i < n → ι (suc i) ≢ 𝟘)
      → weight O n (suc j) ≡ weight O n j ⊗ (neg (ι (n - j)) ⊗ inv (ι (suc j)))
  unfolding product sign
  weight_next n j h nz =
      let m = n - suc j in
      let e : suc (n - suc j) ≡ n - j = omega arith in
      weight_factorial 𝓕 n (suc j) (omega arith) nz
      ∙ sym (mul-one 𝓕 _)
      ∙ ap (over (suc j) ⊗ (sign O m ⊗ over m) ⊗◌) (sym (𝓕.mul_inv (ι (suc m)) (nz m (omega arith))))
      ∙ id_next (over j) (inv (ι (suc j))) (sign O m) (over m) (ι (suc m)) (inv (ι (suc m)))
      ∙ ap (λ (k : ℕ). over j ⊗ (sign O k ⊗ over k) ⊗ (neg (ι k) ⊗ inv (ι (suc j)))) e
      ∙ ap (◌⊗ (neg (ι (n - j)) ⊗ inv (ι (suc j)))) (sym (weight_factorial 𝓕 n j (omega arith) nz))

  id_square : (s t : F) → s ⊗ t ≡ neg s ⊗ neg t
  id_square s t = simp ring

  sign_less : (j m : ℕ) → sign O m ≡ sign O (j + m) ⊗ sign O j
  unfolding sign
  sign_less zero m = sym (mul-one 𝓕 _) ∙ ap (λ (k : ℕ). sign O k ⊗ sign O 0) (sym (zero-add m))
  sign_less (suc j) m =
      sign_less j m
      ∙ id_square _ _
      ∙ ap (λ (k : ℕ). sign O k ⊗ sign O (suc j)) (let e : suc (j + m) ≡ suc j + m = omega arith in e)

  id_mirror : (f s t g : F) → f ⊗ (s ⊗ t ⊗ g) ≡ s ⊗ (g ⊗ (t ⊗ f))
  id_mirror f s t g = simp ring

  pub weight_mirror : (n j : ℕ) → j ≤ n → ((i : ℕ) → i < n → ι (suc i) ≢ 𝟘) → weight O n j ≡ sign O n ⊗ weight O n (n - j)
  weight_mirror n j h nz =
      let e : j + (n - j) ≡ n = omega arith in
      let b : j ≡ n - (n - j) = omega arith in
      weight_factorial 𝓕 n j h nz
      ∙ ap (λ (t : F). over j ⊗ (t ⊗ over (n - j))) (sign_less j (n - j) ∙ ap (λ (k : ℕ). sign O k ⊗ sign O j) e)
      ∙ id_mirror (over j) (sign O n) (sign O j) (over (n - j))
      ∙ ap (λ (k : ℕ). sign O n ⊗ (over (n - j) ⊗ (sign O k ⊗ over k))) b
      ∙ ap (sign O n ⊗◌) (sym (weight_factorial 𝓕 n (n - j) (omega arith) nz))
