-- The bound on roots: a root a of f leaves a quotient q of one degree less, with f x - f a = (x - a) q x, and every
-- other root of f is one of q. So a polynomial function with more roots than its degree is 0. Assumes nothing.
use mathlib.Core.Path.{◌≡◌, refl, sym, ◌∙◌, ap, ap₂, ◌≡⟨◌⟩◌, ◌∎}
use mathlib.Core.Logic.{◌⊎◌, inl, inr, ◌≢◌}
use mathlib.Core.List.{List, [], ◌∷◌}
use Prim.Native.Nat.{ℕ, zero, suc, ◌+◌, ◌≤◌, ◌<◌}
use native.Mathlib.Omega.{arith}
use lib.ListN.{length}
use Rattle.algebra.specs.Lists.{All, all[], all∷, Distinct, distinct[], distinct∷}
use Rattle.algebra.specs.Ops.{Field}
use Rattle.algebra.specs.Polynomial.{PolyFn, const, step, horner}
use Rattle.algebra.specs.Claims.{Vanishes, RootBound}
use Rattle.algebra.proofs.Members.{all_map}
use Rattle.algebra.proofs.Ring.{ring, zero-add, add-zero, add_neg, mul-zero, sub_zero}
use Rattle.algebra.proofs.Polynomial.{poly_add, poly_neg, poly_horner}

module _ (𝓕 : Field) where
  open 𝓕.ops use {F, ◌⊕◌, ◌⊗◌, neg, 𝟘, 𝟙}

  infixl 65 ◌⊕◌
  infixl 70 ◌⊗◌
  -- division by x - a, stated with no subtraction
  record Quotient (n : ℕ) (f : F → F) (a : F) : Type 0 where
    quot : F → F
    poly : PolyFn 𝓕 n quot
    same : (x : F) → f x ⊕ a ⊗ quot x ≡ f a ⊕ x ⊗ quot x

  id_first : (a c d x : F) → (c ⊕ x ⊗ d) ⊕ a ⊗ d ≡ (c ⊕ a ⊗ d) ⊕ x ⊗ d
  id_first a c d x = simp ring

  id_next : (a c x gx ga q : F) → gx ⊕ a ⊗ q ≡ ga ⊕ x ⊗ q
      → (c ⊕ x ⊗ gx) ⊕ a ⊗ (ga ⊕ x ⊗ q) ≡ (c ⊕ a ⊗ ga) ⊕ x ⊗ (ga ⊕ x ⊗ q)
  id_next a c x gx ga q e =
      (c ⊕ x ⊗ gx) ⊕ a ⊗ (ga ⊕ x ⊗ q) ≡⟨ (simp ring) ⟩
      (c ⊕ a ⊗ ga) ⊕ x ⊗ (gx ⊕ a ⊗ q) ≡⟨ ap (λ t. (c ⊕ a ⊗ ga) ⊕ x ⊗ t) e ⟩
      (c ⊕ a ⊗ ga) ⊕ x ⊗ (ga ⊕ x ⊗ q) ∎

  divide : {n : ℕ} {f : F → F} → PolyFn 𝓕 (suc n) f → (a : F) → Quotient n f a
  divide {f = f} (step c (const d h) e) a = record {
    quot = λ x. d;
    poly = const d (λ x. refl);
    same = λ x. ap (◌⊕ a ⊗ d) (at x) ∙ id_first a c d x ∙ ap (◌⊕ x ⊗ d) (sym (at a));
  }
    where
      at : (x : F) → f x ≡ c ⊕ x ⊗ d
      at x = e x ∙ ap (λ t. c ⊕ x ⊗ t) (h x)
  divide {f = f} (step {g = g} c (step d p h) e) a = go (divide (step d p h) a)
    where
      go : {m : ℕ} → Quotient m g a → Quotient (suc m) f a
      go r = record {
        quot = λ x. g a ⊕ x ⊗ r.quot x;
        poly = step (g a) r.poly (λ x. refl);
        same = λ x.
            ap (◌⊕ a ⊗ (g a ⊕ x ⊗ r.quot x)) (e x)
            ∙ id_next a c x (g x) (g a) (r.quot x) (r.same x)
            ∙ ap (◌⊕ x ⊗ (g a ⊕ x ⊗ r.quot x)) (sym (e a));
      }

  id_sub : (s a q : F) → (s ⊕ neg a) ⊗ q ≡ s ⊗ q ⊕ neg (a ⊗ q)
  id_sub s a q = simp ring

  -- a root of f other than a is one of the quotient
  left_root : {n : ℕ} {f : F → F} {a s : F} (r : Quotient n f a) → f a ≡ 𝟘 → f s ≡ 𝟘 → s ≢ a → r.quot s ≡ 𝟘
  left_root {f = f} {a = a} {s = s} r za zs ne = pick (𝓕.no_zero_div (s ⊕ neg a) (r.quot s) prod)
    where
      meet : a ⊗ r.quot s ≡ s ⊗ r.quot s
      meet =
          sym (zero-add 𝓕 _) ∙ ap (◌⊕ a ⊗ r.quot s) (sym zs) ∙ r.same s ∙ ap (◌⊕ s ⊗ r.quot s) za ∙ zero-add 𝓕 _

      prod : (s ⊕ neg a) ⊗ r.quot s ≡ 𝟘
      prod = id_sub s a (r.quot s) ∙ ap (λ t. s ⊗ r.quot s ⊕ neg t) meet ∙ add_neg 𝓕 _

      pick : (s ⊕ neg a ≡ 𝟘) ⊎ (r.quot s ≡ 𝟘) → r.quot s ≡ 𝟘
      pick (inl e) = absurd (ne (sub_zero 𝓕 e))
      pick (inr e) = e

  left_roots : {n : ℕ} {f : F → F} {a : F} {rs : List F} (r : Quotient n f a) → f a ≡ 𝟘 → All (λ s. s ≢ a) rs
      → All (λ s. f s ≡ 𝟘) rs → All (λ s. r.quot s ≡ 𝟘) rs
  left_roots r za all[] all[] = all[]
  left_roots r za (all∷ ne nes) (all∷ z zs) = all∷ (left_root r za z ne) (left_roots r za nes zs)

  bound : (rs : List F) {n : ℕ} {f : F → F} → PolyFn 𝓕 n f → n < length rs → Distinct rs → All (λ r. f r ≡ 𝟘) rs
      → (x : F) → f x ≡ 𝟘
  bound [] p lt d z x = absurd (omega arith)
  bound (r ∷ rs) (const c e) lt d (all∷ z zs) x = e x ∙ sym (e r) ∙ z
  bound (r ∷ rs) {f = f} (step {n = n} c p e) lt (distinct∷ fresh d) (all∷ z zs) x =
      let q : Quotient n f r = divide (step c p e) r in
      let qz : q.quot x ≡ 𝟘 = bound rs q.poly (omega arith) d (left_roots q z fresh zs) x in
      f x ≡⟨ (simp (mul-zero, add-zero)) ⟩
      f x ⊕ r ⊗ 𝟘 ≡⟨ ap (λ t. f x ⊕ r ⊗ t) (sym qz) ⟩
      f x ⊕ r ⊗ q.quot x ≡⟨ q.same x ⟩
      f r ⊕ x ⊗ q.quot x ≡⟨ ap₂ (λ s t. s ⊕ x ⊗ t) z qz ⟩
      𝟘 ⊕ x ⊗ 𝟘 ≡⟨ (simp (mul-zero, add-zero)) ⟩
      𝟘 ∎

  pub root_bound : RootBound 𝓕
  root_bound n f rs p lt d z = bound rs p lt d z

  -- two polynomial functions of degree at most n that agree at more than n points are the same
  differences : {f g : F → F} {rs : List F} → All (λ r. f r ≡ g r) rs → All (λ r. f r ⊕ neg (g r) ≡ 𝟘) rs
  differences {f} {g} = all_map (λ r e. ap (◌⊕ neg (g r)) e ∙ add_neg 𝓕 (g r))

  pub unique : (rs : List F) {n : ℕ} {f g : F → F} → PolyFn 𝓕 n f → PolyFn 𝓕 n g → n < length rs → Distinct rs
      → All (λ r. f r ≡ g r) rs → (x : F) → f x ≡ g x
  unique rs p q lt d es x = sub_zero 𝓕 (bound rs (poly_add 𝓕 p (poly_neg 𝓕 q)) lt d (differences es) x)

  -- c + x q x is 0 everywhere only where c is 0 and q is 0 everywhere
  strip_root : {c x y : F} → c ≡ 𝟘 → c ⊕ x ⊗ y ≡ 𝟘 → x ≢ 𝟘 → y ≡ 𝟘
  strip_root {c} {x} {y} cz e ne = go (𝓕.no_zero_div x y (sym (zero-add 𝓕 _) ∙ ap (◌⊕ x ⊗ y) (sym cz) ∙ e))
    where
      go : (x ≡ 𝟘) ⊎ (y ≡ 𝟘) → y ≡ 𝟘
      go (inl z) = absurd (ne z)
      go (inr z) = z

  pub strip_const : {c : F} {q : F → F} → ((x : F) → c ⊕ x ⊗ q x ≡ 𝟘) → c ≡ 𝟘
  strip_const {c} {q} h = sym (at0 c (q 𝟘)) ∙ h 𝟘
    where
      at0 : (c y : F) → c ⊕ 𝟘 ⊗ y ≡ c
      at0 c y = simp ring

  pub strip : {n : ℕ} {q : F → F} {c : F} (rs : List F) → PolyFn 𝓕 n q → n < length rs → Distinct rs
      → All (λ r. r ≢ 𝟘) rs → ((x : F) → c ⊕ x ⊗ q x ≡ 𝟘) → Vanishes 𝓕 q
  strip {q = q} {c = c} rs p lt d nz h =
      let cz : c ≡ 𝟘 = strip_const {q = q} h in
      bound rs p lt d (all_map (λ r ne. strip_root cz (h r) ne) nz)

  -- a polynomial that is 0 everywhere has no coefficient but 0, given as many points that are not 0
  coefficients_from : (rs : List F) → Distinct rs → All (λ r. r ≢ 𝟘) rs → (c : F) (cs : List F) → length cs ≤ length rs
      → Vanishes 𝓕 (horner 𝓕.ops (c ∷ cs)) → All (λ y. y ≡ 𝟘) (c ∷ cs)
  unfolding horner
  coefficients_from rs d nz c [] le h = all∷ (strip_const {q = λ x. 𝟘} h) all[]
  coefficients_from rs d nz c (e ∷ cs) le h =
      all∷ (strip_const {q = horner 𝓕.ops (e ∷ cs)} h)
      (coefficients_from rs d nz e cs (omega arith) (strip rs (poly_horner 𝓕 e cs) le d nz h))

  pub coefficients_zero : (rs : List F) → Distinct rs → All (λ r. r ≢ 𝟘) rs → (cs : List F) → length cs ≤ suc (length rs)
      → Vanishes 𝓕 (horner 𝓕.ops cs) → All (λ y. y ≡ 𝟘) cs
  coefficients_zero rs d nz [] le h = all[]
  coefficients_zero rs d nz (c ∷ cs) le h = coefficients_from rs d nz c cs (omega arith) h
