-- Functions given by a polynomial.
-- Assumes nothing.
use Rattle.std.specs.Prelude.{◌≡◌, List, [], ◌∷◌, ℕ, zero, suc}
use Rattle.algebra.specs.Ops.{Ops, Field}

-- the polynomial with the coefficients c₀, c₁, .. at x, by Horner's rule
module _ (O : Ops) where
  open O use {F, ◌⊕◌, ◌⊗◌, 𝟘}

  infixl 65 ◌⊕◌
  infixl 70 ◌⊗◌
  unfoldable pub horner : List F → F → F
  horner [] x = 𝟘
  horner (c ∷ cs) x = c ⊕ x ⊗ horner cs x

-- `PolyFn n f`: f is a polynomial function of degree at most n, x ↦ c₀ + x (c₁ + x (.. cₙ))
module _ (𝓕 : Field) where
  open 𝓕.ops use {F, ◌⊕◌, ◌⊗◌}

  infixl 65 ◌⊕◌
  infixl 70 ◌⊗◌
  pub data PolyFn : ℕ → (F → F) → Type 0 where
    const : {f : F → F} (c : F) → ((x : F) → f x ≡ c) → PolyFn zero f
    step : {n : ℕ} {f g : F → F} (c : F) → PolyFn n g → ((x : F) → f x ≡ c ⊕ x ⊗ g x) → PolyFn (suc n) f
