-- Sums and products over 0, 1, .., m - 1. Each grows at its end, as a loop computes it.
-- Assumes nothing.
use Rattle.std.specs.Prelude.{ℕ, zero, suc}
use Rattle.algebra.specs.Ops.{Ops}

module _ (O : Ops) where
  open O use {F, ◌⊕◌, ◌⊗◌, 𝟘, 𝟙, ι}

  infixl 65 ◌⊕◌
  infixl 70 ◌⊗◌
  -- g 0 + .. + g (m - 1)
  unfoldable pub sum : ℕ → (ℕ → F) → F
  sum zero g = 𝟘
  sum (suc m) g = sum m g ⊕ g m

  -- g 0 * .. * g (m - 1)
  unfoldable pub product : ℕ → (ℕ → F) → F
  product zero g = 𝟙
  product (suc m) g = product m g ⊗ g m

  -- the inner product of the first m members of x and y
  abbrev pub inner : ℕ → (ℕ → F) → (ℕ → F) → F
  inner m x y = sum m (λ i. x i ⊗ y i)

  -- s to the power k; 1 at k = 0, also for s = 0
  abbrev pub power : F → ℕ → F
  power s k = product k (λ i. s)

  -- n factorial
  abbrev pub factorial : ℕ → F
  factorial n = product n (λ i. ι (suc i))
