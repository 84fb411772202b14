-- Interpolation at the points 0, 1, .., n, by Lagrange's form. The product over the other points is one that grows at its
-- end times one that grows at its front; no quotient by x - j is formed, so x may itself be a point. Assumes nothing.
use Rattle.std.specs.Prelude.{ℕ, zero, suc, ◌+◌, ◌-◌}
use Rattle.algebra.specs.Ops.{Ops, minus}
use Rattle.algebra.specs.Sums.{product, inner}

module _ (O : Ops) where
  open O use {F, ◌⊕◌, ◌⊗◌, 𝟘, 𝟙, inv, ι}

  infixl 65 ◌⊕◌
  infixl 70 ◌⊗◌
  -- (x - s) (x - (s + 1)) .. (x - (s + m - 1)): a loop that goes up computes it
  abbrev pub ascending : ℕ → ℕ → F → F
  ascending s m x = product O m (λ i. minus O x (ι (s + i)))

  -- the same product, which grows at its front
  unfoldable pub descending : ℕ → ℕ → F → F
  descending s zero x = 𝟙
  descending s (suc m) x = minus O x (ι s) ⊗ descending (suc s) m x

  -- the product of x - k over the points k other than j
  unfoldable pub others : ℕ → ℕ → F → F
  others n j x = ascending 0 j x ⊗ descending (suc j) (n - j) x

  -- 1 over the product of j - k over the points k other than j
  unfoldable pub weight : ℕ → ℕ → F
  weight n j = inv (others n j (ι j))

  -- the polynomial of degree at most n that is 1 at j and 0 at the other points, at x
  unfoldable pub basis : ℕ → ℕ → F → F
  basis n j x = weight n j ⊗ others n j x

  -- the polynomial of degree at most n through y 0, .., y n at the points 0, .., n, at x
  unfoldable pub interpolate : ℕ → (ℕ → F) → F → F
  interpolate n y x = inner O (suc n) y (λ j. basis n j x)

  -- (- 1) to the power n
  unfoldable pub sign : ℕ → F
  sign zero = 𝟙
  sign (suc n) = O.neg (sign n)

  -- the numerator of the sum of t i / (x - (s + i)) over i < n, whose denominator is ascending s n x: a loop that adds one
  -- fraction after another computes it
  unfoldable pub numerator : ℕ → F → ℕ → (ℕ → F) → F
  numerator s x zero t = 𝟘
  numerator s x (suc n) t = numerator s x n t ⊗ minus O x (ι (s + n)) ⊕ t n ⊗ ascending s n x
