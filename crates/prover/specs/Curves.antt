-- A polynomial of degree at most n by its values at the points 0, .., n, and the tables from which its values at
-- n + 1, .., 2n follow.
-- Assumes nothing.
use Rattle.std.specs.Prelude.{◌≡◌, List, ℕ, suc, ◌+◌, ◌-◌, ◌≤◌, length}
use Rattle.algebra.specs.Ops.{minus}
use Rattle.algebra.specs.Lists.{tabulate}
use Rattle.algebra.specs.Sums.{inner}
use Rattle.algebra.specs.Interpolation.{ascending, weight, basis, interpolate}
use Rattle.field.specs.Residues.{prime, residues, Elements}
use Rattle.walk.specs.Walks.{members}

-- the product of t - k over the points k = 0, .., n, at t = n + 1 + i
abbrev pub fall_at : ℕ → ℕ → ℕ
fall_at n i = ascending residues 0 (suc n) (suc n + i)

-- value j with its weight as a factor
abbrev pub scaled_at : ℕ → List ℕ → ℕ → ℕ
scaled_at n ys j = residues.◌⊗◌ (members ys j) (weight residues n j)

-- the value at t = n + 1 + i, from scaled values: their inner product with 1 / (t - j), times that product
abbrev pub beyond_at : ℕ → List ℕ → ℕ → ℕ
beyond_at n scaled i =
    residues.◌⊗◌ (inner residues (suc n) (members scaled) (λ j. residues.inv (suc n + i - j))) (fall_at n i)

-- the value at the number j
abbrev pub value_at : ℕ → List ℕ → ℕ → ℕ
value_at n ys j = interpolate residues n (members ys) (residues.ι j)

-- the polynomial that is d at 0 and the prime less 1 at 1, .., n: its value at the number j
abbrev pub shift_at : ℕ → ℕ → ℕ → ℕ
shift_at n d j =
    residues.◌⊕◌ (prime - 1) (residues.◌⊗◌ (minus residues d (prime - 1)) (basis residues n 0 (residues.ι j)))

-- what it exceeds the prime less 1 by at 0, with the weight of that point as a factor
abbrev pub scaled_shift : ℕ → ℕ → ℕ
scaled_shift n d = residues.◌⊗◌ (minus residues d (prime - 1)) (weight residues n 0)

-- f(j) g(j) from y = f(j), where g - f is that polynomial, and where it is that and one whose value is e
abbrev pub product_of : ℕ → ℕ → ℕ → ℕ → ℕ
product_of n y d j = residues.◌⊗◌ y (residues.◌⊕◌ y (shift_at n d j))

abbrev pub corrected_of : ℕ → ℕ → ℕ → ℕ → ℕ → ℕ
corrected_of n y e d j = residues.◌⊗◌ y (residues.◌⊕◌ (residues.◌⊕◌ y (shift_at n d j)) e)

-- from the values of f, and of the other polynomial es
abbrev pub product_at : ℕ → List ℕ → ℕ → ℕ → ℕ
product_at n fs d j = product_of n (value_at n fs j) d j

abbrev pub corrected_at : ℕ → List ℕ → List ℕ → ℕ → ℕ → ℕ
corrected_at n fs es d j = corrected_of n (value_at n fs j) (value_at n es j) d j

-- the weights of the points 0, .., n
pub record Weights (n : ℕ) (ws : List ℕ) : Type 0 where
  pub are : ws ≡ tabulate (weight residues n) (suc n)

-- the products at n + 1, .., 2n, and the inverses of 2n, .., 1
pub record Ready (n : ℕ) (falls back : List ℕ) : Type 0 where
  pub few : n ≤ 256
  pub falls_are : falls ≡ tabulate (fall_at n) n
  pub back_are : back ≡ tabulate (λ i. residues.inv (n + n - i)) (n + n)

-- the values at 0, .., n, and these with their weights as factors
pub record Curve (n : ℕ) (ys scaled : List ℕ) : Type 0 where
  pub size : length ys ≡ suc n
  pub elements : Elements ys
  pub scaled_are : scaled ≡ tabulate (scaled_at n ys) (suc n)
