-- The three numbers are differences of two products, and a product is below the bound where its factors' bounds multiply to it. The
-- bounds are those of a prime: the number of returns, a sum of x or y, and a sum of x × x or x × y. Assumes nothing.
use Prim.Native.Nat.{ℕ, suc, ◌*◌, ◌^◌, ◌<◌, ◌≤◌}
use native.Mathlib.Nat.{mul-le-mul}
use native.Mathlib.Omega.{arith}
use lib.Dec.{lit≤}
use lib.IntN.{nat_abs}
use Rattle.rules.specs.Line.{Sums, determinant, slope, intercept, Within, Narrow}
use Rattle.rules.proofs.Lines.Differences.{minus_small}

-- the three numbers are below m where the six products are
pub small : (m : ℕ) (s : Sums) → Narrow m s → (nat_abs (determinant s) < m) × (nat_abs (slope s) < m) × (nat_abs (intercept s) < m)
unfolding determinant slope intercept
small m s w = (
  minus_small _ _ m w.n_xx w.x_x,
  minus_small _ _ m w.n_xy w.x_y,
  minus_small _ _ m w.xx_y w.x_xy,
)

-- below the product of two bounds
below : (c d m : ℕ) → c * d ≤ m → (a b : ℕ) → a < c → b < d → a * b < m
below c d m l a b h k = omega (arith, mul-le-mul {n₁ = suc a} {m₁ = suc b} h k)

pub narrow : (most single double m : ℕ) → suc most * double ≤ m → single * single ≤ m → double * single ≤ m
    → (s : Sums) → Within most single double s → Narrow m s
narrow most single double m many squares mixed s w =
    let few : s.n < suc most = omega (arith, w.few) in
    record {
      n_xx = below (suc most) double m many s.n s.xx few w.xx_low;
      x_x = below single single m squares s.x s.x w.x_low w.x_low;
      n_xy = below (suc most) double m many s.n s.xy few w.xy_low;
      x_y = below single single m squares s.x s.y w.x_low w.y_low;
      xx_y = below double single m mixed s.xx s.y w.xx_low w.y_low;
      x_xy = omega (arith, below double single m mixed s.xy s.x w.xy_low w.x_low);
    }

-- 2^62 for at most 1,024 returns and sums below 2147483647
pub narrow_at_p : (s : Sums) → Within 1024 2147483647 2147483647 s → Narrow (2 ^ 62) s
narrow_at_p = narrow 1024 2147483647 2147483647 (2 ^ 62) (lit≤ tt) (lit≤ tt) (lit≤ tt)
