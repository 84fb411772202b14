-- The factor on constants is an element, and a table of weights by its length. Assumes nothing.
use mathlib.Core.Path.{◌≡◌, ap₂}
use Prim.Native.Nat.{ℕ, zero, suc, ◌-◌, ◌<◌}
use native.Mathlib.Omega.{arith}
use lib.Dec.{lit<}
use Rattle.algebra.specs.Lists.{tabulate}
use Rattle.algebra.specs.Interpolation.{weight}
use Rattle.field.specs.Residues.{prime, residues}
use Rattle.rules.specs.Judging.{first_only}

pub first_below : (own : ℕ) → first_only residues own < prime
unfolding first_only
first_below zero = lit< tt
first_below (suc own) = lit< tt

-- those of n points, the last of which is k
pub weights_to : {n k : ℕ} → n ≡ suc k → tabulate (weight residues (n - 1)) n ≡ tabulate (weight residues k) (suc k)
weights_to {n} {k} e =
    let last : n - 1 ≡ k = omega arith in
    ap₂ (λ (i j : ℕ). tabulate (weight residues i) j) last e
