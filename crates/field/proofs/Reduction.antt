-- The prime plus 1 leaves 1, so a number leaves what the sum of its two digits in that base leaves. Assumes nothing.
use mathlib.Core.Path.{◌≡◌}
use Prim.Native.Nat.{ℕ, ◌+◌, ◌/◌, ◌%◌}
use native.Mathlib.Omega.{arith}
use Rattle.field.specs.Residues.{prime, top}

pub folded : (z : ℕ) → (z % top + z / top) % prime ≡ z % prime
folded z = omega arith
