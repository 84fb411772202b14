-- `columns::bit_length`: 32 bits are the leading zeros and those of the bit length. Assumes nothing.
use mathlib.Core.Path.{◌≡◌}
use Prim.Native.Nat.{ℕ, ◌-◌, ◌≤◌}
use native.Mathlib.Omega.{arith}
use lib.Count.{count_leading_zeros, leading_unique}
use Rattle.rules.specs.Columns.{bit_length}
use Rattle.rules.proofs.Circuits.BitLength.{bit_length_lem}
use Rattle.columns.proofs.bit_length.Goals as goal

zeros : (n : ℕ) → 1 ≤ n → n ≤ 16777215 → (bit_length n ≤ 32) × (32 - bit_length n ≡ count_leading_zeros 32 n)
zeros n h h' =
    let b = bit_length_lem n h h' in
    (omega arith, leading_unique 32 n (32 - bit_length n) (bit_length n) (omega arith) b.below_power (omega arith))

pub returns : goal.returns
returns c = let z = zeros c.args.n c.requires.0 c.requires.1 in omega arith
