-- The loop of `values::write_bits`: the first bits are written, and the rest is v without them. Assumes nothing.
use Rattle.std.proofs.Common.{◌≡◌, ℕ, ◌/◌, ◌%◌, ◌^◌, ◌++◌, drop}
use Rattle.algebra.specs.Lists.{tabulate}
use Rattle.values.proofs.write_bits.Given as goal

-- bit j of v
abbrev pub bit : ℕ → ℕ → ℕ
bit v j = v / 2 ^ j % 2

abbrev pub invariant-loop-bit : goal.invariant-loop-bit
invariant-loop-bit l = (l.out ≡ tabulate (bit l.v) l.bit-index ++ drop l.bit-index l.initial.out) × (l.rest ≡ l.v / 2 ^ l.bit-index)
