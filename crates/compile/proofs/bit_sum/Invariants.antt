-- `compile::bit_sum` meets its contract. The loop's invariant: the first i bits are added and `weight`
-- is 2 ^ i; the measure is how many are left. Assumes nothing.
use mathlib.Core.Path.{◌≡◌}
use Prim.Native.Nat.{◌*◌, ◌^◌, ◌≤◌}
use Rattle.rules.specs.Circuit.{bit_adds}
use Rattle.compile.specs.Writing.{Put}
use Rattle.compile.proofs.Runs.{bytes}
use Rattle.compile.proofs.bit_sum.Given as goal

abbrev pub invariant-loop-i : goal.invariant-loop-i
invariant-loop-i l =
    (l.i ≤ l.n) × (l.weight ≡ 2 ^ l.i) × Put l.initial.out l.at (12 * l.i) (bytes (bit_adds l.i l.w l.q)) l.out l.place
