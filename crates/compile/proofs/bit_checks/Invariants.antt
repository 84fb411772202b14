-- `compile::bit_checks` meets its contract. The loop's invariant: the first i checks are written; the
-- measure is how many are left. Assumes nothing.
use Prim.Native.Nat.{◌*◌, ◌≤◌}
use Rattle.rules.specs.Circuit.{bit_checks}
use Rattle.compile.specs.Writing.{Put}
use Rattle.compile.proofs.Runs.{bytes}
use Rattle.compile.proofs.bit_checks.Given as goal

abbrev pub invariant-loop-i : goal.invariant-loop-i
invariant-loop-i l =
    (l.i ≤ l.n) × Put l.initial.out l.at (16 * l.i) (bytes (bit_checks l.i l.e l.w)) l.out l.place
