-- `compile::option_sum` meets its contract. The loop's invariant: the first i additions are written and
-- `sum` is the last sum's wire; the measure is how many are left. Assumes nothing.
use mathlib.Core.Path.{◌≡◌}
use Prim.Native.Nat.{◌*◌, ◌≤◌}
use Rattle.rules.specs.Circuit.{option_adds, option_sum}
use Rattle.compile.specs.Writing.{Put}
use Rattle.compile.proofs.Runs.{bytes}
use Rattle.compile.proofs.option_sum.Given as goal

abbrev pub invariant-loop-i : goal.invariant-loop-i
invariant-loop-i l =
    (l.i ≤ l.n) × (l.sum ≡ option_sum l.q l.i) × Put l.initial.out l.at (5 * l.i) (bytes (option_adds l.i l.w l.q)) l.out l.place
