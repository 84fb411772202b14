-- The loop of `values::write_choice`: the first i options are written. Assumes nothing.
use Rattle.std.proofs.Common.{◌≡◌, ◌++◌, length, drop}
use Rattle.algebra.specs.Lists.{tabulate}
use Rattle.rules.specs.Columns.{choice}
use Rattle.rules.specs.Values.{encoded}
use Rattle.values.proofs.write_choice.Given as goal

abbrev pub invariant-loop-i : goal.invariant-loop-i
invariant-loop-i l = l.out ≡ tabulate (encoded (choice (length l.initial.out)) l.v) l.i ++ drop l.i l.initial.out
