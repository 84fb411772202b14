-- `quotients::mirror`: after j turns the buffer holds the weights of the first j points, then what it held before, and a
-- turn reads from the part behind the middle.
use Rattle.std.proofs.Common.{◌≡◌, ◌-◌, ◌++◌, length, drop}
use Rattle.algebra.specs.Interpolation.{weight}
use Rattle.algebra.specs.Lists.{tabulate}
use Rattle.field.specs.Residues.{residues}
use Rattle.quotients.proofs.mirror.Given as goal

abbrev pub invariant-loop-j : goal.invariant-loop-j
invariant-loop-j l =
    l.out ≡ tabulate (weight residues (length l.initial.out - 1)) l.j ++ drop l.j l.initial.out
