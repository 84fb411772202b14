-- The loop of `Grid::move_some`: the bytes from `from` to j of the message were moved.
use Rattle.std.proofs.Common.{suc}
use Rattle.shelf.specs.Grid.{Moved}
use Rattle.shelf.proofs.Grid.move_some.Given as goal

abbrev pub invariant-loop-j : goal.invariant-loop-j
invariant-loop-j l = Moved l.self l.i (suc l.i) l.from l.j l.run l.initial.out l.out
