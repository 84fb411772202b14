-- The loop of `Grid::move_tile`: the bytes of the first i messages were moved.
use Rattle.shelf.specs.Grid.{Moved}
use Rattle.shelf.proofs.Grid.move_tile.Given as goal

abbrev pub invariant-loop-i : goal.invariant-loop-i
invariant-loop-i l = Moved l.self 0 l.i l.from l.to l.run l.initial.out l.out
