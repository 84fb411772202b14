-- The loop of `Grid::move_all`: the bytes before `from` of each message were moved; the measure is what is left of a message.
use Rattle.std.proofs.Common.{min, ◌-◌}
use Rattle.shelf.specs.Grid.{Moved}
use Rattle.shelf.proofs.Grid.move_all.Given as goal

abbrev pub invariant-loop-from : goal.invariant-loop-from
invariant-loop-from l = Moved l.self 0 l.self.messages 0 (min l.from l.self.width) l.run l.initial.out l.out

abbrev pub decreases-loop-from : goal.decreases-loop-from
decreases-loop-from l = l.self.width - l.from
