-- `walk::fill_extras` meets its contract: each turn writes the extras of one column behind those of the columns before.
-- Assumes nothing.
use mathlib.Core.Path.{◌≡◌}
use Rattle.rules.specs.Circuit.{gates_in}
use Rattle.walk.specs.Walks.{members}
use Rattle.walk.proofs.Walking.{Walking}
use Rattle.walk.proofs.Meanings.{extra_part}
use Rattle.walk.proofs.fill_extras.Given as goal

abbrev pub invariant-loop-place : goal.invariant-loop-place
invariant-loop-place l =
    (goal.iterator-loop-place).can_next l.place-iterator
    × (goal.iterator-loop-place).is_finite l.place-iterator
    × (l.place-iterator.sheet.now ≡ l.s)
    × Walking (extra_part l.constant (members l.x)) gates_in l.s l.initial.out l.out l.place-iterator.next l.place-iterator.next.gates
