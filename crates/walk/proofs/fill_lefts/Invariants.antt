-- `walk::fill_lefts` meets its contract: each turn writes the inputs of one column behind those of the columns before, and counts
-- its products. Assumes nothing.
use mathlib.Core.Path.{◌≡◌}
use lib.ListN.{take}
use Rattle.rules.specs.Columns.{columns_of}
use Rattle.rules.specs.Circuit.{gates_in, products_in}
use Rattle.walk.specs.Walks.{plain, members}
use Rattle.walk.proofs.Walking.{Walking}
use Rattle.walk.proofs.Meanings.{left_part}
use Rattle.walk.proofs.fill_lefts.Given as goal

abbrev pub invariant-loop-place : goal.invariant-loop-place
invariant-loop-place l =
    (goal.iterator-loop-place).can_next l.place-iterator
    × (goal.iterator-loop-place).is_finite l.place-iterator
    × (l.place-iterator.sheet.now ≡ l.s)
    × Walking (left_part (plain 0 (members l.x))) gates_in l.s l.initial.out l.out l.place-iterator.next l.place-iterator.next.gates
    × (l.products ≡ products_in (take l.place-iterator.next.index (columns_of l.s)))
