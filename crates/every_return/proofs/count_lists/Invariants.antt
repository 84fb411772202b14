-- `every_return::count_lists` meets its contract. The loop's invariant: the total is that of the columns before the walk's place
-- (`total_next`), and is not too large. Assumes nothing.
use mathlib.Core.Path.{◌≡◌}
use Prim.Native.Nat.{◌≤◌}
use lib.ListN.{take}
use Rattle.rules.specs.Columns.{columns_of}
use Rattle.rules.specs.EveryReturn.{lists_in, most_lists}
use Rattle.every_return.proofs.count_lists.Given as goal

abbrev pub invariant-loop-place : goal.invariant-loop-place
invariant-loop-place l =
    (goal.iterator-loop-place).can_next l.place-iterator
    × (goal.iterator-loop-place).is_finite l.place-iterator
    × (l.place-iterator.sheet.now ≡ l.s)
    × (l.total ≡ lists_in (take l.place-iterator.next.index (columns_of l.s)))
    × (l.total ≤ most_lists)
