-- `every_return::write_columns` meets its contract. The loop's invariant: the columns before the walk's place are put in all lists
-- (`ColumnsPut`), and `behind` is the count of the lists of the columns from there on (`behind_next`).
-- Assumes nothing.
use mathlib.Core.Path.{◌≡◌}
use lib.ListN.{drop}
use Rattle.rules.specs.Columns.{columns_of}
use Rattle.rules.specs.EveryReturn.{lists_in}
use Rattle.every_return.proofs.Rows.{ColumnsPut}
use Rattle.every_return.proofs.write_columns.Given as goal

abbrev pub invariant-loop-place : goal.invariant-loop-place
invariant-loop-place l =
    (goal.iterator-loop-place).can_next l.place-iterator
    × (goal.iterator-loop-place).is_finite l.place-iterator
    × (l.place-iterator.sheet.now ≡ l.s)
    × (l.behind ≡ lists_in (drop l.place-iterator.next.index (columns_of l.s)))
    × ColumnsPut (columns_of l.s) l.lists l.place-iterator.next.index l.initial.out l.out
