-- `values::check_values` meets its contract. The loop's invariant: the answer is that of the columns and values from
-- the walk's place on (`legal_next`). Assumes nothing.
use mathlib.Core.Path.{◌≡◌}
use lib.ListN.{drop}
use Rattle.words.specs.Bytes.{elements_of}
use Rattle.rules.specs.Columns.{columns_of}
use Rattle.rules.specs.Values.{legal_values}
use Rattle.values.proofs.check_values.Given as goal

abbrev pub invariant-loop-place : goal.invariant-loop-place
invariant-loop-place l =
    (goal.iterator-loop-place).can_next l.place-iterator
    × (goal.iterator-loop-place).is_finite l.place-iterator
    × (l.place-iterator.sheet.now ≡ l.s)
    × (legal_values (columns_of l.s) (elements_of 4 l.values)
    ≡ legal_values (drop l.place-iterator.next.index (columns_of l.s)) (drop l.place-iterator.next.index (elements_of 4 l.values)))
