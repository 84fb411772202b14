-- `listing::put_columns` meets its contract. The loop's invariant: the lines of the columns before the walk's place are put
-- there (`before_next`). Assumes nothing.
use mathlib.Core.Path.{◌≡◌}
use Rattle.listing.proofs.Walking.{Before}
use Rattle.listing.proofs.put_columns.Given as goal

abbrev pub invariant-loop-place : goal.invariant-loop-place
invariant-loop-place l =
    (goal.iterator-loop-place).can_next l.place-iterator
    × (goal.iterator-loop-place).is_finite l.place-iterator
    × (l.place-iterator.sheet.now ≡ l.s)
    × Before l.s l.totals l.initial.out l.at l.place-iterator.next.index l.out l.next
