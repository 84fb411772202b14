-- `compile::put_circuit` meets its contract. The loop's invariant: the steps of the columns before the walk's place are written
-- behind wire 0 (`Wrote`). Assumes nothing.
use mathlib.Core.Path.{◌≡◌}
use Rattle.compile.proofs.Walk.{Wrote}
use Rattle.compile.proofs.put_circuit.Given as goal

abbrev pub invariant-loop-place : goal.invariant-loop-place
invariant-loop-place l =
    (goal.iterator-loop-place).can_next l.place-iterator
    × (goal.iterator-loop-place).is_finite l.place-iterator
    × (l.place-iterator.sheet.now ≡ l.sheet)
    × Wrote l.sheet l.initial.out l.initial.at l.place-iterator.next.index l.wire l.out l.at
