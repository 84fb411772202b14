-- `line::find` meets its contract. The loop's invariant: no column before the walk's place has the number. Assumes nothing.
use mathlib.Core.Path.{◌≡◌}
use Prim.Native.Nat.{◌≤◌}
use Rattle.line.proofs.find.Given as goal

abbrev pub invariant-loop-place : goal.invariant-loop-place
invariant-loop-place l =
    (goal.iterator-loop-place).can_next l.place-iterator
    × (goal.iterator-loop-place).is_finite l.place-iterator
    × (l.place-iterator.sheet.now ≡ l.s)
    × (l.column ≤ l.place-iterator.next.index → l.column ≡ 0)
