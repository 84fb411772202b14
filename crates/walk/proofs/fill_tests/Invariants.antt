-- `walk::fill_tests` meets its contract: each turn writes the tests of one column behind those of the columns before.
-- Assumes nothing.
use mathlib.Core.Path.{◌≡◌}
use Rattle.rules.specs.Circuit.{tests_in}
use Rattle.walk.specs.Walks.{shared}
use Rattle.walk.proofs.Walking.{Walking}
use Rattle.walk.proofs.Meanings.{test_part}
use Rattle.walk.proofs.fill_tests.Given as goal

abbrev pub invariant-loop-place : goal.invariant-loop-place
invariant-loop-place l =
    (goal.iterator-loop-place).can_next l.place-iterator
    × (goal.iterator-loop-place).is_finite l.place-iterator
    × (l.place-iterator.sheet.now ≡ l.s)
    × Walking (test_part (shared l.factor l.l l.x)) tests_in l.s l.initial.out l.out l.place-iterator.next l.done
