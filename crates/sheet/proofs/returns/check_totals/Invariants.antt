-- `sheet::returns::check_totals`: the answer is that of the columns from the walk's place on. Assumes nothing.
use mathlib.Core.Path.{◌≡◌}
use lib.ListN.{drop}
use Rattle.rules.specs.Settings.{document01}
use Rattle.rules.specs.Columns.{columns_of, totals_fit}
use Rattle.sheet.proofs.returns.check_totals.Given as goal

abbrev pub invariant-loop-place : goal.invariant-loop-place
invariant-loop-place l =
    (goal.iterator-loop-place).can_next l.place-iterator ×
    (goal.iterator-loop-place).is_finite l.place-iterator ×
    (l.place-iterator.sheet.now ≡ l.s)
    × (totals_fit document01 l.n (columns_of l.s) ≡ totals_fit document01 l.n (drop l.place-iterator.next.index (columns_of l.s)))
