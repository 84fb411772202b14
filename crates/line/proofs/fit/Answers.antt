-- `line::fit` meets its contract: the answer of the judge decides (`fit_refused`, `fit_done`). Assumes nothing.
use mathlib.Core.Path.{ap, ◌∙◌}
use Rattle.records.proofs.Refusals.{outcome_passed}
use Rattle.line.specs.declared.Totals.{Totals}
use Rattle.line.specs.Numbers.{sums_in, fitting_of}
use Rattle.line.proofs.Answers.{fit_refused, placed_fits, fit_done}
use Rattle.line.proofs.fit.Goals as goal

pub returns-in_err-place : goal.returns-in_err-place
returns-in_err-place c =
    outcome_passed _ _ c.from_residual.ensures.1 ∙ fit_refused _ _ _ _ _ _ c.in_err-place.ensures

pub totals_of-requires : goal.totals_of-requires
totals_of-requires c = (placed_fits _ _ _ _ _ _ c.in_ok-place.ensures).takeable

pub fitted-requires : goal.fitted-requires
fitted-requires c = rw c.totals_of.ensures (placed_fits _ _ _ _ _ _ c.in_ok-place.ensures).narrow

pub returns : goal.returns
returns c =
    c.fitted.ensures
    ∙ ap (λ (t : Totals). fitting_of (sums_in t)) c.totals_of.ensures
    ∙ fit_done _ _ _ _ _ _ (placed_fits _ _ _ _ _ _ c.in_ok-place.ensures)
