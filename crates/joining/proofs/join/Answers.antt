-- `joining::join` meets its contract: the answer of the judge decides (`joins_refused`, `joins_done`). Assumes nothing.
use Rattle.records.proofs.Refusals.{outcome_passed}
use Rattle.joining.proofs.Answers.{judged_fit, joins_refused, joins_done, fit_joinable}
use Rattle.joining.proofs.join.Goals as goal

pub returns-in_err-written : goal.returns-in_err-written
returns-in_err-written c =
    joins_refused _ _ _ _ _ _ _ (outcome_passed _ _ c.from_residual.ensures.1) c.in_err-written.ensures

pub write_totals-requires : goal.write_totals-requires
write_totals-requires c =
    let fit = judged_fit _ _ _ _ _ _ c.in_ok-written.ensures in
    fit_joinable _ _ _ _ _ _ fit

pub accepted_count-requires : goal.accepted_count-requires
accepted_count-requires c = (judged_fit _ _ _ _ _ _ c.in_ok-written.ensures).header

pub returns : goal.returns
returns c =
    let fit = judged_fit _ _ _ _ _ _ c.in_ok-written.ensures in
    rw (c.accepted_count.ensures, c.write_totals.ensures)
    (joins_done _ _ _ _ _ _ fit)
