-- `line::judge` meets its contract: each answer is that of the first check that fails (`Placing`). Assumes nothing.
use mathlib.Core.Path.{◌∙◌}
use Rattle.records.proofs.Refusals.{outcome_passed}
use Rattle.joining.proofs.Pooling.{pooled_done}
use Rattle.line.proofs.Placing.{is_found, pool_refused, column_refused, fault_refused, all_placed}
use Rattle.line.proofs.judge.Goals as goal

pub returns-in_err-published : goal.returns-in_err-published
returns-in_err-published c =
    outcome_passed _ _ c.from_residual.ensures.1 ∙ pool_refused _ _ _ _ _ _ c.in_err-published.ensures

pub find-requires : goal.find-requires
find-requires c = (pooled_done _ _ _ _ c.in_ok-published.ensures).is_read

pub returns-in_err-first : goal.returns-in_err-first
returns-in_err-first c =
    let told = pooled_done _ _ _ _ c.in_ok-published.ensures in
    outcome_passed _ _ c.from_residual-in_err-first.ensures.1
    ∙ column_refused _ _ _ _ _ _ told _ _ c.in_err-first.ensures.value c.find.ensures

pub check_totals-requires : goal.check_totals-requires
check_totals-requires c = (pooled_done _ _ _ _ c.in_ok-published.ensures).limited

pub returns-in_err-check_totals : goal.returns-in_err-check_totals
returns-in_err-check_totals c =
    let told = pooled_done _ _ _ _ c.in_ok-published.ensures in
    outcome_passed _ _ c.from_residual-in_err-check_totals.ensures.1
    ∙ fault_refused _ _ _ _ _ _ told _ (is_found _ _ _ _ c.in_ok-first.ensures.value c.find.ensures) _ c.in_err-check_totals.ensures

pub returns : goal.returns
returns c =
    let told = pooled_done _ _ _ _ c.in_ok-published.ensures in
    all_placed _ _ _ _ _ _ told _ (is_found _ _ _ _ c.in_ok-first.ensures.value c.find.ensures) c.in_ok-check_totals.ensures
