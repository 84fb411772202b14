-- `joining::judge` meets its contract: each answer is that of the first check that fails (`Judging`). Assumes nothing.
use mathlib.Core.Path.{◌∙◌}
use native.Mathlib.Omega.{arith}
use Rattle.records.proofs.Refusals.{outcome_passed}
use Rattle.joining.proofs.Pooling.{pooled_done}
use Rattle.joining.proofs.Judging.{pool_refused, fault_refused, room_refused, judged_fit}
use Rattle.joining.proofs.judge.Goals as goal

pub returns-in_err-published : goal.returns-in_err-published
returns-in_err-published c =
    outcome_passed _ _ c.from_residual.ensures.1 ∙ pool_refused _ _ _ _ _ _ c.in_err-published.ensures

pub check_totals-requires : goal.check_totals-requires
check_totals-requires c = (pooled_done _ _ _ _ c.in_ok-published.ensures).limited

pub returns-in_err-check_totals : goal.returns-in_err-check_totals
returns-in_err-check_totals c =
    let told = pooled_done _ _ _ _ c.in_ok-published.ensures in
    outcome_passed _ _ c.from_residual-in_err-check_totals.ensures.1 ∙ fault_refused _ _ _ _ _ _ told _ c.in_err-check_totals.ensures

pub overflow_mul-length : goal.overflow_mul-length
overflow_mul-length c =
    let told = pooled_done _ _ _ _ c.in_ok-published.ensures in
    omega (arith, told.limited.small)

pub returns-then-room-length : goal.returns-then-room-length
returns-then-room-length c =
    let told = pooled_done _ _ _ _ c.in_ok-published.ensures in
    room_refused _ _ _ _ _ _ told c.in_ok-check_totals.ensures c.if-room-length.true

pub returns : goal.returns
returns c =
    let told = pooled_done _ _ _ _ c.in_ok-published.ensures in
    judged_fit _ _ _ _ _ _ told c.in_ok-check_totals.ensures c.if-room-length.false
