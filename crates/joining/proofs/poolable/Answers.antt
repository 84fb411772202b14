-- `joining::poolable` meets its contract: each answer is that of the first check that fails (`Pooling`). Assumes nothing.
use mathlib.Core.Path.{sym, ap, ◌∙◌}
use Rattle.records.proofs.Refusals.{outcome_passed}
use Rattle.columns.specs.declared.Counts.{Counts}
use Rattle.sheet.proofs.Answers.{reading_refused, reading_counts}
use Rattle.joining.proofs.Pooling.{servers_refused, sheet_refused, returns_refused, all_passed}
use Rattle.joining.proofs.poolable.Goals as goal

pub returns-in_err-check_servers : goal.returns-in_err-check_servers
returns-in_err-check_servers c =
    outcome_passed _ _ c.from_residual.ensures.1 ∙ servers_refused _ _ _ _ c.in_err-check_servers.ensures

pub returns-in_err-counts : goal.returns-in_err-counts
returns-in_err-counts c =
    let t = reading_refused _ _ (sym c.in_err-counts.ensures) in
    outcome_passed _ _ c.from_residual-in_err-counts.ensures.1 ∙ sheet_refused _ _ _ c.in_ok-check_servers.ensures _ (sym t.0)

pub check_returns-requires : goal.check_returns-requires
check_returns-requires c = (reading_counts _ _ (sym c.in_ok-counts.ensures)).0

pub returns-in_err-check_returns : goal.returns-in_err-check_returns
returns-in_err-check_returns c =
    let t = reading_counts _ _ (sym c.in_ok-counts.ensures) in
    outcome_passed _ _ c.from_residual-in_err-check_returns.ensures.1
    ∙ returns_refused _ _ _ c.in_ok-check_servers.ensures t.0 _ c.in_err-check_returns.ensures

pub returns : goal.returns
returns c =
    let t = reading_counts _ _ (sym c.in_ok-counts.ensures) in
    all_passed _ _ _ c.in_ok-check_servers.ensures t.0 _ c.in_ok-check_returns.ensures (ap (λ (x : Counts). x.published) t.1)
