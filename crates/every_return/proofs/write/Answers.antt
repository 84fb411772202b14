-- `every_return::write` meets its contract: the judge's answer is its own; a refusal leaves the buffer (`out_kept`), and
-- without one all that writing asks holds (`writable`, `out_put`). Assumes nothing.
use mathlib.Core.Path.{sym, ◌∙◌}
use Rattle.records.proofs.Refusals.{outcome_passed}
use Rattle.every_return.proofs.Answers.{out_kept, out_put, writable}
use Rattle.every_return.proofs.write.Goals as goal

pub returns-in_err-found : goal.returns-in_err-found
returns-in_err-found c =
    let e = c.in_err-found.ensures in
    (outcome_passed _ _ c.from_residual.ensures.1 ∙ e, out_kept _ _ _ (sym e))

pub write_columns-requires : goal.write_columns-requires
write_columns-requires c = writable _ _ _ (sym c.in_ok-found.ensures)

pub returns : goal.returns
returns c =
    let e = c.in_ok-found.ensures in
    (e, c.write_columns.ensures ∙ out_put _ _ _ (sym e))
