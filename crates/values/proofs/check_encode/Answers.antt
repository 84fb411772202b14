-- `values::check_encode` meets its contract: each answer is that of the first check that fails (`Answers`).
-- Assumes nothing.
use mathlib.Core.Path.{sym, ap, ◌∙◌}
use Rattle.records.proofs.Refusals.{number_nonzero, fault_passed}
use Rattle.columns.specs.declared.Counts.{Counts}
use Rattle.sheet.proofs.Answers.{reading_refused, reading_counts}
use Rattle.values.proofs.Answers.{refused_sheet, refused_values, refused_room, not_refused}
use Rattle.values.proofs.check_encode.Goals as goal

pub returns-in_err-counts : goal.returns-in_err-counts
returns-in_err-counts c =
    let t = reading_refused _ _ (sym c.in_err-counts.ensures) in
    fault_passed _ _ c.from_residual.ensures.1 ∙ sym (refused_sheet _ _ _ _ t.0 t.1)

pub check_values-requires : goal.check_values-requires
check_values-requires c =
    let t = reading_counts _ _ (sym c.in_ok-counts.ensures) in
    record { is_read = t.0; columns_are = ap (λ (x : Counts). x.columns) t.1 }

pub returns-in_err-check_values : goal.returns-in_err-check_values
returns-in_err-check_values c =
    let t = reading_counts _ _ (sym c.in_ok-counts.ensures) in
    let e = c.in_err-check_values.ensures in
    fault_passed _ _ c.from_residual-in_err-check_values.ensures.1
    ∙ e ∙ sym (refused_values _ _ _ t.0 (λ z. number_nonzero _ (e ∙ z)))

pub returns-then-room-counts : goal.returns-then-room-counts
returns-then-room-counts c =
    let t = reading_counts _ _ (sym c.in_ok-counts.ensures) in
    sym (refused_room _ _ _ t.0 (sym c.in_ok-check_values.ensures) (rw t.1 at c.if-room-counts.true))

pub returns : goal.returns
returns c =
    let t = reading_counts _ _ (sym c.in_ok-counts.ensures) in
    sym (not_refused _ _ _ t.0 (sym c.in_ok-check_values.ensures) (rw t.1 at c.if-room-counts.false))
