-- `seeded::make_seeded` meets its contract: the sheet's refusal, the others, or the messages of a return that can be made.
-- Assumes nothing.
use mathlib.Core.Path.{◌≡◌, sym, ◌∙◌}
use mathlib.Core.List.{List}
use Prim.Native.Nat.{ℕ}
use Rattle.records.specs.Outcome.{ok}
use Rattle.records.proofs.Refusals.{outcome_passed}
use Rattle.columns.specs.declared.Counts.{Counts}
use Rattle.sheet.specs.Reading.{reading_of}
use Rattle.sheet.proofs.Answers.{reading_refused, reading_counts}
use Rattle.whole.specs.Pieces.{Counted}
use Rattle.whole.proofs.Answered.{done_means, left_alone, replaced}
use Rattle.seeded.proofs.Refusals.{by_sheet, makeable}
use Rattle.seeded.proofs.make_seeded.Goals as goal

-- the sheet is read, and the counts are its columns'
counted : (sheet : List ℕ) (k : Counts) → reading_of sheet ≡ ok k → Counted sheet k
counted sheet k e = let t = reading_counts sheet k e in record { is_read = t.0; counts_are = t.1 }

pub check_make-requires : goal.check_make-requires
check_make-requires c = counted _ _ (sym c.in_ok-counts.ensures)

-- where it is not refused, the return can be made
pub write_return-requires : goal.write_return-requires
write_return-requires c =
    makeable _ _ _ _ _ _ _ (counted _ _ (sym c.in_ok-counts.ensures)) (done_means _ _ _ c.in_ok-bytes.ensures)

pub returns-in_err-counts : goal.returns-in_err-counts
returns-in_err-counts c =
    let t = reading_refused _ _ (sym c.in_err-counts.ensures) in
    let e = by_sheet _ _ _ _ _ _ _ (sym t.0) in
    record { answer_is = outcome_passed _ _ c.from_residual.ensures.1 ∙ e; out_is = left_alone _ _ _ e _ _ }

pub returns-in_err-bytes : goal.returns-in_err-bytes
returns-in_err-bytes c =
    let e = c.in_err-bytes.ensures in
    record { answer_is = outcome_passed _ _ c.from_residual-in_err-bytes.ensures.1 ∙ e; out_is = left_alone _ _ _ e _ _ }

pub returns : goal.returns
returns c =
    let e = c.in_ok-bytes.ensures in
    record { answer_is = e; out_is = c.write_return.ensures ∙ replaced _ _ _ e _ _ }
