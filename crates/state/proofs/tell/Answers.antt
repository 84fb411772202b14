-- `state::tell` meets its contract: by the cases of the reader's answer (`told_unsound`, `told_sound`). Assumes nothing.
use mathlib.Core.Path.{sym}
use Rattle.records.proofs.Refusals.{outcome_passed}
use Rattle.table.proofs.Answers.{sound}
use Rattle.state.proofs.Telling.{told_unsound, told_sound}
use Rattle.state.proofs.tell.Goals as goal

pub returns-in_err-k : goal.returns-in_err-k
returns-in_err-k c = told_unsound _ _ (sym c.in_err-k.ensures) _ (outcome_passed _ _ c.from_residual.ensures.1)

pub returns : goal.returns
returns c = told_sound _ _ (sound _ _ (sym c.in_ok-k.ensures)) _ c.from.ensures _ c.count.ensures
