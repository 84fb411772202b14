-- `sizes::measure` meets its contract: by the cases of the reader's answer. Assumes nothing.
use mathlib.Core.Path.{sym, ◌∙◌}
use Rattle.records.proofs.Refusals.{outcome_passed}
use Rattle.sizes.proofs.Room.{read_small, sheet_refused, sheet_told}
use Rattle.sizes.proofs.measure.Goals as goal

pub sizes_from-requires : goal.sizes_from-requires
sizes_from-requires c = read_small _ _ (sym c.in_ok-counts.ensures)

pub returns-in_err-counts : goal.returns-in_err-counts
returns-in_err-counts c =
    outcome_passed _ _ c.from_residual.ensures.1 ∙ sheet_refused _ _ (sym c.in_err-counts.ensures)

pub returns : goal.returns
returns c = rw c.sizes_from.ensures (sheet_told _ _ (sym c.in_ok-counts.ensures))
