-- `circuit::check_scale` meets its contract: each number is read and tested, the constant first. Assumes nothing.
use mathlib.Core.Path.{◌∙◌}
use Rattle.records.proofs.Refusals.{fault_passed, first_counts, second_counts}
use Rattle.circuit.proofs.check_scale.Goals as goal

pub returns-in_err-check_below : goal.returns-in_err-check_below
returns-in_err-check_below c =
    fault_passed _ _ c.from_residual.ensures.1
    ∙ first_counts _ _ _ (rw c.read_u32.ensures at c.in_err-check_below.ensures)

pub returns : goal.returns
returns c =
    second_counts _ _ _ (rw c.read_u32.ensures at c.in_ok-check_below.ensures) (rw c.read_u16.ensures at c.check_below-2.ensures)
