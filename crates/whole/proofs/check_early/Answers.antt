-- `whole::check_early` meets its contract: the two checks in their order. Assumes nothing.
use mathlib.Core.Path.{◌∙◌}
use Rattle.records.proofs.Refusals.{first_counts, second_counts, fault_passed}
use Rattle.whole.proofs.Room.{room}
use Rattle.whole.proofs.check_early.Goals as goal

pub check_values-requires : goal.check_values-requires
check_values-requires c =
    let p = c.requires in
    record { is_read = p.is_read; columns_are = (room p).columns_are }

pub returns-in_err-check_servers : goal.returns-in_err-check_servers
returns-in_err-check_servers c =
    fault_passed _ _ c.from_residual.ensures.1 ∙ first_counts _ _ _ c.in_err-check_servers.ensures

pub returns : goal.returns
returns c = second_counts _ _ _ c.in_ok-check_servers.ensures c.check_values.ensures
