-- `totals_message::write_totals_header` meets its contract: the pieces are put there one after another (`totals_written`).
-- Assumes nothing.
use mathlib.Core.Path.{◌∙◌}
use Rattle.totals_message.proofs.Writing.{totals_written}
use Rattle.totals_message.proofs.write_totals_header.Goals as goal

pub returns : goal.returns
returns c =
    c.write_u32.ensures ∙ totals_written c.args.out.now c.args.own c.args.count c.requires
