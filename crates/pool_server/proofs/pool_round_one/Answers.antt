-- `pool_round_one`: what `round_one::round_one` says of the eight records it says of those lent, with its change applied. Assumes nothing.
use Rattle.pool_server.proofs.Facts.{one_in_range, one_sent, one_kept}
use Rattle.pool_server.proofs.pool_round_one.Goals as goal

pub apply-requires : goal.apply-requires
apply-requires c = one_in_range c.args.slots.now _ (rw c.copied-list.ensures at c.in-Ok.ensures)

pub returns-in-Ok : goal.returns-in-Ok
returns-in-Ok c =
    one_sent c.args.slots.now c.args.written.now c.in-Ok.summed (rw c.copied-list.ensures at c.in-Ok.ensures) _ c.apply.ensures

pub returns-in-Err : goal.returns-in-Err
returns-in-Err c =
    rw c.number.ensures
    (one_kept c.args.slots.now c.args.written.now c.in-Err.refusal (rw c.copied-list.ensures at c.in-Err.ensures))
