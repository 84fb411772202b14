-- `pool_share`: what `shares::share` says of the eight records it says of those lent, with its change applied. Assumes nothing.
use Rattle.pool_server.proofs.Facts.{share_in_range, share_sent, share_kept}
use Rattle.pool_server.proofs.pool_share.Goals as goal

pub apply-requires : goal.apply-requires
apply-requires c = share_in_range c.args.slots.now _ (rw c.copied-list.ensures at c.in-Ok.ensures)

pub returns-in-Ok : goal.returns-in-Ok
returns-in-Ok c =
    share_sent c.args.slots.now c.args.written.now c.in-Ok.taken (rw c.copied-list.ensures at c.in-Ok.ensures) _ c.apply.ensures

pub returns-in-Err : goal.returns-in-Err
returns-in-Err c =
    rw c.number.ensures
    (share_kept c.args.slots.now c.args.written.now c.in-Err.refusal (rw c.copied-list.ensures at c.in-Err.ensures))
