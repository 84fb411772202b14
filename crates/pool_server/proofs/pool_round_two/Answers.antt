-- `pool_round_two`: what `round_two::round_two` says of the eight records it says of those lent, with its change applied. Assumes nothing.
use Rattle.pool_server.proofs.Facts.{two_in_range, decided, undecided}
use Rattle.pool_server.proofs.pool_round_two.Goals as goal

pub apply-requires : goal.apply-requires
apply-requires c = two_in_range c.args.slots.now _ (rw c.copied-list.ensures at c.in-Ok.ensures)

pub returns-in-Ok : goal.returns-in-Ok
returns-in-Ok c =
    rw c.from.ensures
    (decided c.args.slots.now c.args.accepted.now c.in-Ok.decision (rw c.copied-list.ensures at c.in-Ok.ensures) _ c.apply.ensures)

pub returns-in-Err : goal.returns-in-Err
returns-in-Err c =
    rw c.number.ensures
    (undecided c.args.slots.now c.args.accepted.now c.in-Err.refusal (rw c.copied-list.ensures at c.in-Err.ensures))
