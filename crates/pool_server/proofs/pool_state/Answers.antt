-- `pool_state`: what `state::tell` says of the eight records it says of those lent, which stay. Assumes nothing.
use Rattle.pool_server.proofs.Facts.{tells, tells_none}
use Rattle.pool_server.proofs.pool_state.Goals as goal

pub returns-in-Ok : goal.returns-in-Ok
returns-in-Ok c = tells c.args.slots.now _ c.in-Ok.state (rw c.copied-list.ensures at c.in-Ok.ensures)

pub returns-in-Err : goal.returns-in-Err
returns-in-Err c = rw c.number.ensures (tells_none c.args.slots.now _ c.in-Err.refusal (rw c.copied-list.ensures at c.in-Err.ensures))
