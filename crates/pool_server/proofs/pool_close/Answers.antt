-- `pool_close`: what `closing::close` says of the eight records it says of those lent, which stay. Assumes nothing.
use Rattle.pool_server.proofs.Facts.{closes}
use Rattle.pool_server.proofs.pool_close.Goals as goal

pub returns : goal.returns
returns c =
    closes c.args.slots.now c.args.written.now _ (rw c.copied-list.ensures at c.close.ensures) c.hand_back.ensures.number
    c.hand_back.ensures.length
