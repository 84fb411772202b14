-- `pool_enter`: what `entering::enter` says of the eight records it says of those lent, with its change applied. Assumes nothing.
use Rattle.pool_server.proofs.Facts.{enter_in_range, enters}
use Rattle.pool_server.proofs.pool_enter.Goals as goal

pub apply-requires : goal.apply-requires
apply-requires c =
    rw c.ok.ensures.value (enter_in_range c.args.id c.args.slots.now _ (rw c.copied-list.ensures at c.enter-answer.ensures))

pub returns : goal.returns
returns c =
    enters c.args.id c.args.slots.now _ (rw c.copied-list.ensures at c.enter-answer.ensures) (rw c.ok.ensures.value at c.apply.ensures)
    c.number_of.ensures
