-- `pool_drop`: what `closing::drop` says of the eight records it says of those lent, with its change applied. Assumes nothing.
use Rattle.pool_server.proofs.Facts.{drop_in_range, drops}
use Rattle.pool_server.proofs.pool_drop.Goals as goal

pub apply-requires : goal.apply-requires
apply-requires c =
    rw c.ok.ensures.value (drop_in_range c.args.id c.args.slots.now _ (rw c.copied-list.ensures at c.drop-answer.ensures))

pub returns : goal.returns
returns c =
    drops c.args.id c.args.slots.now _ (rw c.copied-list.ensures at c.drop-answer.ensures) (rw c.ok.ensures.value at c.apply.ensures)
    c.number_of.ensures
