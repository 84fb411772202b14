-- `pool_open`: opening that is not refused was lent eight records, and they are cleared. Assumes nothing.
use mathlib.Core.Path.{sym, ◌∙◌}
use Rattle.pool_server.proofs.Facts.{opens, opens_eight}
use Rattle.pool_server.proofs.pool_open.Goals as goal

pub clear-requires : goal.clear-requires
clear-requires c z = opens_eight c.args.slots.now c.open-answer.result c.open-answer.ensures (sym c.number_of.ensures ∙ z)

pub returns : goal.returns
returns c =
    rw (c.hand_back.ensures.number, c.hand_back.ensures.length)
    (opens c.args.slots.now c.args.written.now c.open-answer.result c.open-answer.ensures (rw (← c.number_of.ensures) c.clear.ensures))
