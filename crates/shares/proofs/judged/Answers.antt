-- `shares::judged` meets its contract: the sheet that it cuts out and the elements that it is lent are what judging asks for
-- (`the_share`), and the columns are those of the table (`worked_out`). Assumes nothing.
use mathlib.Core.Path.{◌∙◌}
use Rattle.shares.proofs.Working.{the_share, worked_out}
use Rattle.shares.proofs.judged.Goals as goal

pub judge-requires : goal.judge-requires
judge-requires c =
    let a = c.args in
    rw c.sheet_part.ensures (the_share a.t.now a.k a.xs.now a.r a.s c.requires)

pub returns : goal.returns
returns c =
    let a = c.args in
    (rw c.sheet_part.ensures at c.judge.ensures)
    ∙ worked_out a.t.now a.k a.xs.now a.r a.s c.requires
