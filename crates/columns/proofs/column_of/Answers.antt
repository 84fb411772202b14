-- `columns::column_of`: a top is the four bytes of its body. Assumes nothing.
use native.Mathlib.Omega.{arith}
use lib.Seq.{take_all}
use Rattle.rules.specs.Columns.{column_of}
use Rattle.columns.proofs.ColumnBytes.{body_four}
use Rattle.columns.proofs.column_of.Goals as goal

pub returns-in-Top : goal.returns-in-Top
unfolding column_of
returns-in-Top c =
    let n = body_four _ (rw c.in-Top.is at c.requires) in
    rw (c.limited-in-Top.ensures, c.read_u32-top.ensures, take_all 4 c.args.body.now (omega arith), c.in-Top.is)
