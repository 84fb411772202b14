-- `Grid::move_some`: one more byte is moved (`next_byte`). Assumes nothing.
use Rattle.std.proofs.Common.{arith}
use Rattle.shelf.proofs.Moving.{movable_on, next_byte}
use Rattle.shelf.proofs.Grid.move_some.Goals as goal

pub loop-j-preserved : goal.loop-j-preserved
loop-j-preserved c =
    let v = c.loop-j.invariant in
    rw (c.at.ensures, c.at-in-loop-j.ensures)
    (next_byte c.args.self c.args.run.now c.loop-j.out (movable_on _ _ c.args.out.now c.loop-j.out v.long c.requires.0) c.args.i
    c.loop-j.j c.requires.1 (omega arith) c.args.from c.args.out.now v)
