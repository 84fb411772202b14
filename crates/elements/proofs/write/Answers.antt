-- `elements::write`: one more element is put there (`write_next`), and at the end all are. Assumes nothing.
use Rattle.std.proofs.Common.{arith, take_all}
use Rattle.elements.proofs.Loops.{write_none, write_next}
use Rattle.elements.proofs.write.Goals as goal

pub loop-i-init : goal.loop-i-init
loop-i-init c = write_none c.args.s.now c.args.at 4 c.args.xs.now

pub loop-i-preserved : goal.loop-i-preserved
loop-i-preserved c =
    rw (c.write_u32.ensures, c.loop-i.invariant)
    (write_next c.args.s.now c.args.at 4 c.args.xs.now c.loop-i.i c.requires (omega arith))

pub returns : goal.returns
returns c = cc (take_all c.loop-i.i c.args.xs.now c.loop-i-test.false)
