-- `layout::writing::write_start` meets its contract: the pieces are put there one after another (`start_written`).
-- Assumes nothing.
use native.Mathlib.Omega.{arith}
use lib.ListN.{length-set}
use Rattle.layout.proofs.Pieces.{start_written}
use Rattle.layout.proofs.writing.write_start.Goals as goal

pub bounds-t-1 : goal.bounds-t-1
bounds-t-1 c = simp length-set (omega arith)

pub bounds-t-2 : goal.bounds-t-2
bounds-t-2 c = simp length-set (omega arith)

pub bounds-t-3 : goal.bounds-t-3
bounds-t-3 c = simp length-set (omega arith)

pub write_u16-requires : goal.write_u16-requires
write_u16-requires c = simp length-set (omega arith)

pub write_u16-requires-2 : goal.write_u16-requires-2
write_u16-requires-2 c = omega (arith, simp length-set at c.write_u16.auto.s)

pub write_u16-requires-3 : goal.write_u16-requires-3
write_u16-requires-3 c =
    omega (arith, simp length-set at c.write_u16.auto.s, c.write_u16-2.auto.s)

pub write_u16-requires-4 : goal.write_u16-requires-4
write_u16-requires-4 c =
    omega (
      arith,
      simp length-set at c.write_u16.auto.s,
      c.write_u16-2.auto.s,
      c.write_u16-3.auto.s,
      c.requires,
    )

pub write_u16-requires-5 : goal.write_u16-requires-5
write_u16-requires-5 c =
    omega (
      arith,
      simp length-set at c.write_u16.auto.s,
      c.write_u16-2.auto.s,
      c.write_u16-3.auto.s,
      c.write_u16-4.auto.s,
      c.requires,
    )

pub shape_of-t : goal.shape_of-t
shape_of-t c =
    omega (
      arith,
      simp length-set at c.write_u16.auto.s,
      c.write_u16-2.auto.s,
      c.write_u16-3.auto.s,
      c.write_u16-4.auto.s,
      c.write_u16-5.auto.s,
    )

pub returns : goal.returns
returns c =
    cc (
      start_written c.args.t.now c.args.servers c.args.own c.args.returns c.args.least c.args.n c.requires,
      c.write_u16-5.ensures,
      c.write_u16-4.ensures,
      c.write_u16-3.ensures,
      c.write_u16-2.ensures,
      c.write_u16.ensures,
    )
