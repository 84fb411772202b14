-- `share_message::write_header` meets its contract: the pieces are put there one after another (`header_written`).
-- Assumes nothing.
use native.Mathlib.Omega.{arith}
use lib.ListN.{length-set}
use Rattle.share_message.proofs.Writing.{header_written}
use Rattle.share_message.proofs.write_header.Goals as goal

pub write_u32-requires : goal.write_u32-requires
write_u32-requires c = simp length-set (omega arith)

pub bounds-out-at-2 : goal.bounds-out-at-2
bounds-out-at-2 c = omega (arith, simp length-set at c.write_u32.auto.s)

pub shape_of-out : goal.shape_of-out
shape_of-out c = simp length-set (simp length-set at c.write_u32.auto.s)

pub returns : goal.returns
returns c =
    rw c.write_u32.ensures
    (header_written c.args.out.now c.args.at c.args.kind c.args.id c.args.server c.requires)
