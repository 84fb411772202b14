-- `walk::copy_then` meets its contract: the copied members stand in front of the one place that is left.
-- Assumes nothing.
use mathlib.Core.Path.{sym}
use native.Mathlib.Omega.{arith}
use lib.Seq.{length-take-le}
use Rattle.walk.proofs.Parts.{filled_part, copied_one}
use Rattle.walk.proofs.copy_then.Goals as goal

pub slice_bounds-copy-end-2 : goal.slice_bounds-copy-end-2
slice_bounds-copy-end-2 c = sym (length-take-le c.args.n c.args.out.now (omega (arith, c.requires.1)))

pub copy-requires : goal.copy-requires
copy-requires c =
    omega (arith, length-take-le c.args.n c.args.out.now (omega (arith, c.requires.1)), c.requires.0)

pub returns : goal.returns
returns c =
    let a = c.args in
    copied_one a.x.now a.first a.n c.requires.0 a.out.now a.last c.requires.1
    (filled_part a.x.now a.first a.n c.requires.0 a.out.now (omega (arith, c.requires.1)) c.copy.ensures)
