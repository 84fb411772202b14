-- `quotients::mirror`: one weight more, from the one on the other side of the middle.
use Rattle.std.proofs.Common.{arith, ◌-◌, length}
use Rattle.algebra.specs.Interpolation.{weight}
use Rattle.algebra.proofs.Tables.{fill_none, fill_next}
use Rattle.field.specs.Residues.{residues}
use Rattle.quotients.proofs.Mirroring.{across, across_low, across_is, joined}
use Rattle.quotients.proofs.mirror.Goals as goal

pub loop-j-init : goal.loop-j-init
loop-j-init c = fill_none (weight residues (length c.args.out.now - 1)) c.args.out.now

pub signed-requires : goal.signed-requires
signed-requires c =
    let l = c.loop-j in
    let r = c.requires in
    across_low c.args.s c.args.out.now r.s_in_bounds.0 r.s_in_bounds.2 r.out_value l.out l.j (omega arith) l.invariant

pub loop-j-preserved : goal.loop-j-preserved
loop-j-preserved c =
    let l = c.loop-j in
    let r = c.requires in
    let d = c.args.out.now in
    let x = across c.args.s d r.s_in_bounds.0 r.s_in_bounds.2 r.out_value l.out l.j (omega arith) l.invariant in
    let v = across_is c.args.s d r.s_in_bounds.0 r.s_in_bounds.2 r.out_value l.j _ _ (omega arith) x c.signed.ensures in
    fill_next (weight residues (length d - 1)) d _ l.j _ (omega arith) l.invariant v

pub returns : goal.returns
returns c =
    let l = c.loop-j in
    let r = c.requires in
    joined c.args.s c.args.out.now r.s_in_bounds.0 r.s_in_bounds.2 r.out_value l.out l.j (omega arith) l.invariant
