-- `loops::ascending`: one product more of the rule x - i.
use Rattle.std.proofs.Common.{arith, ap, ◌∙◌, ◌≡◌, ◌+◌}
use Rattle.algebra.specs.Ops.{minus}
use Rattle.field.specs.Residues.{residues}
use Rattle.loops.proofs.Running.{start, turn}
use Rattle.loops.proofs.ascending.Goals as goal

pub loop-i-init : goal.loop-i-init
loop-i-init c = start _ _

pub loop-i-preserved : goal.loop-i-preserved
loop-i-preserved c =
    let l = c.loop-i in
    let x = c.args.x in
    let image : l.i ≡ residues.ι (0 + l.i) = omega arith in
    turn _ c.mul-acc.result l.invariant (omega arith)
    (c.mul-acc.ensures ∙ ap (residues.◌⊗◌ l.acc) (c.sub.ensures ∙ ap (minus residues x) image))
