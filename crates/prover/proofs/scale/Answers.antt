-- `prover::scale` meets its contract: its loop fills the buffer by the rule of its products. Assumes nothing.
use mathlib.Core.Path.{ap, ◌∙◌}
use native.Mathlib.Omega.{arith}
use Rattle.field.specs.Residues.{residues}
use Rattle.field.proofs.Below.{member_below}
use Rattle.walk.specs.Walks.{members}
use Rattle.walk.proofs.Filling.{start, turn}
use Rattle.prover.proofs.Weighted.{weights_long, weight_at, weight_low}
use Rattle.prover.proofs.scale.Goals as goal

pub loop-j-init : goal.loop-j-init
loop-j-init c = start _ _

pub bounds-weights-j : goal.bounds-weights-j
bounds-weights-j c =
    omega (arith, weights_long c.requires.weights.0, c.loop-j.invariant.same)

pub mul-requires : goal.mul-requires
mul-requires c =
    (member_below _ _ c.requires.weights.1, weight_low c.requires.weights.0 _)

pub loop-j-preserved : goal.loop-j-preserved
loop-j-preserved c =
    let l = c.loop-j in
    turn _ c.from.result l.invariant (omega (arith, l.invariant.same))
    (c.from.ensures
    ∙ c.mul.ensures
    ∙ ap (residues.◌⊗◌ (members c.args.y.now l.j))
    (weight_at c.requires.weights.0 l.j (omega (arith, l.invariant.same))))
