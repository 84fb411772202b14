-- `prover::fill_values` meets its contract: its loop fills the buffer by the rule of its values. Assumes nothing.
use native.Mathlib.Omega.{arith}
use Rattle.walk.proofs.Filling.{start, turn}
use Rattle.prover.proofs.fill_values.Goals as goal

pub loop-j-init : goal.loop-j-init
loop-j-init c = start _ _

pub loop-j-preserved : goal.loop-j-preserved
loop-j-preserved c =
    let l = c.loop-j in
    turn _ c.value.result l.invariant (omega (arith, l.invariant.same)) c.value.ensures
