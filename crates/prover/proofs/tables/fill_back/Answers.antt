-- `prover::tables::fill_back` meets its contract: its loop fills the buffer with the inverses in the other order. Assumes nothing.
use mathlib.Core.Path.{refl, ◌∙◌}
use Prim.Native.Nat.{◌<◌}
use native.Mathlib.Omega.{arith}
use lib.ListN.{length}
use Rattle.walk.proofs.Filling.{start, turn}
use Rattle.prover.proofs.Backwards.{inverse_back}
use Rattle.prover.proofs.tables.fill_back.Goals as goal

pub loop-i-init : goal.loop-i-init
loop-i-init c = start _ _

pub loop-i-preserved : goal.loop-i-preserved
loop-i-preserved c =
    let l = c.loop-i in
    let h : l.i < length c.args.out.now = omega (arith, l.invariant.same) in
    turn _ _ l.invariant h (c.from.ensures ∙ inverse_back c.args.inverses.now _ _ l.i c.requires.1 refl h)
