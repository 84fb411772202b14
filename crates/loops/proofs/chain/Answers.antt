-- `loops::chain`: one product more of the rule that is s everywhere.
use Rattle.std.proofs.Common.{arith}
use Rattle.loops.proofs.Running.{start, turn}
use Rattle.loops.proofs.chain.Goals as goal

pub loop-place-init : goal.loop-place-init
loop-place-init c = start _ _

pub loop-place-preserved : goal.loop-place-preserved
loop-place-preserved c = turn _ c.mul-acc.result c.loop-place.invariant (omega arith) c.mul-acc.ensures
