-- `walk::copy` meets its contract: its loop fills the buffer by the rule of its members. Assumes nothing.
use mathlib.Core.Path.{refl}
use native.Mathlib.Omega.{arith}
use Rattle.walk.proofs.Filling.{start, turn, finish}
use Rattle.walk.proofs.copy.Goals as goal

pub loop-i-init : goal.loop-i-init
loop-i-init c = start _ _

pub loop-i-preserved : goal.loop-i-preserved
loop-i-preserved c = turn _ _ c.loop-i.invariant c.loop-i-test.true refl

pub returns : goal.returns
returns c = finish _ c.loop-i.invariant c.loop-i-test.false
