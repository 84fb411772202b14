-- `chacha::twenty_rounds`: one more double round is one step of `rounds`. Assumes nothing.
use Rattle.std.proofs.Common.{refl, add-one}
use Rattle.chacha.specs.ChaCha.{rounds}
use Rattle.chacha.proofs.twenty_rounds.Goals as goal

pub loop-init : goal.loop-init
unfolding rounds
loop-init c = refl

pub loop-preserved : goal.loop-preserved
unfolding rounds
loop-preserved c = rw (add-one, c.double_round.ensures, c.loop.invariant)
