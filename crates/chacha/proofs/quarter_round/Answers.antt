-- `chacha::quarter_round`: each step starts from the state that the one before left. Assumes nothing.
use Rattle.std.proofs.Common.{refl}
use Rattle.chacha.specs.ChaCha.{quarter_round}
use Rattle.chacha.proofs.quarter_round.Goals as goal

pub returns : goal.returns
unfolding quarter_round
returns c = rw (c.mix-4.ensures, c.mix-3.ensures, c.mix-2.ensures, c.mix.ensures) refl
