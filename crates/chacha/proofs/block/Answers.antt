-- `chacha::block`: the rounds of the state, and the state added. Assumes nothing.
use Rattle.std.proofs.Common.{refl}
use Rattle.chacha.specs.ChaCha.{mixed}
use Rattle.chacha.proofs.block.Goals as goal

pub returns : goal.returns
unfolding mixed
returns c = rw (c.add.ensures, c.twenty_rounds.ensures, c.copy_from_slice.ensures.after) refl
