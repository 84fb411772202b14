-- `waiting::held` meets its contract: what is read is what held_at says. Assumes nothing.
use mathlib.Core.Path.{refl}
use Rattle.waiting.specs.Held.{held_at}
use Rattle.waiting.proofs.held.Goals as goal

pub returns : goal.returns
unfolding held_at
returns c = refl
