-- `round_message::round_sound` meets its contract: its tests are those of the definition. Assumes nothing.
use native.Mathlib.Omega.{arith}
use Rattle.std.proofs.lemmas.Grind.{common_steps}
use Rattle.rules.specs.Messages.{round_sound}
use Rattle.round_message.proofs.round_sound.Goals as goal

pub returns-then-m-servers : goal.returns-then-m-servers
unfolding round_sound
returns-then-m-servers c = grind (arith, common_steps)

pub returns-else-m-servers : goal.returns-else-m-servers
unfolding round_sound
returns-else-m-servers c = grind (arith, common_steps)
