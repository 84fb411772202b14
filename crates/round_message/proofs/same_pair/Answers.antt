-- `round_message::same_pair` meets its contract: its tests are those of the definition. Assumes nothing.
use native.Mathlib.Omega.{arith}
use Rattle.std.proofs.lemmas.Grind.{common_steps}
use Rattle.rules.specs.Messages.{same_pair}
use Rattle.round_message.proofs.same_pair.Goals as goal

pub returns-then-element : goal.returns-then-element
unfolding same_pair
returns-then-element c = grind (arith, common_steps)

pub returns-else-element : goal.returns-else-element
unfolding same_pair
returns-else-element c = grind (arith, common_steps)
