-- `round_message::own_kept` meets its contract: its tests are those of the definition. Assumes nothing.
use native.Mathlib.Omega.{arith}
use Rattle.std.proofs.lemmas.Grind.{common_steps}
use Rattle.rules.specs.Messages.{own_kept}
use Rattle.round_message.proofs.own_kept.Goals as goal

pub returns-then-m-own : goal.returns-then-m-own
unfolding own_kept
returns-then-m-own c = grind (arith, common_steps)

pub returns-else-m-own : goal.returns-else-m-own
unfolding own_kept
returns-else-m-own c = grind (arith, common_steps)
