-- `totals_message::totals_sound` meets its contract: its tests are those of the definition, and the part handed on goes to the end of
-- the message (`to_end`). Assumes nothing.
use Rattle.std.proofs.Common.{arith}
use Rattle.std.proofs.lemmas.Grind.{common_steps}
use Rattle.rules.specs.Joining.{totals_sound}
use Rattle.steps.proofs.Parts.{to_end}
use Rattle.totals_message.proofs.totals_sound.Goals as goal

pub returns-then-accepted_count-count : goal.returns-then-accepted_count-count
unfolding totals_sound
returns-then-accepted_count-count c = grind (arith, common_steps, to_end 6 c.args.m.now)

pub returns-else-accepted_count-count : goal.returns-else-accepted_count-count
unfolding totals_sound
returns-else-accepted_count-count c = grind (arith, common_steps)
