-- `totals_message::all_totals_sound` meets its contract. The loop's invariant: the answer is that of the messages from i on
-- (`every_next`); the part that is judged is the one at server i's place (`span`).
-- Assumes nothing.
use mathlib.Core.Path.{◌≡◌}
use Rattle.totals_message.specs.Totals.{totals_sound_at, all_totals_sound}
use Rattle.steps.proofs.Every.{from}
use Rattle.totals_message.proofs.all_totals_sound.Given as goal

abbrev pub invariant-loop-i : goal.invariant-loop-i
invariant-loop-i l =
    all_totals_sound l.servers l.published l.count l.joined ≡ from (totals_sound_at l.published l.count l.joined) l.servers l.i
