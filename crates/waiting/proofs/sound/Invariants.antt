-- `waiting::sound` meets its contract. The loop's invariant: `at` is where the place of record i starts, and the answer is that of
-- the records from i on, those before keep to the limits (`sound_next`); the measure is what is left of the places. Assumes nothing.
use mathlib.Core.Path.{◌≡◌}
use Prim.Native.Nat.{◌*◌, ◌≤◌, ◌-◌}
use lib.ListN.{drop}
use Rattle.waiting.specs.Soundness.{records_sound_at}
use Rattle.waiting.proofs.sound.Given as goal

abbrev pub invariant-loop-at : goal.invariant-loop-at
invariant-loop-at l =
    (l.i ≤ 8)
    × (l.at ≡ l.size * l.i)
    × (records_sound_at l.gates l.size l.numbers 0 l.list ≡ records_sound_at l.gates l.size l.numbers l.i (drop l.i l.list))

abbrev pub decreases-loop-at : goal.decreases-loop-at
decreases-loop-at l = l.end - l.at
