-- Round two of a return that awaits it, by what its record says: the refusal, and the record where it is accepted.
-- Assumes nothing.
use Rattle.std.specs.Prelude.{List, [], ◌∷◌, ℕ}
use Rattle.slots.specs.declared.Slot.{Slot}
use Rattle.rules.specs.Settings.{document01}
use Rattle.rules.specs.Making.{message}
use Rattle.rules.specs.Messages.{round_fault}
use Rattle.rules.specs.WaitingList.{stage_entry}
use Rattle.layout.specs.declared.Table.{Table}
use Rattle.waiting.specs.declared.Waiting.{Waiting}
use Rattle.rounds.specs.Waits.{sigma_at}

-- "12": rules' twoRefusal in that stage
unfoldable pub two_fault_at : Table → Waiting → List ℕ → List ℕ → ℕ
two_fault_at k w ns joined =
    round_fault document01 k.servers 35 w.id k.own
    (message document01 35 w.id k.own (sigma_at k ns w.rh w.d w.e ∷ w.tau ∷ [])) joined

-- the record of an accepted return, which awaits its entry
abbrev pub accepted_slot : Waiting → Slot
accepted_slot w = record { id = w.id; stage = stage_entry; r = w.r; s = w.s; d = w.d; e = w.e }
