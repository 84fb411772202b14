-- Round one of a return that awaits it, by what its record says: the refusal, the record after it and the message, and what is
-- asked for where nothing is refused.
-- Assumes nothing.
use Rattle.std.specs.Prelude.{List, [], ◌∷◌, ℕ, ◌≤◌, leb}
use Rattle.records.specs.Outcome.{or_else}
use Rattle.slots.specs.declared.Slot.{Slot}
use Rattle.rules.specs.Settings.{document01}
use Rattle.rules.specs.Columns.{check}
use Rattle.rules.specs.Making.{message}
use Rattle.rules.specs.Messages.{round_length, round_fault, challenge_fault, first_sum, second_sum}
use Rattle.round_message.specs.Rounds.{Summable}
use Rattle.layout.specs.declared.Table.{Table}
use Rattle.waiting.specs.declared.Waiting.{Waiting}
use Rattle.rounds.specs.Waits.{Sharing, sigma_at}

-- the own message of round one: rules' messageOne
abbrev pub own_message : Table → Waiting → List ℕ
own_message k w = message document01 34 w.id k.own (w.d ∷ w.e ∷ w.r ∷ w.s ∷ [])

-- "12, 16, 14": rules' oneRefusal in that stage
unfoldable pub one_fault_at : Table → Waiting → List ℕ → ℕ → ℕ
one_fault_at k w joined room =
    or_else (round_fault document01 k.servers 34 w.id k.own (own_message k w) joined)
    (or_else (challenge_fault document01 k.servers joined) (check (leb (round_length document01 35) room) 14))

-- the record with the sums, which awaits round two
unfoldable pub summed_slot : Table → Waiting → List ℕ → Slot
summed_slot k w joined = record {
  id = w.id;
  stage = 2;
  r = w.r;
  s = w.s;
  d = first_sum document01 34 k.servers joined;
  e = second_sum document01 34 k.servers joined;
}

-- the own message of round two, with the sums: rules' oneBytes
unfoldable pub message_at : Table → Waiting → List ℕ → List ℕ → List ℕ
message_at k w ns joined =
    message document01 35 w.id k.own
    (sigma_at k ns w.rh (first_sum document01 34 k.servers joined) (second_sum document01 34 k.servers joined) ∷ w.tau ∷ [])

-- the numbers are elements, the joined messages can be summed, and there is room for the message
pub record OneReady (k : Table) (w : Waiting) (ns joined : List ℕ) (room : ℕ) : Type 0 where
  pub sharing : Sharing k ns w.rh w.d w.e
  pub summable : Summable k.servers 34 joined
  pub enough : round_length document01 35 ≤ room
