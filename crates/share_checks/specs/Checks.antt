-- The parts of the refusal of a share, in the numbers of code.
-- Assumes nothing.
use Rattle.std.specs.Prelude.{◌≡◌, Bool, not, cond, ◌||◌, List, ℕ, ◌+◌, ◌*◌, ◌≤◌, ltb, leb, length}
use Rattle.words.specs.Bytes.{part, elements_of, all_below}
use Rattle.records.specs.Outcome.{or_else}
use Rattle.slots.specs.declared.Slot.{Slot}
use Rattle.rules.specs.Settings.{document01}
use Rattle.rules.specs.Columns.{check}
use Rattle.rules.specs.Messages.{id_in, round_length}
use Rattle.rules.specs.Server.{is_member}
use Rattle.rules.specs.WaitingList.{place_of, waiting_count}
use Rattle.share_message.specs.Shares.{header_fault_at, share_at}
use Rattle.limits.specs.Sheets.{pair_sound}
use Rattle.layout.specs.Places.{ids_at}
use Rattle.layout.specs.Numbers.{table_of, Limited}
use Rattle.layout.specs.declared.Table.{Table}
use Rattle.table.specs.Reading.{length_of}

-- "11, 13": the table is open and fewer than eight returns wait; with those that wait fewer than N are decided
unfoldable pub start_fault : Table → ℕ → ℕ
start_fault k waiting =
    cond k.closed 11 (or_else (check (ltb waiting 8) 11) (check (ltb (k.decided + waiting) k.returns) 13))

-- "7, 8": a share of `size` elements
unfoldable pub message_fault : ℕ → ℕ → List ℕ → ℕ
message_fault size own m = or_else (header_fault_at size own m) (check (all_below 2147483647 (share_at size m)) 8)

-- an id that is decided, or waits
unfoldable pub is_taken : List ℕ → Table → List Slot → ℕ → Bool
is_taken t k list id =
    is_member id (elements_of 4 (part (ids_at k.sheet k.published) (4 * k.decided) t)) || ltb (place_of id list) 8

-- "10, 9, 14": the id, the pair, the room of the buffer
unfoldable pub last_fault : List ℕ → Table → List Slot → List ℕ → ℕ → ℕ → ℕ → ℕ
last_fault t k list m r s room =
    or_else (check (not (is_taken t k list (id_in m))) 10)
    (or_else (check (pair_sound k.gates r s) 9) (check (leb (round_length document01 34) room) 14))

-- a table that is sound, as far as a refusal goes by it
pub record Standing (t : List ℕ) (k : Table) (list : List Slot) : Type 0 where
  pub says : k ≡ table_of t
  pub limited : Limited k
  pub long : length_of k ≤ length t
  pub eight : length list ≡ 8
  pub decided_few : k.decided + waiting_count list ≤ k.returns

-- a message that has a header, for the table
pub record Fitting (t : List ℕ) (k : Table) (list : List Slot) (m : List ℕ) : Type 0 where
  pub table : Standing t k list
  pub header : 6 ≤ length m
