-- A server's table: three lent parts. Document 01 says what a table does and leaves its bytes free; this is their layout, what
-- a table within the limits is, and for each call the refusal, the table after it and the bytes written.
--
--   place          bytes   holds
--   0              1       the table byte of the setting: 3 in document 01's
--   1              1       stage: 0 open, 1 closed
--   2              1       S
--   3              1       the server's own number
--   4              2       N
--   6              2       returns decided
--   8              2       returns entered
--   10             2       Q
--   12             2       n, the length of the sheet
--   14             n       the sheet
--   then           w P     the totals of the P published entries, w bytes each
--   then           4 N     the ids decided, in the order in which they were
--
-- Beside the bytes stand the records of the returns that wait and the numbers of their shares (WaitingList). "Both are part
-- of the table in every rule: opening gives them, each call of demand 3's lists gets them as the last one left them, and a
-- refusal keeps them."
-- While returns wait there is room for their ids: the returns decided and those that wait are at most N. Opening and the calls
-- write 0 into the room for further ids, into free records and into the numbers of their places: a decided return leaves its
-- id and, where it is entered, what its share adds to the totals.
-- A longer slice of bytes or of numbers holds a table too; what lies past the table is never read and never written. No fault
-- in a table that is lent: other bytes in the room for further ids; which ids were decided; d, e, r × h(r) and tau that the
-- share does not give; totals that no entered returns give; in a closed table, which every call refuses 11, returns that wait or
-- fewer than Q entered.
-- Assumes nothing.
use Rattle.std.specs.Prelude.{Bool, cond, ◌&&◌, List, [], ◌∷◌, ◌++◌, ℕ, ◌+◌, ◌-◌, ◌*◌, eqb, ltb, leb, length, get_or, set, replicate}
use Rattle.algebra.specs.Lists.{tabulate}
use Rattle.algebra.specs.Modulo.{modulo}
use Rattle.words.specs.Bytes.{value_of, bytes_of, bytes_of_all, part, splice, elements_of, all_below}
use Rattle.records.specs.Outcome.{or_else}
use Rattle.slots.specs.declared.Slot.{Slot}
use Rattle.slots.specs.Slots.{free_slot}
use Rattle.rules.specs.Settings.{Setting}
use Rattle.rules.specs.Columns.{Column, check, servers_fit, returns_fit, least_fits, published_in, sheet_fault, columns_of, totals_fit}
use Rattle.rules.specs.Messages.{id_in, share_in, both_zero}
use Rattle.rules.specs.Server.{Opened, Waiting, Stage, takes, closed, ServerState, most_waiting, open_fault, waiting_of}
use Rattle.rules.specs.Server.{message_one, message_two, summed, published_shares, totals_message}
use Rattle.rules.specs.Server.{share_refusal, one_refusal, two_refusal, enter_refusal, drop_refusal, close_refusal}
use Rattle.rules.specs.WaitingList.{stage_one, stage_two, stage_entry, free_place, place_of, waiting_count, run_size, numbers_at}
use Rattle.rules.specs.WaitingList.{waiting_at, waits_in, waiting_sound, slot_of, numbers_of, put_numbers, cleared_numbers, free_list}

-- The three parts
pub record Lent : Type 0 where
  pub bytes : List ℕ
  pub slots : List Slot
  pub elements : List ℕ

-- the stages of a table, as its second byte says them
abbrev pub stage_open : ℕ
stage_open = 0

abbrev pub stage_closed : ℕ
stage_closed = 1

-- the bytes before the sheet
abbrev pub header_length : ℕ
header_length = 14

-- places that depend on the length n of the sheet, its columns and N
module _ (σ : Setting) (n : ℕ) (cs : List Column) (returns : ℕ) where
  unfoldable pub totals_place : ℕ
  totals_place = header_length + n

  unfoldable pub ids_place : ℕ
  ids_place = header_length + n + σ.width * published_in cs

  unfoldable pub table_length : ℕ
  table_length = header_length + n + σ.width * published_in cs + 4 * returns

-- What the bytes of a table say
module _ (σ : Setting) (T : List ℕ) where
  abbrev pub stage_byte : ℕ
  stage_byte = get_or T 1 0

  abbrev pub servers_in : ℕ
  servers_in = get_or T 2 0

  abbrev pub own_in : ℕ
  own_in = get_or T 3 0

  abbrev pub returns_in : ℕ
  returns_in = value_of (part 4 2 T)

  abbrev pub decided_in : ℕ
  decided_in = value_of (part 6 2 T)

  abbrev pub entered_in : ℕ
  entered_in = value_of (part 8 2 T)

  abbrev pub least_in : ℕ
  least_in = value_of (part 10 2 T)

  abbrev pub sheet_size : ℕ
  sheet_size = value_of (part 12 2 T)

  abbrev pub sheet_in : List ℕ
  sheet_in = part header_length sheet_size T

  abbrev pub columns_in : List Column
  columns_in = columns_of sheet_in

  abbrev pub totals_in : List ℕ
  totals_in = elements_of σ.width (part (totals_place σ sheet_size columns_in returns_in) (σ.width * published_in columns_in) T)

  abbrev pub ids_in : List ℕ
  ids_in = elements_of 4 (part (ids_place σ sheet_size columns_in returns_in) (4 * decided_in) T)

  -- the room for the ids of returns that are not decided yet
  abbrev pub unused_in : List ℕ
  unused_in = part (ids_place σ sheet_size columns_in returns_in + 4 * decided_in) (4 * (returns_in - decided_in)) T

  abbrev pub opened_in : Opened
  opened_in = record { servers = servers_in; own = own_in; columns = columns_in; returns = returns_in; least = least_in }

  -- "11: a table whose length, stage, counts, sheet, numbers or elements break the limits above"
  unfoldable pub header_sound : Bool
  header_sound =
      leb header_length (length T)
      && (eqb (get_or T 0 0) σ.table_byte
      && (leb stage_byte stage_closed
      && (servers_fit servers_in
      && (ltb own_in servers_in
      && (returns_fit returns_in
      && (least_fits returns_in least_in
      && (leb (header_length + sheet_size) (length T) && eqb (sheet_fault sheet_in) 0)))))))

  -- by the number of returns that wait
  unfoldable pub counts_sound : ℕ → Bool
  counts_sound waiting =
      totals_fit σ returns_in columns_in
      && (leb (table_length σ sheet_size columns_in returns_in) (length T)
      && (leb (decided_in + waiting) returns_in && leb entered_in decided_in))

-- What a table says
module _ (σ : Setting) (T : Lent) where
  -- the columns of its sheet
  abbrev pub columns_at : List Column
  columns_at = columns_in σ T.bytes

  unfoldable pub stage_in : Stage
  stage_in = cond (eqb (stage_byte σ T.bytes) stage_open) (takes (waits_in columns_at T.slots T.elements)) closed

  unfoldable pub table_state : ServerState
  table_state = record {
    opened = opened_in σ T.bytes;
    stage = stage_in;
    used = ids_in σ T.bytes;
    entered = entered_in σ T.bytes;
    totals = totals_in σ T.bytes;
  }

  unfoldable pub table_sound : Bool
  table_sound =
      header_sound σ T.bytes
      && (counts_sound σ T.bytes (waiting_count T.slots)
      && (all_below σ.modulus (totals_in σ T.bytes) && waiting_sound σ columns_at T.slots T.elements))

  unfoldable pub table_fault : ℕ
  table_fault = check table_sound 11

  -- the return of record i
  abbrev pub waiting_in : ℕ → Waiting
  waiting_in i = waiting_at columns_at (get_or T.slots i free_slot) (numbers_at columns_at T.elements i)

-- Opening: the refusal by the room for the three parts, which are so many bytes, records and numbers
unfoldable pub open_length : Setting → List ℕ → ℕ → ℕ
open_length σ sheet returns = table_length σ (length sheet) (columns_of sheet) returns

unfoldable pub open_room : Setting → List ℕ → ℕ → ℕ → ℕ → ℕ → Bool
open_room σ sheet returns room records numbers =
    leb (open_length σ sheet returns) room && (eqb records most_waiting && leb (run_size (columns_of sheet)) numbers)

unfoldable pub open_refusal : Setting → ℕ → ℕ → List ℕ → ℕ → ℕ → ℕ → ℕ → ℕ → ℕ
open_refusal σ servers own sheet returns least room records numbers =
    or_else (open_fault σ servers own sheet returns least) (check (open_room σ sheet returns room records numbers) 14)

-- the bytes, which are written from the buffer's start
unfoldable pub open_bytes : Setting → ℕ → ℕ → List ℕ → ℕ → ℕ → List ℕ
open_bytes σ servers own sheet returns least =
    (σ.table_byte ∷ stage_open ∷ servers ∷ own ∷ [])
    ++ bytes_of 2 returns
    ++ bytes_of 2 0
    ++ bytes_of 2 0
    ++ bytes_of 2 least
    ++ bytes_of 2 (length sheet)
    ++ sheet
    ++ replicate (open_length σ sheet returns - (header_length + length sheet)) 0

-- the table that opening leaves in what it is lent
abbrev pub opened_table : Setting → ℕ → ℕ → List ℕ → ℕ → ℕ → Lent → Lent
opened_table σ servers own sheet returns least B = record {
  bytes = splice B.bytes 0 (open_bytes σ servers own sheet returns least);
  slots = free_list;
  elements = splice B.elements 0 (replicate (run_size (columns_of sheet)) 0);
}

-- A call on a table T: its refusal, the table after it where it is not refused, the bytes that it writes
module _ (σ : Setting) (T : Lent) where
  abbrev cs : List Column
  cs = columns_at σ T

  unfoldable pub share_refused : List ℕ → ℕ → ℕ → ℕ → ℕ
  share_refused m r s room = or_else (table_fault σ T) (share_refusal σ (table_state σ T) m r s room)

  abbrev pub share_taken : List ℕ → ℕ → ℕ → Waiting
  share_taken m r s = waiting_of σ (opened_in σ T.bytes) (id_in m) (share_in σ cs m) r s

  -- the record that a share takes, and what it becomes
  unfoldable pub share_table : List ℕ → ℕ → ℕ → Lent
  share_table m r s =
      let w = share_taken m r s in
      let i = free_place T.slots in
      record {
        bytes = T.bytes;
        slots = set T.slots i (slot_of stage_one w);
        elements = put_numbers cs T.elements i (numbers_of w);
      }

  unfoldable pub share_bytes : List ℕ → ℕ → ℕ → List ℕ
  share_bytes m r s = message_one σ (opened_in σ T.bytes) (share_taken m r s)

  -- the return of an id
  abbrev pub waiting_under : ℕ → Waiting
  waiting_under id = waiting_in σ T (place_of id T.slots)

  unfoldable pub one_refused : ℕ → List ℕ → ℕ → ℕ
  one_refused id joined room = or_else (table_fault σ T) (one_refusal σ (table_state σ T) id joined room)

  abbrev pub one_taken : ℕ → List ℕ → Waiting
  one_taken id joined = summed σ (opened_in σ T.bytes) (waiting_under id) joined

  unfoldable pub one_table : ℕ → List ℕ → Lent
  one_table id joined = record {
    bytes = T.bytes;
    slots = set T.slots (place_of id T.slots) (slot_of stage_two (one_taken id joined));
    elements = T.elements;
  }

  unfoldable pub one_bytes : ℕ → List ℕ → List ℕ
  one_bytes id joined = message_two σ (opened_in σ T.bytes) (one_taken id joined)

  -- the bytes t with a return more that is decided: the counts, and its id
  unfoldable pub decided_bytes : ℕ → ℕ → List ℕ → List ℕ
  decided_bytes entered id t =
      splice
      (splice t 6 (bytes_of 2 (decided_in σ T.bytes + 1) ++ bytes_of 2 (entered_in σ T.bytes + entered)))
      (ids_place σ (sheet_size σ T.bytes) cs (returns_in σ T.bytes) + 4 * decided_in σ T.bytes)
      (bytes_of 4 id)

  -- a return that is decided: its record and the numbers of its place become 0
  unfoldable pub decided_table : ℕ → List ℕ → Lent
  decided_table id t = record {
    bytes = t;
    slots = set T.slots (place_of id T.slots) free_slot;
    elements = cleared_numbers cs T.elements (place_of id T.slots);
  }

  -- "Then the published entries are added to the totals": when it is entered
  unfoldable pub added_totals : ℕ → List ℕ
  added_totals id =
      tabulate
      (λ k. (modulo σ.modulus).◌⊕◌ (get_or (totals_in σ T.bytes) k 0)
      (get_or (published_shares σ (opened_in σ T.bytes) (waiting_under id).elements) k 0))
      (published_in cs)

  unfoldable pub added_bytes : ℕ → List ℕ
  added_bytes id =
      splice T.bytes (totals_place σ (sheet_size σ T.bytes) cs (returns_in σ T.bytes)) (bytes_of_all σ.width (added_totals id))

  unfoldable pub two_refused : ℕ → List ℕ → ℕ
  two_refused id joined = or_else (table_fault σ T) (two_refusal σ (table_state σ T) id joined)

  unfoldable pub two_verdict : List ℕ → Bool
  two_verdict joined = both_zero σ (servers_in σ T.bytes) joined

  -- "An accepted return then waits until it is entered or dropped": its record gets that stage, and all else stays
  unfoldable pub accepted_table : ℕ → Lent
  accepted_table id = record {
    bytes = T.bytes;
    slots = set T.slots (place_of id T.slots) (slot_of stage_entry (waiting_under id));
    elements = T.elements;
  }

  unfoldable pub two_table : ℕ → List ℕ → Lent
  two_table id joined = cond (two_verdict joined) (accepted_table id) (decided_table id (decided_bytes 0 id T.bytes))

  unfoldable pub enter_refused : ℕ → ℕ
  enter_refused id = or_else (table_fault σ T) (enter_refusal (table_state σ T) id)

  unfoldable pub enter_table : ℕ → Lent
  enter_table id = decided_table id (decided_bytes 1 id (added_bytes id))

  unfoldable pub drop_refused : ℕ → ℕ
  drop_refused id = or_else (table_fault σ T) (drop_refusal (table_state σ T) id)

  unfoldable pub drop_table : ℕ → Lent
  drop_table id = decided_table id (decided_bytes 0 id T.bytes)

  unfoldable pub close_refused : ℕ → ℕ
  close_refused room = or_else (table_fault σ T) (close_refusal σ (table_state σ T) room)

  unfoldable pub close_table : Lent
  close_table = record { bytes = splice T.bytes 1 (stage_closed ∷ []); slots = T.slots; elements = T.elements }

  unfoldable pub close_bytes : List ℕ
  close_bytes = totals_message σ (opened_in σ T.bytes) (entered_in σ T.bytes) (totals_in σ T.bytes)
