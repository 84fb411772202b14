-- The reading of a table: what a sound table says, in the numbers of code, and the parts of the judgement.
-- Assumes nothing.
use Rattle.std.specs.Prelude.{◌≡◌, Bool, true, cond, ◌&&◌, List, ℕ, ◌+◌, ◌*◌, ◌≤◌, ◌<◌, eqb, ltb, leb, length, get_or}
use Rattle.words.specs.Bytes.{value_of, part, elements_of, all_below}
use Rattle.records.specs.Outcome.{Outcome, ok, refused}
use Rattle.rules.specs.Settings.{document01}
use Rattle.rules.specs.Columns.{check, within, least_fits, sheet_fault, totals_fit}
use Rattle.rules.specs.WaitingList.{waiting_count}
use Rattle.rules.specs.Table.{Lent, header_length, sheet_in, columns_in, header_sound, table_sound, table_fault}
use Rattle.layout.specs.Places.{totals_at, length_at, place_size_of}
use Rattle.layout.specs.Numbers.{table_of, Limited}
use Rattle.layout.specs.declared.Table.{Table}

-- ---- what is found
-- what the reader answers: what a sound table says, or rules' refusal of the table
unfoldable pub found_in : Lent → Outcome Table
found_in T = cond (table_sound document01 T) (ok (table_of T.bytes)) (refused (table_fault document01 T))

-- what it has once the header and the sheet are sound
unfoldable pub head_in : List ℕ → Outcome Table
head_in T = cond (header_sound document01 T) (ok (table_of T)) (refused (check (header_sound document01 T) 11))

-- ---- the parts of the judgement: the header before the sheet is read
unfoldable pub start_sound : List ℕ → Bool
start_sound T =
    leb header_length (length T)
    && (eqb (get_or T 0 0) document01.table_byte
    && (leb (get_or T 1 0) 1
    && (within 2 8 (get_or T 2 0)
    && (ltb (get_or T 3 0) (get_or T 2 0)
    && (within 1 1024 (value_of (part 4 2 T))
    && (least_fits (value_of (part 4 2 T)) (value_of (part 10 2 T)) && leb (header_length + value_of (part 12 2 T)) (length T)))))))

pub record Started (T : List ℕ) : Type 0 where
  pub header_long : header_length ≤ length T
  pub byte_is : get_or T 0 0 ≡ document01.table_byte
  pub stage_most : get_or T 1 0 ≤ 1
  pub servers_some : 2 ≤ get_or T 2 0
  pub servers_few : get_or T 2 0 ≤ 8
  pub own_one : get_or T 3 0 < get_or T 2 0
  pub returns_some : 1 ≤ value_of (part 4 2 T)
  pub returns_most : value_of (part 4 2 T) ≤ 1024
  pub least_fits_lem : least_fits (value_of (part 4 2 T)) (value_of (part 10 2 T)) ≡ true
  pub sheet_long : header_length + value_of (part 12 2 T) ≤ length T

-- ---- counts and totals, by the numbers of the header
-- the bytes of the table
abbrev pub length_of : Table → ℕ
length_of k = length_at k.sheet k.published k.returns

unfoldable pub counts_sound_at : Table → ℕ → List ℕ → Bool
counts_sound_at k waiting T =
    totals_fit document01 k.returns (columns_in document01 T)
    && (leb (length_of k) (length T) && (leb (k.decided + waiting) k.returns && leb k.entered k.decided))

unfoldable pub totals_sound_at : Table → List ℕ → Bool
totals_sound_at k T = all_below 2147483647 (elements_of 4 (part (totals_at k.sheet) (4 * k.published) T))

-- ---- facts that the calls require
-- a table whose header and sheet are sound
pub record Headed (T : List ℕ) (k : Table) : Type 0 where
  pub says : k ≡ table_of T
  pub limited : Limited k
  pub header : header_sound document01 T ≡ true
  pub sheet_long : header_length + k.sheet ≤ length T
  pub no_fault_lem : sheet_fault (sheet_in document01 T) ≡ 0

-- the bytes lie within their slice
pub record Whole (T : List ℕ) (k : Table) : Type 0 where
  pub limited : Limited k
  pub long : length_of k ≤ length T

-- a sound table
pub record Sound (T : Lent) (k : Table) : Type 0 where
  pub says : k ≡ table_of T.bytes
  pub limited : Limited k
  pub is_sound : table_sound document01 T ≡ true
  pub long : length_of k ≤ length T.bytes
  pub eight : length T.slots ≡ 8
  pub run_long : place_size_of k.entries k.gates * 8 ≤ length T.elements
  pub decided_few : k.decided + waiting_count T.slots ≤ k.returns
  pub entered_few : k.entered ≤ k.decided
