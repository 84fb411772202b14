-- The room that a fresh table takes and its bytes, in the numbers of code: rules' openBytes (proofs/FreshTable).
-- Assumes nothing.
use Rattle.std.specs.Prelude.{Bool, cond, ◌&&◌, List, ◌++◌, ℕ, ◌+◌, ◌-◌, ◌≤◌, eqb, leb, length, replicate}
use Rattle.records.specs.Outcome.{Outcome, ok, refused}
use Rattle.rules.specs.Settings.{document01}
use Rattle.rules.specs.Columns.{columns_of}
use Rattle.rules.specs.WaitingList.{run_size}
use Rattle.rules.specs.Table.{header_length, open_length}
use Rattle.layout.specs.Writing.{start_bytes}
use Rattle.opening.specs.declared.Size.{Size}

-- what the table of a sheet and N takes besides its records
abbrev pub size_for : List ℕ → ℕ → Size
size_for sheet returns = record { bytes = open_length document01 sheet returns; numbers = run_size (columns_of sheet) }

-- the room that a table takes, or the refusal
unfoldable pub room_by : ℕ → Size → Outcome Size
room_by refusal size = cond (eqb refusal 0) (ok size) (refused refusal)

-- so many bytes, records and numbers have room for it: rules' openRoom
unfoldable pub room_for : Size → ℕ → ℕ → ℕ → Bool
room_for size room records numbers = leb size.bytes room && (eqb records 8 && leb size.numbers numbers)

-- the header, the sheet, and zeros up to the table's length
unfoldable pub fresh_bytes : ℕ → ℕ → List ℕ → ℕ → ℕ → ℕ → List ℕ
fresh_bytes servers own sheet returns least size =
    start_bytes servers own returns least (length sheet) ++ sheet ++ replicate (size - (header_length + length sheet)) 0

-- a table of so many bytes holds header and sheet, and lies within its buffer
pub record Roomy (sheet : List ℕ) (size : ℕ) (T : List ℕ) : Type 0 where
  pub sheet_most : length sheet ≤ 426
  pub sheet_fits : header_length + length sheet ≤ size
  pub within : size ≤ length T
