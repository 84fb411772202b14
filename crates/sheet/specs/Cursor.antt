-- A cursor over the columns of a sheet: where column k stands in the sheet's bytes, and what the columns before it come to.
-- Assumes nothing.
use Rattle.std.specs.Prelude.{◌≡◌, List, [], ◌∷◌, ℕ, ◌+◌, ◌<◌, ◌≤◌, length, get_or, take}
use Rattle.records.specs.Outcome.{ok}
use Rattle.rules.specs.Columns.{Column, yes_no, entries_in, published_in, read_sheet, columns_of}
use Rattle.rules.specs.Circuit.{gates_in}
use Rattle.rules.specs.Columns.{record_size}
use Rattle.columns.specs.Kinds.{to_code}
use Rattle.sheet.specs.declared.cursor.Cursor.{Cursor}
use Rattle.sheet.specs.declared.cursor.Step.{Step}

-- the number of bytes of columns
unfoldable pub bytes_in : List Column → ℕ
bytes_in [] = 0
bytes_in (c ∷ cs) = record_size c + bytes_in cs

-- ---- the cursor before column k
abbrev pub cursor_of : List Column → ℕ → Cursor
cursor_of cs k =
    record {
      index = k;
      at = bytes_in (take k cs);
      entry = entries_in (take k cs);
      published = published_in (take k cs);
      gates = gates_in (take k cs);
    }

abbrev pub cursor_at : List ℕ → ℕ → Cursor
cursor_at s k = cursor_of (columns_of s) k

abbrev pub begin : Cursor
begin = cursor_of [] 0

-- the sheet s is read, and the cursor stands before one of its columns
pub record Stands (s : List ℕ) (c : Cursor) : Type 0 where
  pub is_read : read_sheet s ≡ ok (columns_of s)
  pub here : c ≡ cursor_at s c.index
  pub within : c.index < length (columns_of s)

-- column k and the cursor behind it
abbrev pub step_at : List ℕ → ℕ → Step
step_at s k = record { column = to_code (get_or (columns_of s) k yes_no); next = cursor_at s (k + 1) }

-- the cursor stands before a column, or behind the last
pub record Walks (s : List ℕ) (c : Cursor) : Type 0 where
  pub here : c ≡ cursor_at s c.index
  pub most : c.index ≤ length (columns_of s)
