-- The encoding of values into a buffer: the refusals in their order, and what the buffer holds then.
-- Assumes nothing.
use Rattle.std.specs.Prelude.{◌≡◌, cond, List, ℕ, ◌*◌, ◌≤◌, leb, eqb, length}
use Rattle.words.specs.Bytes.{splice, elements_of}
use Rattle.records.specs.Outcome.{ok, or_else}
use Rattle.rules.specs.Columns.{entries_in, read_sheet, sheet_fault, columns_of, check}
use Rattle.rules.specs.Values.{encoding}
use Rattle.rules.specs.Making.{values_fault}

-- the sheet's refusal, then 5, then 14 where the buffer has less room than entries
unfoldable pub encode_refusal : List ℕ → List ℕ → ℕ → ℕ
encode_refusal s values room =
    or_else (sheet_fault s) (or_else (values_fault (columns_of s) values) (check (leb (entries_in (columns_of s)) room) 14))

-- the entries that encode the values, from the front of the buffer
abbrev pub encoded_into : List ℕ → List ℕ → List ℕ → List ℕ
encoded_into s values out = splice out 0 (encoding (columns_of s) (elements_of 4 values))

-- what the buffer holds then: what it held, where the call is refused
unfoldable pub encode_out : List ℕ → List ℕ → List ℕ → List ℕ
encode_out s values out = cond (eqb (encode_refusal s values (length out)) 0) (encoded_into s values out) out

pub record Encoded (s values before : List ℕ) (r : ℕ) (after : List ℕ) : Type 0 where
  pub answer_is : r ≡ encode_refusal s values (length before)
  pub out_is : after ≡ encode_out s values before

-- the sheet is read, with so many columns
pub record HasColumns (s : List ℕ) (columns : ℕ) : Type 0 where
  pub is_read : read_sheet s ≡ ok (columns_of s)
  pub columns_are : columns ≡ length (columns_of s)

-- the sheet is read, there is a value for each column, and there is room
pub record Encodable (s values out : List ℕ) : Type 0 where
  pub is_read : read_sheet s ≡ ok (columns_of s)
  pub a_value_each : length values ≡ 4 * length (columns_of s)
  pub room : entries_in (columns_of s) ≤ length out
