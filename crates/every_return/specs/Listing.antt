-- The lists of a small sheet in the numbers of code: a column of all lists, the count from list to list, and what the call
-- answers and leaves. Assumes nothing.
use Rattle.std.specs.Prelude.{◌≡◌, cond, List, ℕ, zero, suc, ◌+◌, ◌-◌, ◌*◌, ◌≤◌, leb, ltb, eqb, length}
use Rattle.words.specs.Bytes.{bytes_of, splice}
use Rattle.records.specs.Outcome.{Outcome, ok, refused}
use Rattle.records.specs.Answers.{only_if}
use Rattle.rules.specs.Columns.{Column, read_sheet, columns_of}
use Rattle.rules.specs.EveryReturn.{lists_in, every_return_bytes, every_return_length, every_return_refusal, most_lists}
use Rattle.every_return.specs.declared.Count.{Count}
use Rattle.every_return.specs.declared.Lists.{Lists}

-- the value v k, 4 bytes, stands at place p of each list k below n; a list is w bytes
unfoldable pub column_put : (ℕ → ℕ) → ℕ → ℕ → List ℕ → ℕ → List ℕ
column_put v w p out zero = out
column_put v w p out (suc k) = splice (column_put v w p out k) (w * k + p) (bytes_of 4 (v k))

-- from list to list: a value stands in `behind` lists, then the next of `values` values, and 0 behind the last
unfoldable pub next_count : ℕ → ℕ → Count → Count
next_count behind values c =
    cond (ltb 1 c.left) (record { value = c.value; left = c.left - 1 })
    (cond (ltb (c.value + 1) values) (record { value = c.value + 1; left = behind }) (record { value = 0; left = behind }))

-- the sheet is read, with so many columns and lists, and there is room for them
pub record Writable (sheet : List ℕ) (columns lists : ℕ) (out : List ℕ) : Type 0 where
  pub is_read : read_sheet sheet ≡ ok (columns_of sheet)
  pub columns_are : columns ≡ length (columns_of sheet)
  pub lists_are : lists ≡ lists_in (columns_of sheet)
  pub room : 4 * length (columns_of sheet) * lists ≤ length out

-- how many lists there are, or the refusal of too many
unfoldable pub counted_up : List Column → Outcome ℕ
counted_up cs = cond (leb (lists_in cs) most_lists) (ok (lists_in cs)) (refused 17)

-- the answer where a buffer of so many bytes is lent
unfoldable pub listed_of : List ℕ → ℕ → Outcome Lists
listed_of sheet room =
    cond (eqb (every_return_refusal sheet room) 0)
    (ok
    (record { columns = length (columns_of sheet); lists = lists_in (columns_of sheet); written = every_return_length sheet }))
    (refused (every_return_refusal sheet room))

-- the buffer afterwards
unfoldable pub lists_out : List ℕ → List ℕ → List ℕ
lists_out sheet out = only_if (every_return_refusal sheet (length out)) (splice out 0 (every_return_bytes sheet)) out
