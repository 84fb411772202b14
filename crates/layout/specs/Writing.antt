-- What is written: the header of a fresh table, a return noted among those decided, the closing message, in the numbers of code.
-- Assumes nothing.
use Rattle.std.specs.Prelude.{List, [], ◌∷◌, ◌++◌, ℕ, ◌+◌, ◌*◌, ◌≤◌, ◌<◌, length}
use Rattle.words.specs.Bytes.{bytes_of, part, splice}
use Rattle.rules.specs.Settings.{document01}
use Rattle.totals_message.specs.Totals.{totals_header}
use Rattle.layout.specs.Places.{totals_at, ids_at, length_at}
use Rattle.layout.specs.Numbers.{Limited}
use Rattle.layout.specs.declared.Table.{Table}

-- the header of a fresh table
unfoldable pub start_bytes : ℕ → ℕ → ℕ → ℕ → ℕ → List ℕ
start_bytes servers own returns least n =
    (document01.table_byte ∷ 0 ∷ servers ∷ own ∷ []) ++ bytes_of 2 returns ++ bytes_of 2 0 ++ bytes_of 2 0 ++ bytes_of 2 least ++ bytes_of 2 n

-- a table with the counts and the id of one return more that is decided
unfoldable pub noted : Table → ℕ → ℕ → List ℕ → List ℕ
noted k entered id t =
    splice
    (splice t 6 (bytes_of 2 (k.decided + 1) ++ bytes_of 2 (k.entered + entered)))
    (ids_at k.sheet k.published + 4 * k.decided)
    (bytes_of 4 id)

-- a return more can be decided
pub record Decidable (t : List ℕ) (k : Table) : Type 0 where
  pub limited : Limited k
  pub ids_long : length_at k.sheet k.published k.returns ≤ length t
  pub some_room : k.decided < k.returns
  pub entered_few : k.entered ≤ k.decided

-- the closing message: rules' closeBytes
unfoldable pub closing_bytes : Table → List ℕ → List ℕ
closing_bytes k t = totals_header k.own k.entered ++ part (totals_at k.sheet) (4 * k.published) t

-- the totals lie within the slice, and the buffer has room
pub record Closable (t : List ℕ) (k : Table) (room : ℕ) : Type 0 where
  pub limited : Limited k
  pub totals_long : ids_at k.sheet k.published ≤ length t
  pub enough : 6 + 4 * k.published ≤ room
