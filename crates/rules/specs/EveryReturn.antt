-- Every legal return of a small sheet: the legal lists of values in their order, how many there are, their bytes, the refusals
-- of the call that writes them out, and what is promised of the lists.
-- Assumes nothing.
use Rattle.std.specs.Prelude.{◌≡◌, ◌↔◌, true, List, [], ◌∷◌, ◌++◌, map, ℕ, zero, suc, ◌*◌, ◌<◌, leb, length}
use Rattle.algebra.specs.Lists.{All, In, Distinct}
use Rattle.words.specs.Bytes.{bytes_of_all}
use Rattle.records.specs.Outcome.{or_else}
use Rattle.rules.specs.Columns.{Column, values_of, sheet_fault, columns_of, check}
use Rattle.rules.specs.Values.{legal_values}
use Rattle.rules.specs.Making.{values_fault}

-- each of the lists behind each value below n, the values rising
unfoldable pub after_each : ℕ → List (List ℕ) → List (List ℕ)
after_each zero l = []
after_each (suc v) l = after_each v l ++ map (v ∷◌) l

-- "Write out every legal list of values, one per column, each once, in rising order with the first column weighing most."
unfoldable pub legal_lists : List Column → List (List ℕ)
legal_lists [] = [] ∷ []
legal_lists (c ∷ cs) = after_each (values_of c) (legal_lists cs)

-- "The count of lists is given with them.": the product of the columns' numbers of values
unfoldable pub lists_in : List Column → ℕ
lists_in [] = 1
lists_in (c ∷ cs) = values_of c * lists_in cs

-- "Every value is 4 bytes.", whatever the width of an element
unfoldable pub lists_bytes : List (List ℕ) → List ℕ
lists_bytes [] = []
lists_bytes (vs ∷ l) = bytes_of_all 4 vs ++ lists_bytes l

unfoldable pub every_return_bytes : List ℕ → List ℕ
every_return_bytes sheet = lists_bytes (legal_lists (columns_of sheet))

unfoldable pub every_return_length : List ℕ → ℕ
every_return_length sheet = 4 * length (columns_of sheet) * lists_in (columns_of sheet)

-- "More than 4,096 lists are refused 17, after sheet faults and before 14."
abbrev pub most_lists : ℕ
most_lists = 4096

unfoldable pub every_return_refusal : List ℕ → ℕ → ℕ
every_return_refusal sheet room =
    or_else (sheet_fault sheet)
    (or_else (check (leb (lists_in (columns_of sheet)) most_lists) 17) (check (leb (every_return_length sheet) room) 14))

-- rising order "with the first column weighing most": the first value that differs is the lower
pub data Before : List ℕ → List ℕ → Type 0 where
  here : {v w : ℕ} {s t : List ℕ} → v < w → Before (v ∷ s) (w ∷ t)
  behind : {v : ℕ} {s t : List ℕ} → Before s t → Before (v ∷ s) (v ∷ t)

-- each list stands before all that follow it
pub data Rising : List (List ℕ) → Type 0 where
  rising[] : Rising []
  rising∷ : {a : List ℕ} {s : List (List ℕ)} → All (Before a) s → Rising s → Rising (a ∷ s)

-- What is promised of the lists, for any columns
pub record EveryLegal (cs : List Column) : Type 0 where
  -- "every legal list of values", and no other
  pub exactly_legal : (vs : List ℕ) → In vs (legal_lists cs) ↔ (legal_values cs vs ≡ true)
  -- "each once"
  pub each_once : Distinct (legal_lists cs)
  -- "in rising order with the first column weighing most"
  pub rising : Rising (legal_lists cs)
  -- "The count of lists"
  pub counted : length (legal_lists cs) ≡ lists_in cs

-- of the bytes: as many as are asked of the buffer
abbrev pub BytesCounted : Type 0
BytesCounted = (sheet : List ℕ) → length (every_return_bytes sheet) ≡ every_return_length sheet

-- and of each list's bytes: making finds no fault in these values
abbrev pub ListsTaken : Type 0
ListsTaken =
    (sheet vs : List ℕ) → sheet_fault sheet ≡ 0 → In vs (legal_lists (columns_of sheet))
    → values_fault (columns_of sheet) (bytes_of_all 4 vs) ≡ 0
