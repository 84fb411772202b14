-- The published entries of a share added to the totals, as the code does it: a run of numbers to a run of words.
-- Assumes nothing.
use Rattle.std.specs.Prelude.{◌≡◌, true, List, ℕ, ◌+◌, ◌*◌, ◌≤◌, ◌<◌, length, get_or}
use Rattle.algebra.specs.Lists.{tabulate}
use Rattle.words.specs.Bytes.{value_of, bytes_of_all, part, splice, all_below}
use Rattle.field.specs.Residues.{prime, residues}
use Rattle.rules.specs.Settings.{document01}
use Rattle.rules.specs.Columns.{published_in}
use Rattle.rules.specs.Server.{published_shares}
use Rattle.rules.specs.Table.{returns_in, sheet_size, columns_in, opened_in, totals_in, totals_place}
use Rattle.layout.specs.declared.Table.{Table}
use Rattle.table.specs.Reading.{length_of, Headed}

-- the number of the four bytes at a place
abbrev pub word_at : List ℕ → ℕ → ℕ
word_at s a = value_of (part a 4 s)

-- word i of the run at `to` plus number i of xs from `from`
unfoldable pub words_added : List ℕ → ℕ → List ℕ → ℕ → ℕ → ℕ
words_added s to xs from i = residues.◌⊕◌ (word_at s (to + 4 * i)) (get_or xs (from + i) 0)

-- two runs of n elements
pub record Addable (s : List ℕ) (to : ℕ) (xs : List ℕ) (from n : ℕ) : Type 0 where
  pub fits : to + 4 * n ≤ length s
  pub within : from + n ≤ length xs
  pub to_below : (i : ℕ) → i < n → word_at s (to + 4 * i) < prime
  pub from_below : (i : ℕ) → i < n → get_or xs (from + i) 0 < prime

-- the bytes t of a table, and a share whose published entries can be added to its totals
pub record Adds (t : List ℕ) (k : Table) (xs : List ℕ) : Type 0 where
  pub headed : Headed t k
  pub long : length_of k ≤ length t
  pub totals_below : all_below prime (totals_in document01 t) ≡ true
  pub share_long : k.entries ≤ length xs
  pub share_below : all_below prime xs ≡ true

-- total i with the published entry i of the share: a member of rules' addedTotals
unfoldable pub total_with : List ℕ → List ℕ → ℕ → ℕ
total_with t xs i =
    residues.◌⊕◌ (get_or (totals_in document01 t) i 0) (get_or (published_shares document01 (opened_in document01 t) xs) i 0)

-- the bytes with all of them: rules' addedBytes
unfoldable pub with_published : List ℕ → List ℕ → List ℕ
with_published t xs =
    splice t (totals_place document01 (sheet_size document01 t) (columns_in document01 t) (returns_in document01 t))
    (bytes_of_all 4 (tabulate (total_with t xs) (published_in (columns_in document01 t))))
