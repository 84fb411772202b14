-- The whole list that the shares of a return add up to, and what the functions that fill it ask for.
-- Assumes nothing.
use Rattle.std.specs.Prelude.{◌≡◌, List, ℕ, suc, ◌+◌, ◌≤◌, length}
use Rattle.algebra.specs.Lists.{tabulate}
use Rattle.words.specs.Bytes.{elements_of}
use Rattle.records.specs.Outcome.{ok}
use Rattle.field.specs.Residues.{residues, Elements}
use Rattle.rules.specs.Settings.{document01}
use Rattle.rules.specs.Columns.{Column, read_sheet, columns_of}
use Rattle.rules.specs.Circuit.{gates_in}
use Rattle.rules.specs.Values.{encoding}
use Rattle.rules.specs.Judging.{share_size}
use Rattle.rules.specs.Making.{f_of, g_of, whole, values_fault}
use Rattle.walk.specs.Walks.{members}
use Rattle.columns.specs.declared.Counts.{Counts}
use Rattle.columns.specs.Counting.{counts_of}

-- the sheet is read, with these counts
pub record Counted (sheet : List ℕ) (counts : Counts) : Type 0 where
  pub is_read : read_sheet sheet ≡ ok (columns_of sheet)
  pub counts_are : counts ≡ counts_of (columns_of sheet)

-- the values of h at 0, 1, .., 2M, of the entries xs and the free elements u and v
unfoldable pub h_values : List Column → List ℕ → ℕ → ℕ → List ℕ
h_values cs xs u v =
    tabulate
    (λ j. residues.◌⊗◌ (f_of residues document01 cs (members xs) u (residues.ι j))
    (g_of residues document01 cs (members xs) v (residues.ι j)))
    (suc (gates_in cs + gates_in cs))

-- the sheet is read, and the values are legal
pub record Legal (sheet values : List ℕ) : Type 0 where
  pub is_read : read_sheet sheet ≡ ok (columns_of sheet)
  pub legal : values_fault (columns_of sheet) values ≡ 0

-- the entries of the values
abbrev pub entries_from : List ℕ → List ℕ → List ℕ
entries_from sheet values = encoding (columns_of sheet) (elements_of 4 values)

-- the whole list of the values vs and the random elements zs: rules' madeWhole
abbrev pub whole_of : List Column → List ℕ → List ℕ → List ℕ
whole_of cs vs zs =
    whole residues document01 cs (members (encoding cs vs)) (members zs 0) (members zs 1) (members zs 2) (members zs 3)

-- legal values, four random elements at least, and a buffer of just as many places as the whole list has elements
pub record Fillable (sheet : List ℕ) (counts : Counts) (values random w : List ℕ) : Type 0 where
  pub counted : Counted sheet counts
  pub legal : values_fault (columns_of sheet) values ≡ 0
  pub four : 16 ≤ length random
  pub elements : Elements (elements_of 4 random)
  pub long : length w ≡ share_size (columns_of sheet)
