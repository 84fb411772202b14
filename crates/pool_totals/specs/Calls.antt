-- The C functions of anyone who joins totals. The promise of each is an equality with rules' definitions at document 01's setting:
-- the answer, every byte of the buffer and the numbers behind the pointers.
-- Assumes nothing.
use Rattle.std.specs.Prelude.{◌≡◌, cond, List, ℕ, ◌*◌, eqb, ℤ, length}
use Rattle.records.specs.Answers.{Writes, if_done}
use Rattle.rules.specs.Settings.{document01}
use Rattle.rules.specs.Columns.{columns_of, published_in}
use Rattle.rules.specs.Joining.{join_refusal, join_count, join_bytes}
use Rattle.rules.specs.Line.{line_refusal, line_sums}
use Rattle.rules.specs.Line as line

-- pool_join: the totals, and the count of entered returns
pub record Joins (servers : ℕ) (sheet : List ℕ) (returns : ℕ) (joined out : List ℕ) (accepted written : ℕ)
    (a : ℕ) (out' : List ℕ) (accepted' written' : ℕ) : Type 0 where
  pub totals : Writes (join_refusal document01 servers sheet returns joined (length out))
      (join_bytes document01 servers sheet joined) (4 * published_in (columns_of sheet)) out written a out' written'
  pub accepted_is : accepted' ≡ if_done (join_refusal document01 servers sheet returns joined (length out)) (join_count joined) accepted

-- a signed number behind a pointer: the new one, or where the call is refused the one that was there
unfoldable pub signed_if : ℕ → ℤ → ℤ → ℤ
signed_if refusal new old = cond (eqb refusal 0) new old

-- pool_line: D, the slope and the value at 0
pub record TellsLine (servers : ℕ) (sheet : List ℕ) (returns : ℕ) (joined : List ℕ) (column : ℕ) (determinant slope intercept : ℤ)
    (a : ℕ) (determinant' slope' intercept' : ℤ) : Type 0 where
  pub answer_is : a ≡ line_refusal document01 servers sheet returns joined column
  pub determinant_is : determinant'
      ≡ signed_if (line_refusal document01 servers sheet returns joined column)
      (line.determinant (line_sums document01 servers sheet joined column)) determinant
  pub slope_is : slope'
      ≡ signed_if (line_refusal document01 servers sheet returns joined column)
      (line.slope (line_sums document01 servers sheet joined column)) slope
  pub intercept_is : intercept'
      ≡ signed_if (line_refusal document01 servers sheet returns joined column)
      (line.intercept (line_sums document01 servers sheet joined column)) intercept
