-- What a call that tells the line of a column comes to: its answer is rules', at document 01's setting. And its parts.
-- Assumes nothing.
use Rattle.std.specs.Prelude.{cond, List, ℕ, ◌+◌, ◌≤◌, ◌<◌, eqb, length, Option, Some, None}
use Rattle.records.specs.Outcome.{Outcome, ok, refused, or_else}
use Rattle.rules.specs.Settings.{document01}
use Rattle.rules.specs.Columns.{Column, check, published_in, columns_of}
use Rattle.rules.specs.Joining.{accepted_count, joined_fault}
use Rattle.rules.specs.Line.{is_point, names_point, columns_before, line_sums, line_refusal}
use Rattle.totals_message.specs.Totals.{total_at, SummableTotals}
use Rattle.joining.specs.Calls.{pool_fault}
use Rattle.line.specs.declared.Totals.{Totals}
use Rattle.line.specs.declared.Place.{Place}
use Rattle.line.specs.declared.Line.{Line}
use Rattle.line.specs.Numbers.{line_of}

-- the three numbers, or the refusal
unfoldable pub fit_of : ℕ → List ℕ → ℕ → List ℕ → ℕ → Outcome Line
fit_of servers sheet returns joined column =
    let refusal = line_refusal document01 servers sheet returns joined column in
    cond (eqb refusal 0) (ok (line_of (line_sums document01 servers sheet joined column))) (refused refusal)

-- ---- the column
-- a column with so many published entries before it
unfoldable pub point_at : Column → ℕ → Option ℕ
point_at c first = cond (is_point c) (Some first) None

-- the column with this number
unfoldable pub found_in : List Column → ℕ → Option ℕ
found_in cs column = cond (names_point column cs) (Some (published_in (columns_before column cs))) None

-- ---- the messages
-- messages whose totals can be summed, four of them from `first` on
pub record Takeable (servers : ℕ) (p : Place) (joined : List ℕ) : Type 0 where
  pub header : 6 ≤ length joined
  pub four : p.first + 4 ≤ p.published
  pub summable : (k : ℕ) → k < p.published → SummableTotals servers p.published k joined

abbrev pub totals_from : ℕ → Place → List ℕ → Totals
totals_from servers p joined =
    record {
      n = accepted_count joined;
      x = total_at servers p.published joined p.first;
      xx = total_at servers p.published joined (p.first + 1);
      y = total_at servers p.published joined (p.first + 2);
      xy = total_at servers p.published joined (p.first + 3);
    }

-- the refusal but for that of D
unfoldable pub line_fault : ℕ → List ℕ → ℕ → List ℕ → ℕ → ℕ
line_fault servers sheet returns joined column =
    or_else (pool_fault servers sheet returns)
    (or_else (check (names_point column (columns_of sheet)) 2) (joined_fault document01 servers (columns_of sheet) returns joined))

-- where the totals stand, or that refusal
abbrev pub place_of : List ℕ → ℕ → Place
place_of sheet column =
    record { published = published_in (columns_of sheet); first = published_in (columns_before column (columns_of sheet)) }

unfoldable pub placed : ℕ → List ℕ → ℕ → List ℕ → ℕ → Outcome Place
placed servers sheet returns joined column =
    let fault = line_fault servers sheet returns joined column in
    cond (eqb fault 0) (ok (place_of sheet column)) (refused fault)
