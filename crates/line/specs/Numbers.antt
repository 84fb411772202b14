-- The totals and the line in the numbers of code.
-- Assumes nothing.
use Rattle.std.specs.Prelude.{cond}
use Rattle.records.specs.Outcome.{Outcome, ok, refused}
use Rattle.rules.specs.Line.{Sums, determinant, slope, intercept, is_zero}
use Rattle.line.specs.declared.Totals.{Totals}
use Rattle.line.specs.declared.Line as code

abbrev pub sums_in : Totals → Sums
sums_in t = record { n = t.n; x = t.x; xx = t.xx; y = t.y; xy = t.xy }

abbrev pub line_of : Sums → code.Line
line_of s = record { determinant = determinant s; slope = slope s; intercept = intercept s }

-- "A D of zero is refused 18"
unfoldable pub fitting_of : Sums → Outcome code.Line
fitting_of s = cond (is_zero (determinant s)) (refused 18) (ok (line_of s))
