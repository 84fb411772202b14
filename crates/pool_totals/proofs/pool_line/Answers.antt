-- `pool_totals::pool_line` meets its contract: by the cases of the call's answer, whose three numbers fit what they are stored in.
-- Assumes nothing.
use mathlib.Core.Path.{ap, ◌∙◌}
use mir.Syntax.{w64}
use borrow.Author.Rules.{rules}
use mir.Facts.{to_z-of_z}
use Rattle.records.specs.Refusals.{fault_of}
use Rattle.pool_totals.proofs.Told.{line_refused, line_done}
use Rattle.pool_totals.proofs.pool_line.Goals as goal
use Rattle.pool_totals.proofs.pool_line.Goals.{in-Ok, in_default}

pub returns : goal.returns
returns c =
    elim c.match-line.branch [
      | in-Ok w ↦
          let l = w.in-Ok.told in
          let d = to_z-of_z {w = w64} {z = l.determinant} (search rules) in
          let s = to_z-of_z {w = w64} {z = l.slope} (search rules) in
          let i = to_z-of_z {w = w64} {z = l.intercept} (search rules) in
          rw (c.number_of.ensures ∙ ap fault_of w.line-is)
          (line_done _ _ _ _ _ _ _ _ l w.in-Ok.ensures _ _ _ (w.determinant-is ∙ d) (w.slope-is ∙ s) (w.intercept-is ∙ i))
      | in_default w ↦
          rw (c.number_of.ensures ∙ ap fault_of (w.line-is ∙ w.in_default.is), w.determinant-is, w.slope-is, w.intercept-is)
          (line_refused _ _ _ _ _ _ _ _ _ w.in_default.ensures)
    ]
