-- `line::fitted` meets its contract: the bits of D are 0 exactly where D is 0 (`bits_none`, `bits_some`). Assumes nothing.
use mathlib.Core.Path.{◌≡◌, sym, ap, ◌∙◌}
use mir.Syntax.{w64}
use mir.Val.{of_z}
use Rattle.rules.specs.Line.{determinant}
use Rattle.line.specs.declared.Line.{Line}
use Rattle.line.specs.Numbers.{sums_in, fitting_of}
use Rattle.line.proofs.Words.{bits_none, bits_some}
use Rattle.line.proofs.fitted.Goals as goal

pub returns-then-line-eq0 : goal.returns-then-line-eq0
unfolding fitting_of determinant
returns-then-line-eq0 c =
    let told : of_z w64 c.line_of-line.result.determinant ≡ of_z w64 (determinant (sums_in c.args.t)) =
    ap (λ (l : Line). of_z w64 l.determinant) c.line_of-line.ensures in
    let p = c.requires in
    rw (bits_none _ _ p.n_xx p.x_x (sym told ∙ c.if-line-eq0.true))

pub returns : goal.returns
unfolding fitting_of determinant
returns c =
    let told : of_z w64 c.line_of-line.result.determinant ≡ of_z w64 (determinant (sums_in c.args.t)) =
    ap (λ (l : Line). of_z w64 l.determinant) c.line_of-line.ensures in
    rw (bits_some _ _ (λ e. c.if-line-eq0.false (told ∙ e)), c.line_of-line.ensures)
