-- `line::line_of` meets its contract: the products are small, so what is stored is read back. Assumes nothing.
use Rattle.rules.specs.Line.{determinant, slope, intercept}
use Rattle.line.proofs.Words.{read_back}
use Rattle.line.proofs.line_of.Goals as goal

pub difference-requires : goal.difference-requires
difference-requires c = let p = c.requires in (p.n_xx, p.x_x)

pub difference-requires-2 : goal.difference-requires-2
difference-requires-2 c = let p = c.requires in (p.n_xy, p.x_y)

pub difference-requires-3 : goal.difference-requires-3
difference-requires-3 c = let p = c.requires in (p.xx_y, p.x_xy)

pub returns : goal.returns
unfolding determinant slope intercept
returns c =
    let p = c.requires in
    let d = read_back _ _ p.n_xx p.x_x c.difference.ensures in
    let s = read_back _ _ p.n_xy p.x_y c.difference-2.ensures in
    let i = read_back _ _ p.xx_y p.x_xy c.difference-3.ensures in
    cc
