-- `compile::points::put_point_checks` meets its contract: the checks of both numbers, then of both products. Assumes nothing.
use mathlib.Core.Path.{refl}
use native.Mathlib.Omega.{arith}
use Rattle.compile.proofs.Puts.{put_on, put_as}
use Rattle.compile.proofs.Columns.{point_checks_is}
use Rattle.compile.proofs.points.put_point_checks.Goals as goal

pub returns : goal.returns
returns c =
    let a = c.args in
    put_as
    (put_on
    (put_on (put_on c.put_number_checks-second.ensures c.put_number_checks-square.ensures) c.put_product_check-product.ensures)
    c.put_product_check.ensures)
    _ _ _ (omega arith) (point_checks_is a.n a.e a.w a.q) refl
