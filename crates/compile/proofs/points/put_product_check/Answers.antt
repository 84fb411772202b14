-- `compile::points::put_product_check` meets its contract: the product, the third wire times p - 1, their sum, its test.
-- Assumes nothing.
use mathlib.Core.Path.{refl}
use Rattle.rules.specs.Circuit.{step_bytes}
use Rattle.compile.proofs.Puts.{put_on, put_as}
use Rattle.compile.proofs.Columns.{product_check_is}
use Rattle.compile.proofs.points.put_product_check.Goals as goal

pub returns : goal.returns
unfolding step_bytes
returns c =
    let a = c.args in
    put_as
    (put_on (put_on (put_on c.put_pair-minus.ensures c.put_scale-sum.ensures) c.put_pair-test.ensures) c.put_one.ensures)
    _ _ _ refl (product_check_is a.a a.b a.c a.w) refl
