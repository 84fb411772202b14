-- `compile::bit_check` meets its contract: one step after the other. Assumes nothing.
use mathlib.Core.Path.{refl}
use native.Mathlib.Omega.{arith}
use Rattle.rules.specs.Circuit.{step_bytes}
use Rattle.compile.proofs.Puts.{put_on, put_as}
use Rattle.compile.proofs.Runs.{check_is}
use Rattle.compile.proofs.bit_check.Goals as goal

pub put_pair-product-requires : goal.put_pair-product-requires
put_pair-product-requires c = omega (arith, c.put_one-sum.ensures)

pub put_pair-test-requires : goal.put_pair-test-requires
put_pair-test-requires c =
    omega (arith, c.put_pair-product.ensures, c.put_one-sum.ensures)

pub put_one-requires : goal.put_one-requires
put_one-requires c =
    omega (arith, c.put_pair-test.ensures, c.put_pair-product.ensures, c.put_one-sum.ensures)

pub returns : goal.returns
unfolding step_bytes
returns c =
    let a = c.args in
    put_as
    (put_on (put_on (put_on c.put_one-sum.ensures c.put_pair-product.ensures) c.put_pair-test.ensures) c.put_one.ensures)
    16 _ _ refl (check_is a.e a.w) refl
