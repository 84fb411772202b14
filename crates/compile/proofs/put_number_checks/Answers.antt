-- `compile::put_number_checks` meets its contract: the bit checks, the number times p - 1, the sum. Assumes nothing.
use mathlib.Core.Path.{refl}
use native.Mathlib.Omega.{arith}
use Rattle.rules.specs.Circuit.{step_bytes}
use Rattle.compile.proofs.Puts.{put_on, put_as}
use Rattle.compile.proofs.Columns.{number_checks_is}
use Rattle.compile.proofs.put_number_checks.Goals as goal

pub returns : goal.returns
unfolding step_bytes
returns c =
    let a = c.args in
    put_as (put_on (put_on c.bit_checks-minus.ensures c.put_scale-sum.ensures) c.bit_sum.ensures)
    _ _ _ (omega arith) (number_checks_is a.n a.a a.e a.w) refl
