-- `compile::put_rest` meets its contract: the constant, its sum with the number, the sum of the bits. Assumes nothing.
use mathlib.Core.Path.{refl}
use native.Mathlib.Omega.{arith}
use Rattle.rules.specs.Circuit.{step_bytes}
use Rattle.compile.proofs.Puts.{put_on, put_as}
use Rattle.compile.proofs.Columns.{rest_is}
use Rattle.compile.proofs.put_rest.Goals as goal

pub bit_sum-requires : goal.bit_sum-requires
bit_sum-requires c =
    let e1 = c.put_constant-sum.ensures in
    let e2 = c.put_pair-bits.ensures in
    (omega (arith, c.requires.0, e1.behind, e1.same, e2.behind, e2.same), c.requires.2, omega (arith, c.requires), omega (arith, c.requires))

pub returns : goal.returns
unfolding step_bytes
returns c =
    let a = c.args in
    put_as (put_on (put_on c.put_constant-sum.ensures c.put_pair-bits.ensures) c.bit_sum.ensures)
    _ _ _ (omega arith) (rest_is a.n a.b a.w a.q) refl
