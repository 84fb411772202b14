-- `compile::bit_sum` meets its contract. The loop's invariant: the first i bits are added and `weight`
-- is 2 ^ i; the measure is how many are left. Assumes nothing.
use mathlib.Core.Path.{◌≡◌, refl}
use Prim.Native.Nat.{◌+◌, ◌*◌}
use native.Mathlib.Omega.{arith}
use borrow.Author.Rules.{rules}
use Rattle.rules.specs.Circuit.{step_bytes, bit_adds, test}
use Rattle.compile.proofs.Puts.{put_none, put_on, put_as}
use Rattle.compile.proofs.Runs.{bytes_more, weights_none, bit_next, weight_next, weight_most}
use Rattle.compile.proofs.bit_sum.Goals as goal

pub loop-i-init : goal.loop-i-init
loop-i-init c =
    let a = c.args in (
      search rules,
      refl,
      put_as (put_none a.out.now a.at (omega arith)) 0 _ _ refl (weights_none a.w a.q) refl,
    )

pub overflow_add-weight : goal.overflow_add-weight
overflow_add-weight c =
    omega (arith, weight_most c.loop-i.weight c.loop-i.i c.loop-i.invariant.1 (omega arith))

pub loop-i-preserved : goal.loop-i-preserved
unfolding step_bytes
loop-i-preserved c =
    let a = c.args in
    let i = c.loop-i.i in
    let next = bit_next i a.w a.q in (
      search rules,
      weight_next c.loop-i.weight i c.loop-i.invariant.1,
      put_as (put_on (put_on c.loop-i.invariant.2 c.put_scale-sum.ensures) c.put_pair-place.ensures) _ _ _ (omega arith)
          (rw c.loop-i.invariant.1 next) refl,
    )

pub returns : goal.returns
unfolding step_bytes
returns c =
    let a = c.args in
    let end : a.n ≡ c.loop-i.i = omega arith in
    put_as (put_on c.loop-i.invariant.2 c.put_one.ensures) _ _ _ (omega arith)
    (rw end (bytes_more (bit_adds c.loop-i.i a.w a.q) (test (a.q + 2 * c.loop-i.i)))) refl
