-- `compile::option_sum` meets its contract. The loop's invariant: the first i additions are written and
-- `sum` is the last sum's wire; the measure is how many are left. Assumes nothing.
use mathlib.Core.Path.{◌≡◌, refl}
use native.Mathlib.Omega.{arith}
use borrow.Author.Rules.{rules}
use Rattle.rules.specs.Circuit.{step_bytes, option_adds, option_sum, test}
use Rattle.compile.proofs.Puts.{put_none, put_on, put_as}
use Rattle.compile.proofs.Runs.{bytes_more, options_none, option_next, sum_none, sum_next}
use Rattle.compile.proofs.option_sum.Goals as goal

pub loop-i-init : goal.loop-i-init
loop-i-init c =
    let a = c.args in (
      search rules,
      sum_none a.q,
      put_as (put_none a.out.now a.at (omega arith)) 0 _ _ refl (options_none a.w a.q) refl,
    )

pub loop-i-preserved : goal.loop-i-preserved
unfolding step_bytes
loop-i-preserved c =
    let a = c.args in
    let i = c.loop-i.i in
    let next = option_next i a.w a.q in (
      search rules,
      sum_next a.q i,
      put_as (put_on c.loop-i.invariant.2 c.put_pair-place.ensures) _ _ _ (omega arith) (rw c.loop-i.invariant.1 next) refl,
    )

pub returns : goal.returns
unfolding step_bytes
returns c =
    let a = c.args in
    let end : a.n ≡ c.loop-i.i = omega arith in
    put_as (put_on c.loop-i.invariant.2 c.put_one.ensures) _ _ _ (omega arith)
    (rw (c.loop-i.invariant.1, end) (bytes_more (option_adds c.loop-i.i a.w a.q) (test (option_sum a.q c.loop-i.i)))) refl
