-- `compile::bit_checks` meets its contract. The loop's invariant: the first i checks are written; the
-- measure is how many are left. Assumes nothing.
use mathlib.Core.Path.{◌≡◌, refl, ap}
use native.Mathlib.Omega.{arith}
use borrow.Author.Rules.{rules}
use Rattle.rules.specs.Circuit.{bit_checks}
use Rattle.compile.proofs.Puts.{put_none, put_on, put_as}
use Rattle.compile.proofs.Runs.{bytes, checks_none, check_next}
use Rattle.compile.proofs.bit_checks.Goals as goal

pub loop-i-init : goal.loop-i-init
loop-i-init c =
    let a = c.args in
    (search rules, put_as (put_none a.out.now a.at (omega arith)) 0 _ _ refl (checks_none a.e a.w) refl)

pub loop-i-preserved : goal.loop-i-preserved
loop-i-preserved c =
    let a = c.args in (
      search rules,
      put_as (put_on c.loop-i.invariant.1 c.bit_check-place.ensures) _ _ _ (omega arith) (check_next c.loop-i.i a.e a.w) refl,
    )

pub returns : goal.returns
returns c =
    let a = c.args in
    let end : a.n ≡ c.loop-i.i = omega arith in
    put_as c.loop-i.invariant.1 _ _ _ (omega arith) (ap (λ k. bytes (bit_checks k a.e a.w)) end) refl
