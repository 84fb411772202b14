-- `compile::put_number` meets its contract: the entry, then the checks. Assumes nothing.
use mathlib.Core.Path.{refl}
use native.Mathlib.Omega.{arith}
use borrow.Author.Rules.{rules}
use Rattle.rules.specs.Circuit.{step_bytes}
use Rattle.compile.proofs.Puts.{put_on, put_as}
use Rattle.compile.proofs.Columns.{number_is, number_size}
use Rattle.compile.proofs.put_number.Goals as goal

pub put_one-checks-requires : goal.put_one-checks-requires
put_one-checks-requires c = let z = number_size c.args.n in search rules

pub put_number_checks-requires : goal.put_number_checks-requires
put_number_checks-requires c =
    let z = number_size c.args.n in
    search rules

pub returns : goal.returns
unfolding step_bytes
returns c =
    let a = c.args in
    put_as (put_on c.put_one-checks.ensures c.put_number_checks.ensures) _ _ _
    (omega (arith, number_size a.n)) (number_is a.n a.e a.w) refl
