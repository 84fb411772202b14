-- `compile::put_choice` meets its contract: the bit checks, then the sum. Assumes nothing.
use mathlib.Core.Path.{refl}
use native.Mathlib.Omega.{arith}
use borrow.Author.Rules.{rules}
use Rattle.compile.proofs.Puts.{put_on, put_as}
use Rattle.compile.proofs.Columns.{choice_is, choice_size}
use Rattle.compile.proofs.put_choice.Goals as goal

pub bit_checks-sum-requires : goal.bit_checks-sum-requires
bit_checks-sum-requires c = let z = choice_size c.args.n in search rules

pub option_sum-requires : goal.option_sum-requires
option_sum-requires c = let z = choice_size c.args.n in search rules

pub returns : goal.returns
returns c =
    let a = c.args in
    put_as (put_on c.bit_checks-sum.ensures c.option_sum.ensures) _ _ _
    (omega (arith, choice_size a.n)) (choice_is a.n a.e a.w) refl
