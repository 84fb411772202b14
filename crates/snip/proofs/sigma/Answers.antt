-- `snip::sigma` meets its contract: its steps are those of the definition. Assumes nothing.
use native.Mathlib.Omega.{arith}
use Rattle.rules.specs.Judging.{sigma_from}
use Rattle.snip.proofs.Numbers.{first_below}
use Rattle.snip.proofs.sigma.Goals as goal

pub mul-requires-3 : goal.mul-requires-3
mul-requires-3 c =
    let k = c.first_only in
    omega (arith, k.ensures, first_below c.args.own, c.mul-2.ensures)

pub returns : goal.returns
unfolding sigma_from
returns c =
    rw (
      c.add.ensures,
      c.mul-3.ensures,
      c.mul-2.ensures,
      c.first_only.ensures,
      c.sub.ensures,
      c.add-shared.ensures,
      c.mul_add.ensures,
      c.mul.ensures,
    )
