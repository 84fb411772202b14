-- `quotients::next_over`: the prime less n - j is - (n - j).
use Rattle.std.proofs.Common.{arith, refl, ap₂, ◌∙◌, suc, ◌-◌}
use Rattle.quotients.proofs.Products.{times, member_is, member_low, negative}
use Rattle.quotients.proofs.next_over.Goals as goal

pub mul-requires : goal.mul-requires
mul-requires c = (omega arith, member_low c.args.inverses.now c.requires.0 c.args.j (omega arith))

pub returns : goal.returns
returns c =
    let a = c.args in
    c.mul.ensures
    ∙ ap₂ times (negative (a.n - a.j) (omega arith)) (member_is a.inverses.now c.requires.0 a.j (suc a.j) (omega arith) refl)
