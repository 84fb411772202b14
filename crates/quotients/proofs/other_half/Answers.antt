-- `quotients::other_half`: the halves of an odd number differ by 1.
use Rattle.std.proofs.Common.{arith, ap₂, ◌∙◌, ◌-◌, ◌/◌}
use Rattle.quotients.proofs.Products.{times, member_is, member_low, over_next, over_low, odd_halves}
use Rattle.quotients.proofs.other_half.Goals as goal

pub mul-requires : goal.mul-requires
mul-requires c =
    let n = c.args.n in
    (over_low (n / 2) c.requires.2, member_low c.args.inverses.now c.requires.0 (n / 2) (omega arith))

pub returns-else-n-eq0 : goal.returns-else-n-eq0
returns-else-n-eq0 c =
    let n = c.args.n in
    let e = odd_halves n c.if-n-eq0.false in
    let m = member_is c.args.inverses.now c.requires.0 (n / 2) (n - n / 2) (omega arith) e in
    c.mul.ensures ∙ ap₂ times c.requires.2 m ∙ over_next (n / 2) (n - n / 2) e
