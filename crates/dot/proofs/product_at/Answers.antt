-- `dot::product_at`: members are elements, so each is its lower half, and the product of two fits.
use Rattle.std.proofs.Common.{ap₂, arith, ◌*◌}
use Rattle.field.proofs.Below.{member_below, product_members}
use Rattle.dot.proofs.product_at.Goals as goal

pub low_half-requires : goal.low_half-requires
low_half-requires c = member_below _ _ c.requires.2

pub low_half-requires-2 : goal.low_half-requires-2
low_half-requires-2 c = member_below _ _ c.requires.3

pub overflow_mul-result : goal.overflow_mul-result
overflow_mul-result c =
    let most = product_members c.args.a.now c.args.b.now c.args.i c.requires.2 c.requires.3 in
    let e = ap₂ ◌*◌ c.low_half.ensures c.low_half-2.ensures in
    omega (arith, most, e)

pub returns : goal.returns
returns c =
    let most = product_members c.args.a.now c.args.b.now c.args.i c.requires.2 c.requires.3 in
    let e = ap₂ ◌*◌ c.low_half.ensures c.low_half-2.ensures in
    (e, rw e most)
