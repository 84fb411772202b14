-- `dot::inner_wide`: the parts of one turn more, and in the end of all.
use Rattle.std.proofs.Common.{arith}
use Rattle.dot.proofs.Parts.{turn as turn_rest}
use Rattle.dot.proofs.Fours.{start, turn, finish}
use Rattle.dot.proofs.inner_wide.Goals as goal

pub quarters-init : goal.quarters-init
quarters-init c = start _ _ _

pub quarters-preserved : goal.quarters-preserved
quarters-preserved c =
    let p = c.product_at in
    let r = c.product_at-in-quarters in
    let s = c.product_at-in-quarters-2 in
    let t = c.product_at-in-quarters-3 in
    turn _ _ _ p.result r.result s.result t.result c.quarters.invariant
    p.ensures.0 r.ensures.0 s.ensures.0 t.ensures.0 (omega arith)

pub rest-init : goal.rest-init
rest-init c = finish _ _ _ c.quarters.invariant (omega arith)

pub rest-preserved : goal.rest-preserved
rest-preserved c =
    let z = c.product_at-x in
    turn_rest _ _ z.result c.rest.invariant z.ensures.0 (omega arith)
