-- `dot::inner`: the parts of one more product, and in the end of all.
use Rattle.std.proofs.Common.{arith, ap₂, ◌∙◌, ◌*◌, length-append}
use Rattle.std.proofs.lemmas.Slice.Zip.{zip_turn}
use Rattle.dot.proofs.Parts.{start, turn}
use Rattle.dot.proofs.inner.Goals as goal

pub loop-x-init : goal.loop-x-init
loop-x-init c = start _ _

pub loop-x-preserved : goal.loop-x-preserved
loop-x-preserved c =
    let p = c.in-Some in
    let l = c.loop-x in
    let at = zip_turn c.args.a.now c.args.b.now l.yielded _ l.x-iterator c.next.new.self c.next.result (cc) (cc) l.yielded_by
    (p.x, p.y) p.is c.next.ensures.steps in
    rw length-append
    (turn _ _ c.product-z.result l.invariant (c.product-z.ensures ∙ ap₂ ◌*◌ (at.2 0) (at.3 0)) (omega (arith, at.0)))
