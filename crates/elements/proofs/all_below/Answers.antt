-- `elements::all_below`: one more number is below the bound or not (`below_next`, `below_not`); at the end none is left.
-- Assumes nothing.
use Rattle.std.proofs.Common.{sym, ◌∙◌}
use Rattle.elements.proofs.Loops.{below_next, below_not, below_end}
use Rattle.elements.proofs.all_below.Goals as goal
use Rattle.elements.proofs.all_below.Goals.{then-bound-x, else-bound-x}

pub loop-x-preserved : goal.loop-x-preserved
loop-x-preserved c =
    let h = c.loop-x-test.true in
    c.loop-x.invariant
    ∙ elim c.if-bound-x.branch [
      | then-bound-x w ↦ rw w.below-is (below_not c.args.bound c.args.xs.now c.loop-x.x-index c.loop-x.below h w.if-bound-x.true)
      | else-bound-x w ↦ rw w.below-is (below_next c.args.bound c.args.xs.now c.loop-x.x-index c.loop-x.below h w.if-bound-x.false)
    ]

pub returns : goal.returns
returns c = sym (c.loop-x.invariant ∙ below_end c.args.bound c.args.xs.now _ c.loop-x.below c.loop-x-test.false)
