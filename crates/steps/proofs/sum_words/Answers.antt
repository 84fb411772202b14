-- `steps::sum_words`: one more word is in the sum, and at the end all are. Assumes nothing.
use Rattle.std.proofs.Common.{◌≡◌, ◌∙◌, ap, arith}
use Rattle.steps.specs.Words.{sum_of}
use Rattle.steps.proofs.Words.{sum_none, sum_next, sum_element}
use Rattle.steps.proofs.sum_words.Goals as goal

pub loop-i-init : goal.loop-i-init
loop-i-init c = sum_none c.args.s.now c.args.step c.args.at

pub read_u32-requires : goal.read_u32-requires
read_u32-requires c = c.requires.within c.loop-i.i c.loop-i-test.true

pub add-sum-requires : goal.add-sum-requires
add-sum-requires c = (
  rw c.loop-i.invariant (sum_element c.args.s.now c.args.step c.args.at c.loop-i.i),
  rw c.read_u32.ensures (c.requires.below c.loop-i.i c.loop-i-test.true),
)

pub loop-i-preserved : goal.loop-i-preserved
loop-i-preserved c = cc (sum_next c.args.s.now c.args.step c.args.at c.loop-i.i)

pub returns : goal.returns
returns c =
    let e : c.loop-i.i ≡ c.args.n = omega arith in
    c.loop-i.invariant ∙ ap (sum_of c.args.s.now c.args.step c.args.at) e
