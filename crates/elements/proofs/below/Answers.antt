-- `elements::below`: one more element is below the bound or not (`below_next`, `below_not`); at the end none is left.
-- Assumes nothing.
use Rattle.std.proofs.Common.{◌≡◌, ◌/◌, length, get_or, sym, ◌∙◌, arith}
use Rattle.words.specs.Bytes.{elements_of}
use Rattle.words.proofs.Elements.{length_elements, element_at_lem}
use Rattle.elements.proofs.Loops.{below_next, below_not, below_end}
use Rattle.elements.proofs.below.Goals as goal
use Rattle.elements.proofs.below.Goals.{then-bound-read_u32, else-bound-read_u32}

pub loop-k-preserved : goal.loop-k-preserved
loop-k-preserved c =
    let xs = elements_of 4 c.args.s.now in
    let k = c.loop-k.k in
    let f = c.loop-k.below in
    let n : length xs ≡ length c.args.s.now / 4 = length_elements 4 c.args.s.now in
    let e : c.read_u32.result ≡ get_or xs k 0 = c.read_u32.ensures ∙ sym (element_at_lem 4 c.args.s.now k c.loop-k-test.true) in
    c.loop-k.invariant
    ∙ elim c.if-bound-read_u32.branch [
      | then-bound-read_u32 w ↦ rw w.below-is (below_not c.args.bound xs k f (omega arith) (rw e at w.if-bound-read_u32.true))
      | else-bound-read_u32 w ↦ rw w.below-is (below_next c.args.bound xs k f (omega arith) (rw e at w.if-bound-read_u32.false))
    ]

pub returns : goal.returns
returns c =
    let xs = elements_of 4 c.args.s.now in
    let n : length xs ≡ length c.args.s.now / 4 = length_elements 4 c.args.s.now in
    sym (c.loop-k.invariant ∙ below_end c.args.bound xs c.loop-k.k c.loop-k.below (omega arith))
