-- `chacha::load`: one more word is put there (`copy_next`), and at the end all are. Assumes nothing.
use Rattle.std.proofs.Common.{◌≡◌, ◌/◌, length, get_or, sym, refl, ap, ◌∙◌, arith, length-set, take_all}
use Rattle.words.specs.Bytes.{splice, elements_of}
use Rattle.words.proofs.Elements.{length_elements, element_at_lem}
use Rattle.words.proofs.Loops.{copy_none, copy_next}
use Rattle.chacha.proofs.load.Goals as goal

pub loop-i-init : goal.loop-i-init
loop-i-init c = (copy_none c.args.s.now c.args.at (elements_of 4 c.args.b.now), refl)

pub loop-i-preserved : goal.loop-i-preserved
loop-i-preserved c =
    let ws = elements_of 4 c.args.b.now in
    let i = c.loop-i.i in
    let n : length ws ≡ length c.args.b.now / 4 = length_elements 4 c.args.b.now in
    let e : c.read_u32.result ≡ get_or ws i 0
    = c.read_u32.ensures ∙ sym (element_at_lem 4 c.args.b.now i (omega arith)) in (
      rw (e, c.loop-i.invariant.0) (copy_next c.args.s.now c.args.at ws i (omega arith) (omega arith)),
      simp length-set (omega arith),
    )

pub returns : goal.returns
returns c =
    let ws = elements_of 4 c.args.b.now in
    let n : length ws ≡ length c.args.b.now / 4 = length_elements 4 c.args.b.now in
    c.loop-i.invariant.0 ∙ ap (splice c.args.s.now c.args.at) (take_all c.loop-i.i ws (omega arith))
