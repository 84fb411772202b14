-- `elements::read`: one more element is put there (`fill_next`), and at the end all are. Assumes nothing.
use Rattle.std.proofs.Common.{◌*◌, length, sym, ◌∙◌, arith, lit<}
use Rattle.algebra.proofs.Tables.{fill_none, fill_next, fill_all}
use Rattle.words.specs.Bytes.{value_of, part}
use Rattle.words.proofs.Elements.{elements_whole}
use Rattle.elements.proofs.read.Goals as goal

pub loop-k-init : goal.loop-k-init
loop-k-init c = fill_none (λ j. value_of (part (4 * j) 4 c.args.s.now)) c.args.out.now

pub loop-k-preserved : goal.loop-k-preserved
loop-k-preserved c =
    fill_next (λ j. value_of (part (4 * j) 4 c.args.s.now)) c.args.out.now c.loop-k.out c.loop-k.k _ (omega arith)
    c.loop-k.invariant c.read_u32.ensures

pub returns : goal.returns
returns c =
    fill_all (λ j. value_of (part (4 * j) 4 c.args.s.now)) c.args.out.now c.loop-k.out c.loop-k.k
    (omega arith) (omega arith) c.loop-k.invariant
    ∙ sym (elements_whole 4 (lit< tt) c.args.s.now (length c.args.out.now) c.requires)
