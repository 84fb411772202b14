-- `words::copy`: one more byte is put there (`copy_next`), and at the end all are. Assumes nothing.
use Rattle.std.proofs.Common.{arith, take_all, ap, ◌∙◌, List, ℕ, ◌+◌, get_or}
use lib.ListN.{set}
use Rattle.words.proofs.Loops.{copy_none, copy_next}
use Rattle.words.proofs.copy.Goals as goal

pub loop-i-init : goal.loop-i-init
loop-i-init c = copy_none c.args.s.now c.args.at c.args.from.now

pub loop-i-preserved : goal.loop-i-preserved
loop-i-preserved c =
    ap (λ (t : List ℕ). set t (c.args.at + c.loop-i.i) (get_or c.args.from.now c.loop-i.i 0)) c.loop-i.invariant
    ∙ copy_next c.args.s.now c.args.at c.args.from.now c.loop-i.i c.requires (omega arith)

pub returns : goal.returns
returns c = cc (take_all c.loop-i.i c.args.from.now c.loop-i-test.false)
