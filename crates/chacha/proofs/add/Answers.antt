-- `chacha::add`: one more sum is put there (`fill_next`), and at the end all are. Assumes nothing.
use Rattle.std.proofs.Common.{get_or, refl, ap, ◌∙◌, arith, length-set}
use Rattle.algebra.specs.Lists.{tabulate}
use Rattle.algebra.proofs.Tables.{fill_none, fill_next, fill_all}
use Rattle.chacha.specs.Words.{plus}
use Rattle.chacha.specs.ChaCha.{sums}
use Rattle.chacha.proofs.add.Goals as goal

pub loop-i-init : goal.loop-i-init
loop-i-init c = (fill_none (λ j. plus (get_or c.args.s.now j 0) (get_or c.args.t.now j 0)) c.args.out.now, refl)

pub loop-i-preserved : goal.loop-i-preserved
unfolding plus
loop-i-preserved c = (
  fill_next (λ j. plus (get_or c.args.s.now j 0) (get_or c.args.t.now j 0)) c.args.out.now c.loop-i.out
      c.loop-i.i _ (omega arith) c.loop-i.invariant.0 refl,
  simp length-set (omega arith),
)

pub returns : goal.returns
unfolding sums
returns c =
    fill_all (λ j. plus (get_or c.args.s.now j 0) (get_or c.args.t.now j 0)) c.args.out.now c.loop-i.out
    c.loop-i.i (omega arith) (omega arith) c.loop-i.invariant.0
    ∙ ap (tabulate (λ j. plus (get_or c.args.s.now j 0) (get_or c.args.t.now j 0))) (omega arith)
