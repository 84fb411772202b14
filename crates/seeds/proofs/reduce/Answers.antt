-- `seeds::reduce`: one more element is put there (`fill_next`), and at the end all are. Assumes nothing.
use Rattle.std.proofs.Common.{get_or, arith}
use Rattle.algebra.proofs.Tables.{fill_none, fill_next, fill_all}
use Rattle.rules.specs.Settings.{document01}
use Rattle.rules.specs.Seeds.{element_of}
use Rattle.seeds.proofs.reduce.Goals as goal

pub loop-j-init : goal.loop-j-init
loop-j-init c = fill_none (λ k. element_of document01 (get_or c.args.x.now k 0)) c.args.out.now

pub loop-j-preserved : goal.loop-j-preserved
loop-j-preserved c =
    fill_next (λ k. element_of document01 (get_or c.args.x.now k 0)) c.args.out.now c.loop-j.out c.loop-j.j _ (omega arith)
    c.loop-j.invariant c.element.ensures

pub returns : goal.returns
returns c =
    fill_all (λ k. element_of document01 (get_or c.args.x.now k 0)) c.args.out.now c.loop-j.out c.loop-j.j
    (omega arith) (omega arith) c.loop-j.invariant
