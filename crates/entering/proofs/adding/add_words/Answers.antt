-- `entering::adding::add_words` meets its contract: the sums begin with none (`run_none`), and a turn puts the next one there
-- (`words_turn`). Assumes nothing.
use mathlib.Core.Path.{refl}
use Rattle.entering.specs.Totals.{words_added}
use Rattle.entering.proofs.AddedWords.{run_none, words_below, words_turn}
use borrow.Author.Rules.{rules}
use Rattle.entering.proofs.adding.add_words.Goals as goal

pub loop-i-init : goal.loop-i-init
loop-i-init c =
    let a = c.args in
    record { filled = run_none (words_added a.t.now a.to a.xs.now a.from) a.t.now a.to; same = refl }

pub add-sum-requires : goal.add-sum-requires
add-sum-requires c =
    words_below c.args.t.now c.args.to c.args.xs.now c.args.from c.args.n c.loop-i.i c.requires
    c.loop-i-test.true c.loop-i.t c.loop-i.invariant.filled _ c.read_u32.ensures

pub loop-i-preserved : goal.loop-i-preserved
loop-i-preserved c = record {
  filled =
      cc (words_turn c.args.t.now c.args.to c.args.xs.now c.args.from c.args.n c.loop-i.i c.requires
      c.loop-i-test.true c.loop-i.t c.loop-i.invariant.filled _ _ c.read_u32.ensures c.add-sum.ensures);
  same = search rules;
}
