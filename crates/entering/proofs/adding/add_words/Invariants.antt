-- `entering::adding::add_words` meets its contract. The loop's invariant: the first i sums are put there. Assumes nothing.
use mathlib.Core.Path.{◌≡◌}
use lib.ListN.{length}
use Rattle.algebra.specs.Lists.{tabulate}
use Rattle.words.specs.Bytes.{bytes_of_all, splice}
use Rattle.entering.specs.Totals.{words_added}
use Rattle.entering.proofs.adding.add_words.Given as goal

abbrev pub invariant-loop-i : goal.invariant-loop-i
invariant-loop-i l = record {
  filled : l.t ≡ splice l.initial.t l.to (bytes_of_all 4 (tabulate (words_added l.initial.t l.to l.xs l.from) l.i));
  same : length l.t ≡ length l.initial.t;
}
