-- The loop of `steps::sum_words`: `sum` is the sum of the first i words.
use Rattle.std.proofs.Common.{◌≡◌}
use Rattle.steps.specs.Words.{sum_of}
use Rattle.steps.proofs.sum_words.Given as goal

abbrev pub invariant-loop-i : goal.invariant-loop-i
invariant-loop-i l = l.sum ≡ sum_of l.s l.step l.at l.i
