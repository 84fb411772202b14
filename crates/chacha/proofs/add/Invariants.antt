-- The loop of `chacha::add`: the first i words of `out` are the sums, the others what they were.
use Rattle.std.proofs.Common.{◌≡◌, ◌++◌, length, get_or, drop}
use Rattle.algebra.specs.Lists.{tabulate}
use Rattle.chacha.specs.Words.{plus}
use Rattle.chacha.proofs.add.Given as goal

abbrev pub invariant-loop-i : goal.invariant-loop-i
invariant-loop-i l =
    (l.out ≡ tabulate (λ j. plus (get_or l.s j 0) (get_or l.t j 0)) l.i ++ drop l.i l.initial.out)
    × (length l.out ≡ length l.initial.out)
