-- The loop of `elements::read`: the first k places of `out` hold the elements up to k, the others what they held.
use Rattle.std.proofs.Common.{◌≡◌, ◌*◌, ◌++◌, drop}
use Rattle.algebra.specs.Lists.{tabulate}
use Rattle.words.specs.Bytes.{value_of, part}
use Rattle.elements.proofs.read.Given as goal

abbrev pub invariant-loop-k : goal.invariant-loop-k
invariant-loop-k l =
    l.out ≡ tabulate (λ j. value_of (part (4 * j) 4 l.s)) l.k ++ drop l.k l.initial.out
