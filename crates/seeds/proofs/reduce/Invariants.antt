-- The loop of `seeds::reduce`: the first j places of `out` hold the elements, the others what they held.
use Rattle.std.proofs.Common.{◌≡◌, ◌++◌, get_or, drop}
use Rattle.algebra.specs.Lists.{tabulate}
use Rattle.rules.specs.Settings.{document01}
use Rattle.rules.specs.Seeds.{element_of}
use Rattle.seeds.proofs.reduce.Given as goal

abbrev pub invariant-loop-j : goal.invariant-loop-j
invariant-loop-j l = l.out ≡ tabulate (λ k. element_of document01 (get_or l.x k 0)) l.j ++ drop l.j l.initial.out
