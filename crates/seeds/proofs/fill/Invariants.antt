-- The loop of `seeds::fill`: the buffer holds the stream up to the end of `count` blocks, then what it held; the state differs
-- from the first in its count only.
use Rattle.std.proofs.Common.{◌≡◌, ℕ, ◌*◌, ◌++◌, min, set, drop}
use Rattle.algebra.specs.Lists.{tabulate}
use Rattle.seeds.specs.Filling.{streamed}
use Rattle.seeds.proofs.fill.Given as goal

abbrev pub invariant-loop-count : goal.invariant-loop-count
invariant-loop-count l =
    ((v : ℕ) → set l.s 12 v ≡ set l.initial.s 12 v)
    × (l.out ≡ tabulate (streamed l.initial.s) (min l.n (16 * l.count)) ++ drop (min l.n (16 * l.count)) l.initial.out)
