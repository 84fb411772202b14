-- `walk::sum_from` meets its contract: after some turns acc is the sum of as many members. Assumes nothing.
use Prim.Native.Nat.{◌+◌}
use Rattle.walk.specs.Walks.{members}
use Rattle.walk.proofs.Filling.{Adding}
use Rattle.walk.proofs.sum_from.Given as goal

abbrev pub invariant-loop-v : goal.invariant-loop-v
invariant-loop-v l = Adding (members l.x) l.start (λ i. members l.x (l.first + i)) l.acc l.v-index
