-- `walk::copy` meets its contract: its loop fills the buffer by the rule of its members. Assumes nothing.
use Prim.Native.Nat.{◌+◌}
use Rattle.walk.specs.Walks.{members}
use Rattle.walk.proofs.Filling.{Filling}
use Rattle.walk.proofs.copy.Given as goal

abbrev pub invariant-loop-i : goal.invariant-loop-i
invariant-loop-i l = Filling (λ i. members l.x (l.first + i)) l.initial.out l.out l.i
