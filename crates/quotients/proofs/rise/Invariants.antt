-- `quotients::rise`: where i places are filled acc is the weight of point s + i (`Rising`).
use Rattle.std.proofs.Common.{◌-◌, length}
use Rattle.quotients.proofs.Rising.{Rising}
use Rattle.quotients.proofs.rise.Given as goal

abbrev pub invariant-loop-i : goal.invariant-loop-i
invariant-loop-i l = Rising l.n l.s l.initial.out l.out l.acc l.i

abbrev pub decreases-loop-i : goal.decreases-loop-i
decreases-loop-i l = length l.initial.out - l.i
