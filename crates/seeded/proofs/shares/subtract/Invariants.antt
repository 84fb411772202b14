-- `seeded::shares::subtract` meets its contract. The loop's invariant: the first e members are lessened. Assumes nothing.
use Rattle.whole.proofs.Changing.{Changed}
use Rattle.seeded.proofs.Sums.{minus_at}
use Rattle.seeded.proofs.shares.subtract.Given as goal

abbrev pub invariant-loop-e : goal.invariant-loop-e
invariant-loop-e l = Changed (minus_at l.initial.w l.x) l.initial.w l.w l.e
