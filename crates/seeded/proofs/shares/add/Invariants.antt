-- `seeded::shares::add` meets its contract. The loop's invariant: the first e members are added to. Assumes nothing.
use Rattle.whole.proofs.Changing.{Changed}
use Rattle.seeded.proofs.Sums.{plus_at}
use Rattle.seeded.proofs.shares.add.Given as goal

abbrev pub invariant-loop-e : goal.invariant-loop-e
invariant-loop-e l = Changed (plus_at l.initial.sum l.x) l.initial.sum l.sum l.e
