-- `seeded::shares::sum_seeds` meets its contract. The loop's invariant: the sums of the first i seeds (`sums_next`). Assumes nothing.
use mathlib.Core.Path.{◌≡◌}
use lib.ListN.{length}
use Rattle.seeded.specs.Pieces.{seed_sums}
use Rattle.seeded.proofs.shares.sum_seeds.Given as goal

abbrev pub invariant-loop-i : goal.invariant-loop-i
invariant-loop-i l = l.sum ≡ seed_sums l.seeds l.id (length l.initial.sum) l.i
