-- `seeded::messages::write_seeds` meets its contract. The loop's invariant: the messages of the first j other servers stand from
-- `first` (`seeds_next`); the measure is what is left of the servers. Assumes nothing.
use mathlib.Core.Path.{◌≡◌}
use Prim.Native.Nat.{◌≤◌, ◌-◌}
use lib.ListN.{length}
use Rattle.words.specs.Bytes.{splice}
use Rattle.seeded.specs.Pieces.{seed_messages}
use Rattle.seeded.proofs.messages.write_seeds.Given as goal

abbrev pub invariant-loop-j : goal.invariant-loop-j
invariant-loop-j l =
    (l.j ≤ l.others) × (l.out ≡ splice l.initial.out l.first (seed_messages l.seeds l.id l.j)) × (length l.out ≡ length l.initial.out)

abbrev pub decreases-loop-j : goal.decreases-loop-j
decreases-loop-j l = l.others - l.j
