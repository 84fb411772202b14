-- `walk::weighted_from` meets its contract: after some turns acc is the sum of as many, and power is 2 to their number.
-- Assumes nothing.
use mathlib.Core.Path.{◌≡◌}
use Prim.Native.Nat.{◌+◌, ◌^◌, ◌<◌}
use Rattle.field.specs.Residues.{prime, residues}
use Rattle.walk.specs.Walks.{members}
use Rattle.walk.proofs.Filling.{Adding}
use Rattle.walk.proofs.weighted_from.Given as goal

abbrev pub invariant-loop-v : goal.invariant-loop-v
invariant-loop-v l =
    (l.power < prime) × (l.power ≡ residues.ι (2 ^ l.v-index))
    × Adding (members l.x) l.start (λ i. residues.◌⊗◌ (members l.x (l.first + i)) (residues.ι (2 ^ i))) l.acc l.v-index
