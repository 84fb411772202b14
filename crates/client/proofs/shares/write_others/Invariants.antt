-- `client::shares::write_others` meets its contract. The loop's invariant: the messages of the first j other servers stand
-- behind that of server 0 (`others_next`); the measure is what is left of the servers. Assumes nothing.
use mathlib.Core.Path.{◌≡◌}
use Prim.Native.Nat.{◌≤◌, ◌-◌}
use lib.ListN.{length}
use Rattle.words.specs.Bytes.{splice}
use Rattle.client.specs.Pieces.{message_bytes, other_messages}
use Rattle.client.proofs.shares.write_others.Given as goal

abbrev pub invariant-loop-j : goal.invariant-loop-j
invariant-loop-j l =
    (l.j ≤ l.others) × (l.out ≡ splice l.initial.out (message_bytes l.size) (other_messages l.random l.size l.id l.j)) × (length l.out ≡ length l.initial.out)

abbrev pub decreases-loop-j : goal.decreases-loop-j
decreases-loop-j l = l.others - l.j
