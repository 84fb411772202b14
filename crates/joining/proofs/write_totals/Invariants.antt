-- `joining::write_totals` meets its contract. The loop's invariant: the first k totals are put there (`fill_turn`).
-- Assumes nothing.
use mathlib.Core.Path.{◌≡◌}
use lib.ListN.{length}
use Rattle.words.specs.Bytes.{splice}
use Rattle.totals_message.specs.Totals.{total_at}
use Rattle.joining.proofs.Filling.{first_of}
use Rattle.joining.proofs.write_totals.Given as goal

abbrev pub invariant-loop-k : goal.invariant-loop-k
invariant-loop-k l =
    (l.out ≡ splice l.initial.out 0 (first_of (total_at l.servers l.published l.joined) l.k)) × (length l.out ≡ length l.initial.out)
