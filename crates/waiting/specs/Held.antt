-- What a record says, with the numbers of its place, in the numbers of code: rules' waitingAt without the share.
-- Assumes nothing.
use Rattle.std.specs.Prelude.{List, ℕ, ◌+◌, get_or}
use Rattle.slots.specs.declared.Slot.{Slot}
use Rattle.waiting.specs.declared.Waiting.{Waiting}

unfoldable pub held_at : Slot → List ℕ → ℕ → Waiting
held_at x ns size =
    record { id = x.id; r = x.r; s = x.s; d = x.d; e = x.e; rh = get_or ns size 0; tau = get_or ns (size + 1) 0 }
