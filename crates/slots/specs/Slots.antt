-- The waiting list as a list of records: what is read of a lent slice, and what a call leaves in it.
-- Assumes nothing.
use Rattle.std.specs.Prelude.{ℕ, cond, List, length, set, replicate, eqb, Option, Some, None}
use Rattle.slots.specs.declared.Slot.{Slot}
use Rattle.slots.specs.declared.Change.{Change}

-- a record in which nothing waits
abbrev pub free_slot : Slot
free_slot = record { id = 0; stage = 0; r = 0; s = 0; d = 0; e = 0 }

-- a record of a stage that no rule knows
abbrev pub broken_slot : Slot
broken_slot = record { id = 0; stage = 255; r = 0; s = 0; d = 0; e = 0 }

-- the records that the rules work on: those lent where they are eight, else eight broken ones
unfoldable pub eight_of : List Slot → List Slot
eight_of ys = cond (eqb (length ys) 8) ys (replicate 8 broken_slot)

-- the list after a call: one record anew, or as it was where the call is refused
abbrev pub applied : List Slot → Option Change → List Slot
applied ys None = ys
applied ys (Some change) = set ys change.at change.slot

-- the list after opening: eight free records, or as it was where opening is refused
unfoldable pub cleared : List Slot → ℕ → List Slot
cleared ys refusal = cond (eqb refusal 0) (replicate 8 free_slot) ys
