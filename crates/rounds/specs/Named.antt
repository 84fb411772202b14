-- The return that a call names: the record that waits under the id, where the table is sound and open and the stage of the record
-- is the one that the call takes.
-- Assumes nothing.
use Rattle.std.specs.Prelude.{Bool, cond, ◌&&◌, ℕ, eqb, ltb, length}
use Rattle.records.specs.Outcome.{Outcome, ok, refused}
use Rattle.rules.specs.Settings.{document01}
use Rattle.rules.specs.WaitingList.{place_of}
use Rattle.rules.specs.Table.{Lent, stage_open, stage_byte, table_sound}
use Rattle.layout.specs.Numbers.{table_of}
use Rattle.rounds.specs.Waits.{slot_in, held_in}
use Rattle.rounds.specs.declared.named.Named.{Named}

-- a return waits under the id in the stage
unfoldable pub waits_as : Lent → ℕ → ℕ → Bool
waits_as T id stage =
    eqb (stage_byte document01 T.bytes) stage_open
    && (ltb (place_of id T.slots) (length T.slots) && eqb (slot_in T (place_of id T.slots)).stage stage)

unfoldable pub named_in : Lent → ℕ → ℕ → Outcome Named
named_in T id stage =
    let j = place_of id T.slots in
    cond (table_sound document01 T && waits_as T id stage)
    (ok (record { table = table_of T.bytes; at = j; waiting = held_in T j }))
    (refused 11)
