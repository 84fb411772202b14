-- Document 01, "Who can cause which refusal", and document 02, eight returns waiting and small pools stay shut: the tables within
-- the limits and those past them, by rows that compute, each limit on both sides. TableExamples and WaitingExamples have the
-- calls on tables.
-- Assumes nothing.
use Rattle.std.specs.Prelude.{Bool, ◌&&◌, ◌||◌, not, List, [], ◌∷◌, ◌++◌, ℕ, ◌+◌, ◌-◌, eqb, length, get_or, set, take, replicate}
use Rattle.algebra.specs.Lists.{every, count_from}
use Rattle.words.specs.Bytes.{bytes_of, splice}
use Rattle.slots.specs.declared.Slot.{Slot}
use Rattle.slots.specs.Slots.{free_slot}
use Rattle.rules.specs.Table.{Lent, table_sound, drop_table}
use Rattle.rules.specs.Examples.{Row, row, P, σ, opened}

-- the table that server i of two opens for sheet 17 and N = 2, with Q = 1: 27 bytes, eight records, 11 numbers for each
abbrev pub fresh : ℕ → Lent
fresh i = opened i (17 ∷ []) 2

abbrev pub sound : Lent → Bool
sound T = table_sound σ T

-- a table with other bytes, records or numbers
abbrev pub with_bytes : Lent → List ℕ → Lent
with_bytes T t = record { bytes = t; slots = T.slots; elements = T.elements }

abbrev pub with_slots : Lent → List Slot → Lent
with_slots T xs = record { bytes = T.bytes; slots = xs; elements = T.elements }

abbrev pub with_numbers : Lent → List ℕ → Lent
with_numbers T es = record { bytes = T.bytes; slots = T.slots; elements = es }

-- server 0's table with one byte changed, and with so many decided and entered
abbrev changed : ℕ → ℕ → Lent
changed place byte = with_bytes (fresh 0) (set (fresh 0).bytes place byte)

abbrev counted : ℕ → ℕ → Lent → Lent
counted decided entered T = with_bytes T (splice T.bytes 6 (bytes_of 2 decided ++ bytes_of 2 entered))

abbrev pub sized : ℕ → Lent
sized n = with_bytes (fresh 0) (take n (fresh 0).bytes)

-- that table with a record i
abbrev pub slot_at : ℕ → Slot → Lent
slot_at i x = with_slots (fresh 0) (set (fresh 0).slots i x)

-- a record at a stage, with r = 2; with a number in the place of r, s, d or e
abbrev pub waits_at : ℕ → Slot
waits_at stage = record { id = 0; stage = stage; r = 2; s = 0; d = 0; e = 0 }

abbrev fields : ℕ → List Slot
fields v =
    record { id = 0; stage = 1; r = v; s = 0; d = 0; e = 0 }
    ∷ record { id = 0; stage = 1; r = 2; s = v; d = 0; e = 0 }
    ∷ record { id = 0; stage = 1; r = 2; s = 0; d = v; e = 0 }
    ∷ record { id = 0; stage = 2; r = 2; s = 0; d = 0; e = v }
    ∷ []

abbrev field_at : ℕ → ℕ → Lent
field_at k v = slot_at 7 (get_or (fields v) k free_slot)

-- record 7 waits, and number k of its place is v: the nine elements of its share, r h(r) and tau
abbrev number_at : ℕ → ℕ → Lent
number_at k v = with_numbers (slot_at 7 (waits_at 1)) (set (fresh 0).elements (77 + k) v)

-- an id waits in two records
abbrev twice : Lent
twice = with_slots (fresh 0) (waits_at 1 ∷ waits_at 2 ∷ replicate 6 free_slot)

-- "11: a table whose length, stage, counts, sheet, numbers or elements break the limits": each limit on both sides
unfoldable pub limits : List Row
limits =
    row "a fresh table" (sound (fresh 0))
    ∷ row "27 bytes, and more; not 26, nor 13, nor none"
    (eqb (length (fresh 0).bytes) 27
    && (sound (with_bytes (fresh 0) ((fresh 0).bytes ++ (7 ∷ []))) && not (sound (sized 26) || (sound (sized 13) || sound (sized 0)))))
    ∷ row "the table byte is 3, not 2 or 4" (not (sound (changed 0 2) || sound (changed 0 4)))
    ∷ row "closed" (sound (changed 1 1))
    ∷ row "no third stage" (not (sound (changed 1 2)))
    ∷ row "8 servers" (sound (changed 2 8))
    ∷ row "not 1 or 9 servers" (not (sound (changed 2 1) || sound (changed 2 9)))
    ∷ row "own number S - 1" (sound (changed 3 1))
    ∷ row "not own number S" (not (sound (changed 3 2)))
    ∷ row "N = 1" (sound (opened 0 (17 ∷ []) 1))
    ∷ row "N = 1,024" (sound (opened 0 (17 ∷ []) 1024))
    ∷ row "not N = 0" (not (sound (opened 0 (17 ∷ []) 0)))
    ∷ row "not N = 1,025" (not (sound (opened 0 (17 ∷ []) 1025)))
    ∷ row "Q = 1, and Q = N" (sound (changed 10 1) && sound (changed 10 2))
    ∷ row "not Q = 0, nor N + 1, nor 256 more" (not (sound (changed 10 0) || (sound (changed 10 3) || sound (changed 11 1))))
    ∷ row "no sheet with a fault" (not (sound (changed 14 20)))
    ∷ row "no empty sheet" (not (sound (opened 0 [] 2)))
    ∷ row "b = 24: N = 128" (sound (opened 0 (19 ∷ 24 ∷ []) 128))
    ∷ row "b = 24: not N = 129" (not (sound (opened 0 (19 ∷ 24 ∷ []) 129)))
    ∷ row "N decided, all entered" (sound (counted 2 2 (fresh 0)))
    ∷ row "not over N decided" (not (sound (counted 3 0 (fresh 0))))
    ∷ row "not more entered than decided" (not (sound (counted 1 2 (fresh 0))))
    ∷ row "a total p - 1" (sound (with_bytes (fresh 0) (splice (fresh 0).bytes 15 (bytes_of 4 (P - 1)))))
    ∷ row "no total p" (not (sound (with_bytes (fresh 0) (splice (fresh 0).bytes 15 (bytes_of 4 P)))))
    ∷ row "eight records, not seven or nine"
    (eqb (length (fresh 0).slots) 8
    && not (sound (with_slots (fresh 0) (replicate 7 free_slot)) || sound (with_slots (fresh 0) (replicate 9 free_slot))))
    ∷ row "88 numbers, and more; not 87"
    (eqb (length (fresh 0).elements) 88
    && (sound (with_numbers (fresh 0) (replicate 89 0)) && not (sound (with_numbers (fresh 0) (replicate 87 0)))))
    ∷ row "a return waits, in the first record or the last"
    (sound (slot_at 0 (waits_at 1)) && (sound (slot_at 7 (waits_at 1)) && (sound (slot_at 7 (waits_at 2)) && sound (slot_at 7 (waits_at 3)))))
    ∷ row "no record with a stage 4" (not (sound (slot_at 0 (waits_at 4)) || sound (slot_at 7 (waits_at 4))))
    ∷ row "a return waits with N - 1 decided" (sound (counted 1 0 (slot_at 3 (waits_at 2))))
    ∷ row "not with N decided" (not (sound (counted 2 0 (slot_at 3 (waits_at 1))) || sound (counted 2 0 (slot_at 3 (waits_at 3)))))
    ∷ row "not with r = M" (not (sound (field_at 0 1)))
    ∷ row "a free record holds anything" (sound (slot_at 7 (record { id = 9; stage = 0; r = P; s = P; d = P; e = P })))
    ∷ row "and so does its place" (sound (with_numbers (fresh 0) (replicate 88 P)))
    ∷ row "r, s, d or e p - 1" (every (λ k. sound (field_at k (P - 1))) (count_from 0 4))
    ∷ row "none of r, s, d and e p" (every (λ k. not (sound (field_at k P))) (count_from 0 4))
    ∷ row "an element, r h(r) and tau p - 1" (sound (number_at 0 (P - 1)) && (sound (number_at 9 (P - 1)) && sound (number_at 10 (P - 1))))
    ∷ row "no element, r h(r) or tau p"
    (not (sound (number_at 0 P) || (sound (number_at 8 P) || (sound (number_at 9 P) || sound (number_at 10 P)))))
    ∷ row "an id may wait twice" (sound twice)
    ∷ row "then the first record counts"
    (eqb (get_or (drop_table σ twice 0).slots 0 free_slot).stage 0 && eqb (get_or (drop_table σ twice 0).slots 1 free_slot).stage 2)
    ∷ []
