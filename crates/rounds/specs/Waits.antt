-- A return that waits in a record of a sound table: what the functions on it ask for, and its sigma by the numbers of its place.
-- Assumes nothing.
use Rattle.std.specs.Prelude.{◌≡◌, true, false, List, ℕ, ◌+◌, ◌*◌, ◌≤◌, ◌<◌, length, get_or}
use Rattle.words.specs.Bytes.{part, all_below}
use Rattle.slots.specs.declared.Slot.{Slot}
use Rattle.slots.specs.Slots.{free_slot}
use Rattle.field.specs.Residues.{prime, residues, Elements}
use Rattle.rules.specs.Settings.{document01}
use Rattle.rules.specs.Judging.{first_only, sigma_from, share_size}
use Rattle.rules.specs.WaitingList.{is_free, numbers_at}
use Rattle.rules.specs.Table.{Lent, columns_at}
use Rattle.limits.specs.Sheets.{size_of}
use Rattle.layout.specs.Places.{place_size_of}
use Rattle.layout.specs.Numbers.{Limited}
use Rattle.layout.specs.declared.Table.{Table}
use Rattle.waiting.specs.Held.{held_at}
use Rattle.waiting.specs.declared.Waiting.{Waiting}
use Rattle.table.specs.Reading.{Sound}

-- record j of a table, the numbers of its place, and what they say
abbrev pub slot_in : Lent → ℕ → Slot
slot_in T j = get_or T.slots j free_slot

abbrev pub numbers_in : Lent → ℕ → List ℕ
numbers_in T j = numbers_at (columns_at document01 T) T.elements j

abbrev pub held_in : Lent → ℕ → Waiting
held_in T j = held_at (slot_in T j) (numbers_in T j) (share_size (columns_at document01 T))

-- a return waits in record j of the sound table T
pub record Waits (T : Lent) (k : Table) (j : ℕ) : Type 0 where
  pub sound : Sound T k
  pub within : j < 8
  pub not_free : is_free (slot_in T j) ≡ false
  pub r_below : (slot_in T j).r < prime
  pub s_below : (slot_in T j).s < prime
  pub d_below : (slot_in T j).d < prime
  pub e_below : (slot_in T j).e < prime
  pub numbers_below : all_below prime (numbers_in T j) ≡ true

-- the numbers of place j in a run of numbers, and those of them that are the share, by what a table says
abbrev pub place_in : Table → ℕ → List ℕ → List ℕ
place_in k j es = part (place_size_of k.entries k.gates * j) (place_size_of k.entries k.gates) es

abbrev pub share_in : Table → ℕ → List ℕ → List ℕ
share_in k j es = part (place_size_of k.entries k.gates * j) (size_of k.entries k.gates) es

-- place j lies within the run of numbers
pub record InRun (es : List ℕ) (k : Table) (j : ℕ) : Type 0 where
  pub limited : Limited k
  pub within : j < 8
  pub run_long : place_size_of k.entries k.gates * 8 ≤ length es

-- the numbers of a place, and what sigma is worked out from besides, are elements
pub record Sharing (k : Table) (ns : List ℕ) (rh d e : ℕ) : Type 0 where
  pub limited : Limited k
  pub long : size_of k.entries k.gates ≤ length ns
  pub elements : Elements ns
  pub rh_below : rh < prime
  pub d_below : d < prime
  pub e_below : e < prime

-- rules' sigmaIn, by the numbers of a place
unfoldable pub sigma_at : Table → List ℕ → ℕ → ℕ → ℕ → ℕ
sigma_at k ns rh d e =
    let at = k.entries + 3 + (k.gates + k.gates) in
    sigma_from residues (first_only residues k.own) d e (get_or ns at 0) (get_or ns (at + 1) 0) (get_or ns (at + 2) 0) rh
