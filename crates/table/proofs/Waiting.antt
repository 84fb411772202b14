-- What a sound table gives to what is done with a return that waits: the numbers of its place, what its record keeps to, and
-- room for its id among those decided, since it is one of those that wait. Assumes nothing.
use mathlib.Core.Path.{◌≡◌, refl}
use mathlib.Core.Bool.{true, false}
use mathlib.Core.List.{List}
use Prim.Native.Nat.{ℕ, ◌*◌, ◌≤◌, ◌<◌}
use native.Mathlib.Nat.{zero-add}
use native.Mathlib.Omega.{arith}
use lib.ListN.{length, get_or}
use Rattle.words.specs.Bytes.{part}
use Rattle.slots.specs.Slots.{free_slot}
use Rattle.rules.specs.Settings.{document01}
use Rattle.rules.specs.Judging.{share_size}
use Rattle.rules.specs.WaitingList.{is_free, place_size, numbers_at, record_sound}
use Rattle.rules.specs.Table.{Lent, columns_at}
use Rattle.rules.proofs.Waiting.Records.{record_at, stage_most, WaitsSoundly, waits_soundly}
use Rattle.layout.specs.Places.{place_size_of}
use Rattle.layout.specs.Numbers.{table_of}
use Rattle.layout.specs.Writing.{Decidable}
use Rattle.layout.specs.declared.Table.{Table}
use Rattle.waiting.proofs.Places.{waiting_some}
use Rattle.table.specs.Reading.{Sound}
use Rattle.table.proofs.Answers.{run}

module _ (T : Lent) (k : Table) (s : Sound T k) where
  -- the size of a place, and its numbers
  pub size_is : place_size_of k.entries k.gates ≡ place_size (columns_at document01 T)
  unfolding table_of share_size
  size_is = rw s.says

  pub numbers_are : (j : ℕ)
      → part (place_size_of k.entries k.gates * j) (place_size_of k.entries k.gates) T.elements
      ≡ numbers_at (columns_at document01 T) T.elements j
  numbers_are j = rw size_is refl

  -- the record at place j, and what is known where it is not free
  record_sound_lem : (j : ℕ) → j < 8
      → record_sound document01 (columns_at document01 T) (get_or T.slots j free_slot) (numbers_at (columns_at document01 T) T.elements j)
      ≡ true
  record_sound_lem j h =
      rw zero-add at (record_at document01 (columns_at document01 T) T.elements 0 T.slots (run T s.is_sound).2 j
      (omega (arith, s.eight)))

  pub stage_at_lem : (j : ℕ) → j < 8 → (get_or T.slots j free_slot).stage ≤ 3
  stage_at_lem j h = stage_most document01 (columns_at document01 T) _ _ (record_sound_lem j h)

  module _ (j : ℕ) (h : j < 8) (taken : is_free (get_or T.slots j free_slot) ≡ false) where
    pub waits_at_lem : WaitsSoundly document01 (columns_at document01 T) (get_or T.slots j free_slot)
        (numbers_at (columns_at document01 T) T.elements j)
    waits_at_lem = waits_soundly document01 (columns_at document01 T) _ _ (record_sound_lem j h) taken

    -- it can be decided, in bytes of the same length
    pub decidable : (t : List ℕ) → length t ≡ length T.bytes → Decidable t k
    decidable t l =
        record {
          limited = s.limited;
          ids_long = omega (arith, s.long);
          some_room = omega (arith, s.decided_few, waiting_some T.slots j (omega (arith, s.eight)) taken);
          entered_few = s.entered_few;
        }
