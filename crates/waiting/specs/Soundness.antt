-- The limits of the records and of their numbers, by what the sheet comes to: its multiplications, and the numbers of a place.
-- They are rules' waitingSound at document 01's setting (proofs/Limits).
-- Assumes nothing.
use Rattle.std.specs.Prelude.{Bool, true, ◌&&◌, ◌||◌, List, [], ◌∷◌, ℕ, suc, ◌*◌, ltb, leb, length}
use Rattle.words.specs.Bytes.{part, all_below}
use Rattle.slots.specs.declared.Slot.{Slot}
use Rattle.rules.specs.WaitingList.{stage_entry, is_free}
use Rattle.limits.specs.Sheets.{pair_sound}

unfoldable pub record_sound_at : ℕ → Slot → List ℕ → Bool
record_sound_at gates x ns =
    leb x.stage stage_entry
    && (is_free x
    || (pair_sound gates x.r x.s && (ltb x.d 2147483647 && (ltb x.e 2147483647 && all_below 2147483647 ns))))

-- record k and those behind it, `size` numbers to a place
unfoldable pub records_sound_at : ℕ → ℕ → List ℕ → ℕ → List Slot → Bool
records_sound_at gates size es k [] = true
records_sound_at gates size es k (x ∷ xs) =
    record_sound_at gates x (part (size * k) size es) && records_sound_at gates size es (suc k) xs

-- of eight records
unfoldable pub waiting_sound_at : ℕ → ℕ → List Slot → List ℕ → Bool
waiting_sound_at gates size xs es = leb (size * 8) (length es) && records_sound_at gates size es 0 xs
