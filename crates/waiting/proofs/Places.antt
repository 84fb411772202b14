-- The records from place i on, as a loop over them goes: the record at i, then those behind it. The place of the first record
-- for which a test holds, the number that wait and the limits each take one step there. Assumes nothing.
use mathlib.Core.Path.{◌≡◌, refl, sym, ap, ◌∙◌}
use mathlib.Core.Bool.{Bool, true, false, not, cond, ◌&&◌}
use mathlib.Core.List.{List, [], ◌∷◌}
use Prim.Native.Nat.{ℕ, zero, suc, ◌+◌, ◌*◌, ◌≤◌, ◌<◌}
use native.Mathlib.Nat.{mul-le-mul_left}
use native.Mathlib.Nat.{zero-add}
use native.Mathlib.Numerals.{add-one, one-add}
use native.Mathlib.Omega.{arith}
use borrow.Author.Tests.{le-leb, lt-leb, ltb-true, ltb-false}
use lib.Dec.{ltb}
use lib.ListN.{length, get_or, drop, drop_of_length-le}
use lib.Seq.{drop-cons}
use Rattle.std.specs.Prelude.{Option, None, Some, position, count_by}
use Rattle.std.specs.List.{position_or_len}
use Rattle.std.proofs.lemmas.List.Recursion.{is_position_or_len, is_count_by}
use Rattle.std.proofs.lemmas.List.Sums.{prefix_len-le-length}
use Rattle.words.specs.Bytes.{part}
use Rattle.slots.specs.declared.Slot.{Slot}
use Rattle.slots.specs.Slots.{free_slot}
use Rattle.rules.specs.WaitingList.{is_free, first_where, waiting_count}
use Rattle.waiting.specs.Stages.{place_in}
use Rattle.waiting.specs.Soundness.{record_sound_at, records_sound_at, waiting_sound_at}

behind : (xs : List Slot) (i : ℕ) (d : Slot) → i < length xs → drop i xs ≡ get_or xs i d ∷ drop (i + 1) xs
behind xs i d h = rw (add-one, drop-cons xs i d)

-- ---- the first of eight records for which t holds, as a position
first_as_position : (t : Slot → Bool) (xs : List Slot) → first_where t xs ≡ position_or_len t xs
unfolding first_where
first_as_position t xs = is_position_or_len (first_where t) t refl (λ x ys. rw one-add refl) xs

place_at : (n : ℕ) (b : Bool) → ltb n 8 ≡ b → n ≤ 8 → place_in (cond b (Some n) None) ≡ n
place_at n true e h = refl
place_at n false e h = omega (arith, ltb-false n 8 e)

pub place_is : (r : Option ℕ) (t : Slot → Bool) (xs : List Slot) → r ≡ position t xs → length xs ≡ 8 → place_in r ≡ first_where t xs
place_is r t xs e h =
    let most : position_or_len t xs ≤ 8 = rw h at (prefix_len-le-length (λ x. not (t x)) xs) in
    rw (e, h, first_as_position t xs) (place_at (position_or_len t xs) _ refl most)

-- ---- how many wait
pub count_is : (n : ℕ) (xs : List Slot) → n ≡ count_by (λ x. not (is_free x)) xs → n ≡ waiting_count xs
unfolding waiting_count
count_is n xs e = e ∙ sym (is_count_by waiting_count (λ x. not (is_free x)) refl (λ x ys. one_more (is_free x) (waiting_count ys)) xs)
  where
    one_more : (b : Bool) (n : ℕ) → cond b 0 1 + n ≡ cond (not b) (1 + n) n
    one_more true n = zero-add n
    one_more false n = refl

-- one waits where a record is not free
pub waiting_some : (xs : List Slot) (j : ℕ) → j < length xs → is_free (get_or xs j free_slot) ≡ false → 1 ≤ waiting_count xs
unfolding waiting_count
waiting_some [] j h e = absurd (omega arith)
waiting_some (x ∷ xs) zero h e = rw e (omega arith)
waiting_some (x ∷ xs) (suc j) h e = let w : 1 ≤ waiting_count xs = waiting_some xs j (omega arith) e in omega arith

-- ---- the limits of the records from i on
module _ (gates size : ℕ) (es : List ℕ) (xs : List Slot) (i : ℕ) where
  sound_one : (d : Slot) → i < length xs
      → records_sound_at gates size es i (drop i xs)
      ≡ record_sound_at gates (get_or xs i d) (part (size * i) size es) && records_sound_at gates size es (i + 1) (drop (i + 1) xs)
  unfolding records_sound_at
  sound_one d h = rw (behind xs i d h, add-one)

  pub sound_next : (d : Slot) → i < length xs → record_sound_at gates (get_or xs i d) (part (size * i) size es) ≡ true
      → records_sound_at gates size es i (drop i xs) ≡ records_sound_at gates size es (i + 1) (drop (i + 1) xs)
  sound_next d h e = sound_one d h ∙ rw e

  pub sound_not : (d : Slot) → i < length xs → record_sound_at gates (get_or xs i d) (part (size * i) size es) ≡ false
      → records_sound_at gates size es i (drop i xs) ≡ false
  sound_not d h e = sound_one d h ∙ rw e

  pub sound_end : length xs ≤ i → records_sound_at gates size es i (drop i xs) ≡ true
  unfolding records_sound_at
  sound_end h = ap (records_sound_at gates size es i) (drop_of_length-le xs h)

-- ---- the numbers of a place lie within a run that has room for eight places
pub place_within : (size i : ℕ) → i < 8 → size * i + size ≤ size * 8
place_within size i h = let m : size * (i + 1) ≤ size * 8 = mul-le-mul_left size (omega arith) in omega arith

-- a place that starts before the eighth ends is one of the eight, and one that does not is none
pub one_of_eight : (size i : ℕ) → size * i < size * 8 → i < 8
one_of_eight size i h = go (ltb i 8) refl
  where
    go : (b : Bool) → ltb i 8 ≡ b → i < 8
    go true e = ltb-true i 8 e
    go false e = absurd (let m : size * 8 ≤ size * i = mul-le-mul_left size (ltb-false i 8 e) in omega arith)

pub past_eight : (size i : ℕ) → 1 ≤ size → size * 8 ≤ size * i → 8 ≤ i
past_eight size i h k = go (ltb i 8) refl
  where
    go : (b : Bool) → ltb i 8 ≡ b → 8 ≤ i
    go true e =
        absurd (let l : i < 8 = ltb-true i 8 e in let m : size * i ≤ size * 7 = mul-le-mul_left size (omega arith) in omega arith)
    go false e = ltb-false i 8 e

-- the limits of eight records, where the run is too short or has room
module _ (gates size : ℕ) (xs : List Slot) (es : List ℕ) where
  pub run_short : length es < size * 8 → false ≡ waiting_sound_at gates size xs es
  unfolding waiting_sound_at
  run_short h = rw (lt-leb (size * 8) (length es) h)

  pub run_enough : size * 8 ≤ length es → records_sound_at gates size es 0 xs ≡ waiting_sound_at gates size xs es
  unfolding waiting_sound_at
  run_enough h = rw (le-leb (size * 8) (length es) h) refl
