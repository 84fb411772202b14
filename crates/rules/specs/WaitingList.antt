-- Document 02, eight returns waiting. "The waiting list is a lent slice of eight small records: id, stage, challenges, d and e.
-- The elements of the shares stay in a lent run of numbers beside it." What the records and the numbers say, by the columns of
-- the sheet, and what is written there.
--
-- The stage of a record is 0 where it is free, 1 where its return awaits round one, with d_i and e_i, 2 where it awaits round
-- two and 3 where it awaits entry, with the sums d and e. The place of record i in the run of numbers starts at i times E + 2, with
-- E the elements of a share: the elements, then r × h_i(r), then tau_i.
-- A share goes into the first free record. An id's record is the first that is not free and has the id. No fault: what a free
-- record holds besides its stage, and the numbers of its place; an id that waits twice, or is decided too.
-- Assumes nothing.
use Rattle.std.specs.Prelude.{Bool, true, cond, ◌&&◌, ◌||◌, not, List, [], ◌∷◌, ◌++◌, ℕ, suc, ◌+◌, ◌*◌, eqb, ltb, leb, length, get_or, take, replicate}
use Rattle.std.proofs.Math.Option.{Option, some, none}
use Rattle.words.specs.Bytes.{part, splice, all_below}
use Rattle.slots.specs.declared.Slot.{Slot}
use Rattle.slots.specs.Slots.{free_slot}
use Rattle.rules.specs.Settings.{Setting}
use Rattle.rules.specs.Columns.{Column}
use Rattle.rules.specs.Judging.{share_size, allowed_pair}
use Rattle.rules.specs.Server.{Waiting, Wait, awaitsOne, awaits_two, awaitsEntry, most_waiting}

-- the stages of a record
abbrev pub stage_free : ℕ
stage_free = 0

abbrev pub stage_one : ℕ
stage_one = 1

abbrev pub stage_two : ℕ
stage_two = 2

abbrev pub stage_entry : ℕ
stage_entry = 3

abbrev pub is_free : Slot → Bool
is_free x = eqb x.stage stage_free

-- ---- places
-- the place of the first record for which a test holds; their number where there is none
unfoldable pub first_where : (Slot → Bool) → List Slot → ℕ
first_where t [] = 0
first_where t (x ∷ xs) = cond (t x) 0 (suc (first_where t xs))

abbrev pub free_place : List Slot → ℕ
free_place xs = first_where is_free xs

-- a return waits there under an id
abbrev pub waits_under : ℕ → Slot → Bool
waits_under id x = not (is_free x) && eqb x.id id

abbrev pub place_of : ℕ → List Slot → ℕ
place_of id xs = first_where (waits_under id) xs

-- how many returns wait
unfoldable pub waiting_count : List Slot → ℕ
waiting_count [] = 0
waiting_count (x ∷ xs) = cond (is_free x) 0 1 + waiting_count xs

-- a return that waits, by the stage of its record
unfoldable pub wait_as : ℕ → Waiting → Wait
wait_as stage w = cond (eqb stage stage_one) (awaitsOne w) (cond (eqb stage stage_two) (awaits_two w) (awaitsEntry w))

module _ (cs : List Column) where
  -- the numbers of a place
  abbrev pub place_size : ℕ
  place_size = share_size cs + 2

  abbrev pub run_size : ℕ
  run_size = place_size * most_waiting

  abbrev pub numbers_at : List ℕ → ℕ → List ℕ
  numbers_at es i = part (place_size * i) place_size es

  -- ---- what a record says, with the numbers of its place
  unfoldable pub waiting_at : Slot → List ℕ → Waiting
  waiting_at x ns = record {
    id = x.id;
    r = x.r;
    s = x.s;
    d = x.d;
    e = x.e;
    rh = get_or ns (share_size cs) 0;
    tau = get_or ns (share_size cs + 1) 0;
    elements = take (share_size cs) ns;
  }

  unfoldable pub wait_at : Slot → List ℕ → Option Wait
  wait_at x ns = cond (is_free x) none (some (wait_as x.stage (waiting_at x ns)))

  -- record k and those behind it
  unfoldable pub records_from : List ℕ → ℕ → List Slot → List (Option Wait)
  records_from es k [] = []
  records_from es k (x ∷ xs) = wait_at x (numbers_at es k) ∷ records_from es (suc k) xs

-- the members that are there
unfoldable pub present : {A : Type 0} → List (Option A) → List A
present [] = []
present (none ∷ xs) = present xs
present (some x ∷ xs) = x ∷ present xs

-- the returns that wait, in the order of the records
abbrev pub waits_in : List Column → List Slot → List ℕ → List Wait
waits_in cs xs es = present (records_from cs es 0 xs)

-- ---- the limits of a record and of the numbers of its place: an unknown stage, a pair that is not allowed, or a number that is
-- no element breaks them
module _ (σ : Setting) (cs : List Column) where
  unfoldable pub record_sound : Slot → List ℕ → Bool
  record_sound x ns =
      leb x.stage stage_entry
      && (is_free x
      || (allowed_pair σ cs x.r x.s
      && (ltb x.d σ.modulus && (ltb x.e σ.modulus && all_below σ.modulus ns))))

  unfoldable pub records_sound : List ℕ → ℕ → List Slot → Bool
  records_sound es k [] = true
  records_sound es k (x ∷ xs) = record_sound x (numbers_at cs es k) && records_sound es (suc k) xs

  -- "eight small records", and numbers for each of them
  unfoldable pub waiting_sound : List Slot → List ℕ → Bool
  waiting_sound xs es = eqb (length xs) most_waiting && (leb (run_size cs) (length es) && records_sound es 0 xs)

-- ---- what is written
abbrev pub slot_of : ℕ → Waiting → Slot
slot_of stage w = record { id = w.id; stage = stage; r = w.r; s = w.s; d = w.d; e = w.e }

-- the numbers of a place, for a return
abbrev pub numbers_of : Waiting → List ℕ
numbers_of w = w.elements ++ (w.rh ∷ w.tau ∷ [])

module _ (cs : List Column) where
  abbrev pub put_numbers : List ℕ → ℕ → List ℕ → List ℕ
  put_numbers es i ns = splice es (place_size cs * i) ns

  -- a place that is erased
  abbrev pub cleared_numbers : List ℕ → ℕ → List ℕ
  cleared_numbers es i = put_numbers es i (replicate (place_size cs) 0)

-- eight free records
abbrev pub free_list : List Slot
free_list = replicate most_waiting free_slot
