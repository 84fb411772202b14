-- The records by their places. An id's record is the first that waits under it, so looking an id up in the list of returns
-- that wait finds what stands at its place; a list has a free record where fewer wait than there are records. By induction on
-- the records, each law for records that start at any place. Assumes nothing.
use mathlib.Core.Path.{◌≡◌, refl, sym, ap, ◌∙◌}
use mathlib.Core.Bool.{Bool, true, false, cond, ◌&&◌, ◌||◌, not}
use mathlib.Core.List.{List, [], ◌∷◌, map}
use mathlib.Core.Option.{Option, some, none}
use Prim.Native.Nat.{ℕ, zero, suc, ◌+◌, ◌≤◌, ◌<◌}
use native.Mathlib.Nat.{add-zero, zero-add}
use native.Mathlib.Omega.{arith}
use borrow.Author.Tests.{ltb-true, leb-true, eqb-true, lt-ltb}
use lib.Dec.{eqb, ltb, leb, leb-suc-suc}
use lib.ListN.{length, get_or, replicate}
use Rattle.algebra.proofs.Members.{and_left, and_right, and-true}
use Rattle.words.specs.Bytes.{all_below}
use Rattle.slots.specs.declared.Slot.{Slot}
use Rattle.slots.specs.Slots.{free_slot, broken_slot, eight_of}
use Rattle.rules.specs.Settings.{Setting}
use Rattle.rules.specs.Columns.{Column}
use Rattle.rules.specs.Judging.{allowed_pair}
use Rattle.rules.specs.Keyed.{find}
use Rattle.rules.specs.Server.{Waiting, Wait, awaitsOne, awaits_two, awaitsEntry, held, held_id, is_member, most_waiting}
use Rattle.rules.specs.WaitingList.{stage_one, stage_two, stage_entry, is_free, first_where, free_place, place_of, waiting_count}
use Rattle.rules.specs.WaitingList.{numbers_at, run_size, waiting_at, wait_as, wait_at, records_from, present, waits_in}
use Rattle.rules.specs.WaitingList.{record_sound, records_sound, waiting_sound}
use Rattle.rules.specs.Table.{Lent, table_sound, header_sound, counts_sound, totals_in, columns_in}

-- ---- places
module _ (t : Slot → Bool) where
  pub place_most : (xs : List Slot) → first_where t xs ≤ length xs
  unfolding first_where
  place_most [] = omega arith
  place_most (x ∷ xs) = go (t x) (place_most xs)
    where
      go : (b : Bool) → first_where t xs ≤ length xs → cond b 0 (suc (first_where t xs)) ≤ suc (length xs)
      go true h = omega arith
      go false h = omega arith

  pub place_holds : (xs : List Slot) → first_where t xs < length xs → t (get_or xs (first_where t xs) free_slot) ≡ true
  unfolding first_where
  place_holds [] h = absurd (omega arith)
  place_holds (x ∷ xs) h = go (t x) refl h (place_holds xs)
    where
      go : (b : Bool) → t x ≡ b → cond b 0 (suc (first_where t xs)) < suc (length xs)
          → (first_where t xs < length xs → t (get_or xs (first_where t xs) free_slot) ≡ true)
          → t (get_or (x ∷ xs) (cond b 0 (suc (first_where t xs))) free_slot) ≡ true
      go true e h r = e
      go false e h r = r (omega arith)

-- fewer wait than there are records: one is free
pub waiting_most : (xs : List Slot) → waiting_count xs ≤ length xs
unfolding waiting_count
waiting_most [] = omega arith
waiting_most (x ∷ xs) = go (is_free x) (waiting_most xs)
  where
    go : (b : Bool) → waiting_count xs ≤ length xs → cond b 0 1 + waiting_count xs ≤ suc (length xs)
    go true h = omega arith
    go false h = omega arith

pub free_place_lem : (xs : List Slot) → waiting_count xs < length xs → free_place xs < length xs
unfolding waiting_count first_where
free_place_lem [] h = absurd (omega arith)
free_place_lem (x ∷ xs) h = go (is_free x) h (free_place_lem xs)
  where
    go : (b : Bool) → cond b 0 1 + waiting_count xs < suc (length xs)
        → (waiting_count xs < length xs → free_place xs < length xs) → cond b 0 (suc (free_place xs)) < suc (length xs)
    go true h r = omega arith
    go false h r = let l : free_place xs < length xs = r (omega arith) in omega arith

-- ---- the returns that wait
-- whatever the stage, the return is the same
pub held_as : (stage : ℕ) (w : Waiting) → held (wait_as stage w) ≡ w
unfolding wait_as
held_as stage w = go (eqb stage stage_one) (eqb stage stage_two)
  where
    go : (a b : Bool) → held (cond a (awaitsOne w) (cond b (awaits_two w) (awaitsEntry w))) ≡ w
    go true b = refl
    go false true = refl
    go false false = refl

module _ (cs : List Column) where
  -- one record before the others
  count_one : (x : Slot) (ns : List ℕ) (rest : List (Option Wait))
      → length (present (wait_at cs x ns ∷ rest)) ≡ cond (is_free x) 0 1 + length (present rest)
  unfolding wait_at present
  count_one x ns rest = go (is_free x)
    where
      w : Wait
      w = wait_as x.stage (waiting_at cs x ns)

      go : (b : Bool) → length (present (cond b none (some w) ∷ rest)) ≡ cond b 0 1 + length (present rest)
      go true = sym (zero-add (length (present rest)))
      go false = omega arith

  count_from_lem : (es : List ℕ) (k : ℕ) (xs : List Slot) → length (present (records_from cs es k xs)) ≡ waiting_count xs
  unfolding records_from waiting_count present
  count_from_lem es k [] = refl
  count_from_lem es k (x ∷ xs) =
      (unfold present in count_one x (numbers_at cs es k) (records_from cs es (suc k) xs))
      ∙ ap (λ (n : ℕ). cond (is_free x) 0 1 + n) (count_from_lem es (suc k) xs)

  pub count_waits : (xs : List Slot) (es : List ℕ) → length (waits_in cs xs es) ≡ waiting_count xs
  count_waits xs es = count_from_lem es 0 xs

  find_one : (id : ℕ) (x : Slot) (ns : List ℕ) (rest : List (Option Wait))
      → find held_id id (present (wait_at cs x ns ∷ rest))
      ≡ cond (not (is_free x) && eqb x.id id) (wait_at cs x ns) (find held_id id (present rest))
  unfolding find present wait_at waiting_at
  find_one id x ns rest = go (is_free x)
    where
      w : Wait
      w = wait_as x.stage (waiting_at cs x ns)

      go : (b : Bool)
          → find held_id id (present (cond b none (some w) ∷ rest))
          ≡ cond (not b && eqb x.id id) (cond b none (some w)) (find held_id id (present rest))
      go true = refl
      go false =
          ap (λ (v : Waiting). cond (eqb v.id id) (some w) (find held_id id (present rest))) (held_as x.stage (waiting_at cs x ns))

  find_from : (id : ℕ) (es : List ℕ) (k : ℕ) (xs : List Slot)
      → find held_id id (present (records_from cs es k xs))
      ≡ cond (ltb (place_of id xs) (length xs))
      (wait_at cs (get_or xs (place_of id xs) free_slot) (numbers_at cs es (k + place_of id xs))) none
  unfolding records_from first_where find present
  find_from id es k [] = refl
  find_from id es k (x ∷ xs) =
      (unfold find present in find_one id x (numbers_at cs es k) (records_from cs es (suc k) xs))
      ∙ go (not (is_free x) && eqb x.id id) (find_from id es (suc k) xs)
    where
      p : ℕ
      p = place_of id xs

      rest : Option Wait
      rest = find held_id id (present (records_from cs es (suc k) xs))

      go : (b : Bool)
          → rest ≡ cond (ltb p (length xs)) (wait_at cs (get_or xs p free_slot) (numbers_at cs es (suc k + p))) none
          → cond b (wait_at cs x (numbers_at cs es k)) rest
          ≡ cond (ltb (cond b 0 (suc p)) (suc (length xs)))
          (wait_at cs (get_or (x ∷ xs) (cond b 0 (suc p)) free_slot) (numbers_at cs es (k + cond b 0 (suc p)))) none
      go true r = rw (lt-ltb 0 (suc (length xs)) (omega arith), add-zero k) refl
      go false r =
          let same : suc k + p ≡ k + suc p = omega arith in
          r ∙ rw (same, leb-suc-suc (suc p) (length xs)) refl

  -- looking up an id gives what stands at its place
  pub find_place : (id : ℕ) (xs : List Slot) (es : List ℕ)
      → find held_id id (waits_in cs xs es)
      ≡ cond (ltb (place_of id xs) (length xs))
      (wait_at cs (get_or xs (place_of id xs) free_slot) (numbers_at cs es (place_of id xs))) none
  find_place id xs es =
      find_from id es 0 xs
      ∙ ap (λ (i : ℕ). cond (ltb (place_of id xs) (length xs)) (wait_at cs (get_or xs (place_of id xs) free_slot) (numbers_at cs es i)) none)
      (zero-add (place_of id xs))

  pub found_place : (id : ℕ) (xs : List Slot) (es : List ℕ) (w : Wait) → find held_id id (waits_in cs xs es) ≡ some w
      → (place_of id xs < length xs)
      × (wait_at cs (get_or xs (place_of id xs) free_slot) (numbers_at cs es (place_of id xs)) ≡ some w)
  found_place id xs es w e = go (ltb (place_of id xs) (length xs)) refl (sym (find_place id xs es) ∙ e)
    where
      there : Option Wait
      there = wait_at cs (get_or xs (place_of id xs) free_slot) (numbers_at cs es (place_of id xs))

      go : (b : Bool) → ltb (place_of id xs) (length xs) ≡ b → cond b there none ≡ some w
          → (place_of id xs < length xs) × (there ≡ some w)
      go true q e = (ltb-true (place_of id xs) (length xs) q, e)
      go false q e = absurd (let z : ◌≡◌ {A = ℕ} 0 1 = cc in omega arith)

  member_one : (id : ℕ) (x : Slot) (ns : List ℕ) (rest : List (Option Wait))
      → is_member id (map held_id (present (wait_at cs x ns ∷ rest)))
      ≡ ((not (is_free x) && eqb x.id id) || is_member id (map held_id (present rest)))
  unfolding is_member present wait_at waiting_at
  member_one id x ns rest = go (is_free x)
    where
      w : Wait
      w = wait_as x.stage (waiting_at cs x ns)

      go : (b : Bool)
          → is_member id (map held_id (present (cond b none (some w) ∷ rest)))
          ≡ ((not b && eqb x.id id) || is_member id (map held_id (present rest)))
      go true = refl
      go false =
          ap (λ (v : Waiting). eqb v.id id || is_member id (map held_id (present rest))) (held_as x.stage (waiting_at cs x ns))

  member_from : (id : ℕ) (es : List ℕ) (k : ℕ) (xs : List Slot)
      → is_member id (map held_id (present (records_from cs es k xs))) ≡ ltb (place_of id xs) (length xs)
  unfolding records_from first_where is_member present
  member_from id es k [] = refl
  member_from id es k (x ∷ xs) =
      (unfold is_member present in member_one id x (numbers_at cs es k) (records_from cs es (suc k) xs))
      ∙ go (not (is_free x) && eqb x.id id) (member_from id es (suc k) xs)
    where
      rest : Bool
      rest = is_member id (map held_id (present (records_from cs es (suc k) xs)))

      go : (b : Bool) → rest ≡ ltb (place_of id xs) (length xs)
          → (b || rest) ≡ ltb (cond b 0 (suc (place_of id xs))) (suc (length xs))
      go true r = sym (lt-ltb 0 (suc (length xs)) (omega arith))
      go false r = r ∙ sym (leb-suc-suc (suc (place_of id xs)) (length xs))

  -- an id waits where it has a place
  pub member_place : (id : ℕ) (xs : List Slot) (es : List ℕ)
      → is_member id (map held_id (waits_in cs xs es)) ≡ ltb (place_of id xs) (length xs)
  member_place id xs es = member_from id es 0 xs

-- ---- the limits
-- what is known of a record in which a return waits
pub record WaitsSoundly (σ : Setting) (cs : List Column) (x : Slot) (ns : List ℕ) : Type 0 where
  pub pair : allowed_pair σ cs x.r x.s ≡ true
  pub d_below : x.d < σ.modulus
  pub e_below : x.e < σ.modulus
  pub numbers_below : all_below σ.modulus ns ≡ true

module _ (σ : Setting) (cs : List Column) where
  pub record_at : (es : List ℕ) (k : ℕ) (xs : List Slot) → records_sound σ cs es k xs ≡ true → (j : ℕ) → j < length xs
      → record_sound σ cs (get_or xs j free_slot) (numbers_at cs es (k + j)) ≡ true
  unfolding records_sound
  record_at es k [] e j h = absurd (omega arith)
  record_at es k (x ∷ xs) e zero h =
      ap (λ (i : ℕ). record_sound σ cs x (numbers_at cs es i)) (add-zero k)
      ∙ and_left (record_sound σ cs x (numbers_at cs es k)) (records_sound σ cs es (suc k) xs) e
  record_at es k (x ∷ xs) e (suc j) h =
      let same : k + suc j ≡ suc k + j = omega arith in
      ap (λ (i : ℕ). record_sound σ cs (get_or xs j free_slot) (numbers_at cs es i)) same
      ∙ record_at es (suc k) xs (and_right (record_sound σ cs x (numbers_at cs es k)) (records_sound σ cs es (suc k) xs) e) j (omega arith)

  pub each_sound : (es : List ℕ) (k : ℕ) (xs : List Slot)
      → ((j : ℕ) → j < length xs → record_sound σ cs (get_or xs j free_slot) (numbers_at cs es (k + j)) ≡ true)
      → records_sound σ cs es k xs ≡ true
  unfolding records_sound
  each_sound es k [] h = refl
  each_sound es k (x ∷ xs) h =
      let first : record_sound σ cs x (numbers_at cs es k) ≡ true =
      ap (λ (i : ℕ). record_sound σ cs x (numbers_at cs es i)) (sym (add-zero k)) ∙ h 0 (omega arith) in
      and-true (record_sound σ cs x (numbers_at cs es k)) (records_sound σ cs es (suc k) xs) first
      (each_sound es (suc k) xs
      (λ j l.
      let same : suc k + j ≡ k + suc j = omega arith in
      ap (λ (i : ℕ). record_sound σ cs (get_or xs j free_slot) (numbers_at cs es i)) same ∙ h (suc j) (omega arith)))

  module _ (x : Slot) (ns : List ℕ) where
    abbrev low : Bool
    low = ltb x.d σ.modulus && (ltb x.e σ.modulus && all_below σ.modulus ns)

    pub stage_most : record_sound σ cs x ns ≡ true → x.stage ≤ stage_entry
    unfolding record_sound
    stage_most h =
        leb-true x.stage stage_entry (and_left (leb x.stage stage_entry) (is_free x || (allowed_pair σ cs x.r x.s && low)) h)

    pub waits_soundly : record_sound σ cs x ns ≡ true → is_free x ≡ false → WaitsSoundly σ cs x ns
    unfolding record_sound
    waits_soundly h taken =
        let rest : Bool = ltb x.e σ.modulus && all_below σ.modulus ns in
        let all : (allowed_pair σ cs x.r x.s && low) ≡ true =
        sym (ap (λ (b : Bool). b || (allowed_pair σ cs x.r x.s && low)) taken)
        ∙ and_right (leb x.stage stage_entry) (is_free x || (allowed_pair σ cs x.r x.s && low)) h in
        let below : low ≡ true = and_right (allowed_pair σ cs x.r x.s) low all in
        let others : rest ≡ true = and_right (ltb x.d σ.modulus) rest below in
        record {
          pair = and_left (allowed_pair σ cs x.r x.s) low all;
          d_below = ltb-true x.d σ.modulus (and_left (ltb x.d σ.modulus) rest below);
          e_below =
              ltb-true x.e σ.modulus (and_left (ltb x.e σ.modulus) (all_below σ.modulus ns) others);
          numbers_below = and_right (ltb x.e σ.modulus) (all_below σ.modulus ns) others;
        }

-- ---- eight records
and-false : (a : Bool) → (a && false) ≡ false
and-false true = refl
and-false false = refl

module _ (σ : Setting) (t es : List ℕ) where
  abbrev with : List Slot → Lent
  with ys = record { bytes = t; slots = ys; elements = es }

  broken_unsound : (cs : List Column) → waiting_sound σ cs (replicate most_waiting broken_slot) es ≡ false
  unfolding waiting_sound records_sound record_sound
  broken_unsound cs = and-false (leb (run_size cs) (length es))

  other_unsound : (cs : List Column) (ys : List Slot) → eqb (length ys) most_waiting ≡ false → waiting_sound σ cs ys es ≡ false
  unfolding waiting_sound
  other_unsound cs ys e = rw e refl

  waiting_unsound : (ys : List Slot) → waiting_sound σ (columns_in σ t) ys es ≡ false → table_sound σ (with ys) ≡ false
  unfolding table_sound
  waiting_unsound ys e =
      let counts : Bool = counts_sound σ t (waiting_count ys) in
      let totals : Bool = all_below σ.modulus (totals_in σ t) in
      ap (λ (b : Bool). header_sound σ t && (counts && (totals && b))) e
      ∙ ap (λ (b : Bool). header_sound σ t && (counts && b)) (and-false totals)
      ∙ ap (λ (b : Bool). header_sound σ t && b) (and-false counts)
      ∙ and-false (header_sound σ t)

  -- other records than eight are as unsound as eight broken ones
  pub eight_sound : (ys : List Slot) → table_sound σ (with (eight_of ys)) ≡ table_sound σ (with ys)
  unfolding eight_of
  eight_sound ys = go (eqb (length ys) most_waiting) refl
    where
      go : (b : Bool) → eqb (length ys) most_waiting ≡ b
          → table_sound σ (with (cond b ys (replicate most_waiting broken_slot))) ≡ table_sound σ (with ys)
      go true e = refl
      go false e =
          waiting_unsound (replicate most_waiting broken_slot) (broken_unsound (columns_in σ t))
          ∙ sym (waiting_unsound ys (other_unsound (columns_in σ t) ys e))

  pub eight_of_sound : (ys : List Slot) → table_sound σ (with ys) ≡ true → length ys ≡ most_waiting
  unfolding table_sound waiting_sound
  eight_of_sound ys e =
      let counts : Bool = counts_sound σ t (waiting_count ys) in
      let totals : Bool = all_below σ.modulus (totals_in σ t) in
      let last : Bool = leb (run_size (columns_in σ t)) (length es) && records_sound σ (columns_in σ t) es 0 ys in
      let waits : Bool = eqb (length ys) most_waiting && last in
      let e₁ : (counts && (totals && waits)) ≡ true = and_right (header_sound σ t) (counts && (totals && waits)) e in
      let e₂ : (totals && waits) ≡ true = and_right counts (totals && waits) e₁ in
      eqb-true (length ys) most_waiting (and_left (eqb (length ys) most_waiting) last (and_right totals waits e₂))
