-- One record and the numbers of its place are written: the other records and their numbers stay as they were. So what holds of
-- each record goes on to hold, a share in the first free record is one return more, and the record of an id that is written is
-- the one that the list of returns changes or takes out. By induction on the records. Assumes nothing.
use mathlib.Core.Path.{◌≡◌, refl, sym, ap, ap₂, ◌∙◌}
use mathlib.Core.Logic.{◌≢◌}
use mathlib.Core.Bool.{Bool, true, false, cond, ◌&&◌, not}
use mathlib.Core.List.{List, [], ◌∷◌}
use mathlib.Core.Option.{Option, some, none}
use Prim.Native.Nat.{ℕ, zero, suc, ◌+◌, ◌*◌, ◌≤◌, ◌<◌}
use native.Mathlib.Nat.{mul-le-mul_left, mul-suc, add-zero}
use native.Mathlib.Decide.{ℕ_discrete, dec_lt}
use native.Mathlib.Omega.{arith}
use lib.Dec.{eqb}
use lib.ListN.{length, get_or, set, length-set}
use lib.Seq.{get_or-set_same, get_or-set_other}
use Rattle.algebra.specs.Lists.{Rearranged, keep, swap, chain}
use Rattle.algebra.proofs.Rearrangement.{rearranged_refl}
use Rattle.words.proofs.Splice.{part_splice, part_before, part_behind, length_splice}
use Rattle.slots.specs.declared.Slot.{Slot}
use Rattle.slots.specs.Slots.{free_slot}
use Rattle.rules.specs.Columns.{Column}
use Rattle.rules.specs.Keyed.{find, without, changed}
use Rattle.rules.specs.Server.{Waiting, Wait, held_id}
use Rattle.rules.specs.WaitingList.{is_free, first_where, free_place, place_of, place_size, numbers_at, waiting_at, wait_as, wait_at}
use Rattle.rules.specs.WaitingList.{records_from, present, put_numbers}
use Rattle.rules.proofs.Waiting.Records.{held_as}

-- ---- numbers of places
pub place_fits : (cs : List Column) (n i : ℕ) (es : List ℕ) → i < n → place_size cs * n ≤ length es → place_size cs * suc i ≤ length es
place_fits cs n i es h f = omega (arith, mul-le-mul_left (place_size cs) h)

module _ (cs : List Column) (es ns : List ℕ) (i : ℕ) (long : length ns ≡ place_size cs) (fit : place_size cs * suc i ≤ length es) where
  inside : place_size cs * i + length ns ≤ length es
  inside = omega (arith, mul-suc (place_size cs) i)

  pub numbers_put : numbers_at cs (put_numbers cs es i ns) i ≡ ns
  numbers_put = part_splice es (place_size cs * i) ns inside (place_size cs) long

  pub numbers_behind : (k : ℕ) → i < k → numbers_at cs (put_numbers cs es i ns) k ≡ numbers_at cs es k
  numbers_behind k h =
      let past : place_size cs * i + length ns ≤ place_size cs * k =
      omega (arith, mul-suc (place_size cs) i, mul-le-mul_left (place_size cs) h) in
      part_behind es (place_size cs * i) ns inside (place_size cs * k) (place_size cs) past

  pub numbers_before : (k : ℕ) → k < i → numbers_at cs (put_numbers cs es i ns) k ≡ numbers_at cs es k
  numbers_before k h =
      let first : place_size cs * k + place_size cs ≤ place_size cs * i =
      omega (arith, mul-suc (place_size cs) k, mul-le-mul_left (place_size cs) h) in
      part_before es (place_size cs * i) ns inside (place_size cs * k) (place_size cs) first

  pub numbers_other : (k : ℕ) → k ≢ i → numbers_at cs (put_numbers cs es i ns) k ≡ numbers_at cs es k
  numbers_other k ne = go (dec_lt k i)
    where
      go : Dec (k < i) → numbers_at cs (put_numbers cs es i ns) k ≡ numbers_at cs es k
      go (yes h) = numbers_before k h
      go (no h) = numbers_behind k (omega arith)

  pub length_put : length (put_numbers cs es i ns) ≡ length es
  length_put = length_splice es (place_size cs * i) ns inside

-- ---- what holds of each record, with the numbers of its place
module _ (cs : List Column) (P : Slot → List ℕ → Type 0) where
  abbrev pub AtEach : List Slot → List ℕ → Type 0
  AtEach xs es = (j : ℕ) → j < length xs → P (get_or xs j free_slot) (numbers_at cs es j)

  module _ (xs : List Slot) (es : List ℕ) (all : AtEach xs es) (i : ℕ) (h : i < length xs) (q : Slot) where
    pub set_each : P q (numbers_at cs es i) → AtEach (set xs i q) es
    set_each p j l = go (ℕ_discrete j i)
      where
        go : Dec (j ≡ i) → P (get_or (set xs i q) j free_slot) (numbers_at cs es j)
        go (yes e) = rw (e, get_or-set_same xs i q free_slot h) p
        go (no ne) = rw (get_or-set_other xs i j q free_slot ne) (all j (omega (arith, length-set xs i q)))

    pub put_each : (ns : List ℕ) → length ns ≡ place_size cs → place_size cs * length xs ≤ length es → P q ns
        → AtEach (set xs i q) (put_numbers cs es i ns)
    put_each ns long enough p j l =
        go (place_fits cs (length xs) i es h enough) (ℕ_discrete j i)
      where
        go : place_size cs * suc i ≤ length es → Dec (j ≡ i)
            → P (get_or (set xs i q) j free_slot) (numbers_at cs (put_numbers cs es i ns) j)
        go fit (yes e) = rw (e, get_or-set_same xs i q free_slot h, numbers_put cs es ns i long fit) p
        go fit (no ne) =
            rw (get_or-set_other xs i j q free_slot ne, numbers_other cs es ns i long fit j ne)
            (all j (omega (arith, length-set xs i q)))

-- ---- what the records say
module _ (cs : List Column) where
  -- a record is written, and no numbers
  pub records_set : (es : List ℕ) (k : ℕ) (xs : List Slot) (j : ℕ) (q : Slot) → j < length xs
      → records_from cs es k (set xs j q) ≡ set (records_from cs es k xs) j (wait_at cs q (numbers_at cs es (k + j)))
  unfolding records_from
  records_set es k [] j q h = absurd (omega arith)
  records_set es k (x ∷ xs) zero q h =
      ap (λ (a : ℕ). wait_at cs q (numbers_at cs es a) ∷ records_from cs es (suc k) xs) (sym (add-zero k))
  records_set es k (x ∷ xs) (suc j) q h =
      let same : suc k + j ≡ k + suc j = omega arith in
      ap (λ (v : List (Option Wait)). wait_at cs x (numbers_at cs es k) ∷ v)
      (records_set es (suc k) xs j q (omega arith)
      ∙ ap (λ (a : ℕ). set (records_from cs es (suc k) xs) j (wait_at cs q (numbers_at cs es a))) same)

  module _ (es ns : List ℕ) (long : length ns ≡ place_size cs) where
    -- the numbers of place i are written: the records behind it keep theirs
    records_behind : (i k : ℕ) (xs : List Slot) → i < k → place_size cs * suc i ≤ length es
        → records_from cs (put_numbers cs es i ns) k xs ≡ records_from cs es k xs
    unfolding records_from
    records_behind i k [] h f = refl
    records_behind i k (x ∷ xs) h f =
        ap₂ (λ (v : List ℕ) (t : List (Option Wait)). wait_at cs x v ∷ t) (numbers_behind cs es ns i long f k h)
        (records_behind i (suc k) xs (omega arith) f)

    -- a record and the numbers of its place are written
    pub records_put : (k : ℕ) (xs : List Slot) (j : ℕ) (q : Slot) → j < length xs → place_size cs * (k + length xs) ≤ length es
        → records_from cs (put_numbers cs es (k + j) ns) k (set xs j q) ≡ set (records_from cs es k xs) j (wait_at cs q ns)
    unfolding records_from
    records_put k [] j q h f = absurd (omega arith)
    records_put k (x ∷ xs) zero q h f =
        let bound : place_size cs * suc k ≤ length es = omega (arith, mul-suc (place_size cs) k) in
        ap (λ (a : ℕ). wait_at cs q (numbers_at cs (put_numbers cs es a ns) k) ∷ records_from cs (put_numbers cs es a ns) (suc k) xs)
        (add-zero k)
        ∙ ap₂ (λ (v : List ℕ) (t : List (Option Wait)). wait_at cs q v ∷ t) (numbers_put cs es ns k long bound)
        (records_behind k (suc k) xs (omega arith) bound)
    records_put k (x ∷ xs) (suc j) q h f =
        let l : suc (k + suc j) ≤ k + length (x ∷ xs) = omega arith in
        let room : place_size cs * suc (k + suc j) ≤ length es = omega (arith, mul-le-mul_left (place_size cs) l) in
        let same : suc k + j ≡ k + suc j = omega arith in
        let rest : suc k + length xs ≡ k + length (x ∷ xs) = omega arith in
        let bound : place_size cs * (suc k + length xs) ≤ length es = omega (arith, ap (λ (a : ℕ). place_size cs * a) rest) in
        ap₂ (λ (v : List ℕ) (t : List (Option Wait)). wait_at cs x v ∷ t)
        (numbers_before cs es ns (k + suc j) long room k (omega arith))
        (ap (λ (a : ℕ). records_from cs (put_numbers cs es a ns) (suc k) (set xs j q)) (sym same)
        ∙ records_put (suc k) xs j q (omega arith) bound)

  -- the first free record is filled
  pub filled : (es : List ℕ) (k : ℕ) (xs : List Slot) (w : Wait) → free_place xs < length xs
      → Rearranged (present (set (records_from cs es k xs) (free_place xs) (some w))) (w ∷ present (records_from cs es k xs))
  unfolding records_from first_where present wait_at
  filled es k [] w h = absurd (omega arith)
  filled es k (x ∷ xs) w h = go (is_free x) h (filled es (suc k) xs w)
    where
      p : ℕ
      p = free_place xs

      rest : List (Option Wait)
      rest = records_from cs es (suc k) xs

      v : Wait
      v = wait_as x.stage (waiting_at cs x (numbers_at cs es k))

      go : (b : Bool) → cond b 0 (suc p) < suc (length xs)
          → (p < length xs → Rearranged (present (set rest p (some w))) (w ∷ present rest))
          → Rearranged (present (set (cond b none (some v) ∷ rest) (cond b 0 (suc p)) (some w)))
          (w ∷ present (cond b none (some v) ∷ rest))
      go true l r = rearranged_refl (w ∷ present rest)
      go false l r = chain (keep v (r (omega arith))) (swap v w (present rest))

-- ---- the record of an id that is found: what freeing and changing it come to
pub record Found (id : ℕ) (os : List (Option Wait)) (j : ℕ) (w : Wait) : Type 0 where
  pub frees : present (set os j none) ≡ without held_id id (present os)
  pub changes : (f : Wait → Wait) → present (set os j (some (f w))) ≡ changed held_id id f (present os)

module _ (id : ℕ) (os : List (Option Wait)) (w : Wait) where
  found_behind_free : (j : ℕ) → Found id os j w → Found id (none ∷ os) (suc j) w
  unfolding present
  found_behind_free j f = record { frees = f.frees; changes = f.changes }

  found_first : (v : Wait) → eqb (held_id v) id ≡ true → find held_id id (v ∷ present os) ≡ some w → Found id (some v ∷ os) 0 w
  unfolding present find without changed
  found_first v e q =
      let z : some v ≡ some w = sym (ap (λ (b : Bool). cond b (some v) (find held_id id (present os))) e) ∙ q in
      let same : v ≡ w = cc in
      record {
        frees = rw e refl;
        changes = λ f. rw e (ap (λ (x : Wait). f x ∷ present os) (sym same));
      }

  found_later : (v : Wait) (j : ℕ) → eqb (held_id v) id ≡ false → (find held_id id (present os) ≡ some w → Found id os j w)
      → find held_id id (v ∷ present os) ≡ some w → Found id (some v ∷ os) (suc j) w
  unfolding present find without changed
  found_later v j e r q =
      let f : Found id os j w = r (sym (ap (λ (b : Bool). cond b (some v) (find held_id id (present os))) e) ∙ q) in
      record {
        frees = rw e (ap (λ (s : List Wait). v ∷ s) f.frees);
        changes = λ g. rw e (ap (λ (s : List Wait). v ∷ s) (f.changes g));
      }

module _ (cs : List Column) (id : ℕ) (es : List ℕ) (w : Wait) where
  pub found_at : (k : ℕ) (xs : List Slot) → find held_id id (present (records_from cs es k xs)) ≡ some w
      → Found id (records_from cs es k xs) (place_of id xs) w
  unfolding find present records_from first_where wait_at waiting_at
  found_at k [] q = absurd (let z : ◌≡◌ {A = ℕ} 0 1 = cc in omega arith)
  found_at k (x ∷ xs) q = go (is_free x) (eqb x.id id) refl q (found_at (suc k) xs)
    where
      rest : List (Option Wait)
      rest = records_from cs es (suc k) xs

      p : ℕ
      p = place_of id xs

      here : Wait
      here = wait_as x.stage (waiting_at cs x (numbers_at cs es k))

      named : eqb (held_id here) id ≡ eqb x.id id
      named = ap (λ (v : Waiting). eqb v.id id) (held_as x.stage (waiting_at cs x (numbers_at cs es k)))

      go : (b d : Bool) → eqb x.id id ≡ d → find held_id id (present (cond b none (some here) ∷ rest)) ≡ some w
          → (find held_id id (present rest) ≡ some w → Found id rest p w)
          → Found id (cond b none (some here) ∷ rest) (cond (not b && d) 0 (suc p)) w
      go true d e q r = found_behind_free id rest w p (r q)
      go false true e q r = found_first id rest w here (named ∙ e) q
      go false false e q r = found_later id rest w here p (named ∙ e) r q
