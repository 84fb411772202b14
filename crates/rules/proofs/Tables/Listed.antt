-- The records beside the returns that wait in the ledger: they say the same returns, in another order. A share fills the first
-- free record, a decision sets that of the id that it names free; the ledger's list changes alike, since its ids differ. Assumes
-- nothing.
use mathlib.Core.Path.{◌≡◌, refl, sym, ap, ap₂, ◌∙◌, subst}
use mathlib.Core.Logic.{inl, inr, ◌≢◌}
use mathlib.Core.Bool.{true, false, false≢true}
use mathlib.Core.List.{List, [], ◌∷◌, map}
use mathlib.Core.Option.{Option, some}
use Prim.Native.Nat.{ℕ, ◌+◌, ◌*◌, ◌^◌, ◌≤◌, ◌<◌}
use native.Mathlib.Nat.{zero-add}
use native.Mathlib.Omega.{arith}
use borrow.Author.Tests.{le-leb, eq-eqb}
use lib.ListN.{length, get_or, set, replicate, length-set, length-replicate}
use Rattle.algebra.specs.Lists.{All, all∷, Distinct, distinct∷, Rearranged, keep, chain}
use Rattle.algebra.proofs.Members.{and-true, all_in, in_all}
use Rattle.algebra.proofs.Rearrangement.{rearranged_sym, rearranged_length}
use Rattle.slots.specs.declared.Slot.{Slot}
use Rattle.slots.specs.Slots.{free_slot}
use Rattle.rules.specs.Settings.{Setting, Facts}
use Rattle.rules.specs.Judging.{share_size, allowed_pair}
use Rattle.rules.specs.Keyed.{find, without}
use Rattle.rules.specs.Server.{Opened, Waiting, Wait, awaitsOne, held, held_id, most_waiting, waiting_of}
use Rattle.rules.specs.WaitingList.{stage_one, is_free, free_place, place_of, waiting_count, place_size, run_size, numbers_at}
use Rattle.rules.specs.WaitingList.{waiting_at, records_from, present, waits_in, record_sound, waiting_sound, slot_of}
use Rattle.rules.specs.WaitingList.{numbers_of, put_numbers, cleared_numbers}
use Rattle.rules.specs.Ledger.{Note, Pending, waits_one, pending_id, noted, ledger_wait}
use Rattle.rules.proofs.Histories.Keyed.{through, found_out, without_map}
use Rattle.rules.proofs.Histories.Shuffled.{rearranged_in, rearranged_map}
use Rattle.rules.proofs.Histories.Moves.{id_told, find_told, many_told}
use Rattle.rules.proofs.Histories.OwnMessages.{d_below, e_below, rh_below, tau_below}
use Rattle.rules.proofs.Waiting.Records.{count_waits, free_place_lem, found_place, each_sound}
use Rattle.rules.proofs.Waiting.Rearranged.{Apart, apart_on, find_rearranged, without_rearranged}
use Rattle.rules.proofs.Waiting.Written.{AtEach, put_each, records_put, filled, found_at}
use Rattle.rules.proofs.Waiting.Written.{place_fits, length_put}
use Rattle.rules.proofs.Waiting.Said.{length_numbers, share_says, free_says, said, free_sound, taken_sound, numbers_low}

-- what a share that was taken is known to be
pub record NoteFits (σ : Setting) (o : Opened) (n : Note) : Type 0 where
  pub id_fits : n.id < 256 ^ 4
  pub pair : allowed_pair σ o.columns n.r n.s ≡ true
  pub long : length n.elements ≡ share_size o.columns
  pub below : All (λ x. x < σ.modulus) n.elements

-- a record within the limits, and 0 where no return waits in it
pub record Fine (σ : Setting) (o : Opened) (x : Slot) (ns : List ℕ) : Type 0 where
  pub sound : record_sound σ o.columns x ns ≡ true
  pub erased : is_free x ≡ true → (x ≡ free_slot) × (ns ≡ replicate (place_size o.columns) 0)

pub record Listed (σ : Setting) (o : Opened) (ws : List Pending) (xs : List Slot) (es : List ℕ) : Type 0 where
  pub eight : length xs ≡ most_waiting
  pub enough : run_size o.columns ≤ length es
  pub fine : AtEach o.columns (Fine σ o) xs es
  pub same : Rearranged (waits_in o.columns xs es) (map (ledger_wait σ o) ws)
  pub apart : Distinct (map pending_id ws)
  pub ids_fit : All (λ (x : ℕ). x < 256 ^ 4) (map pending_id ws)

pub ids_told : (σ : Setting) (o : Opened) (ws : List Pending) → map held_id (map (ledger_wait σ o) ws) ≡ map pending_id ws
ids_told σ o [] = refl
ids_told σ o (w ∷ ws) = ap₂ (λ (x : ℕ) (s : List ℕ). x ∷ s) (id_told σ o w) (ids_told σ o ws)

module _ (σ : Setting) (o : Opened) (ws : List Pending) (xs : List Slot) (es : List ℕ) (l : Listed σ o ws xs es) where
  abbrev waits : List Wait
  waits = waits_in o.columns xs es

  abbrev told : List Wait
  told = map (ledger_wait σ o) ws

  -- ---- their number, their ids and their limits
  pub as_many : waiting_count xs ≡ length ws
  as_many = sym (count_waits o.columns xs es) ∙ rearranged_length l.same ∙ many_told σ o ws

  told_apart : Apart held_id told
  told_apart = subst Distinct (sym (ids_told σ o ws)) l.apart

  pub waits_apart : Apart held_id waits
  waits_apart = apart_on held_id (rearranged_sym l.same) told_apart

  run_long : place_size o.columns * length xs ≤ length es
  run_long = omega (arith, l.enough, ap (λ (k : ℕ). place_size o.columns * k) l.eight)

  pub listed_sound : waiting_sound σ o.columns xs es ≡ true
  unfolding waiting_sound
  listed_sound =
      let all : (j : ℕ) → j < length xs → record_sound σ o.columns (get_or xs j free_slot) (numbers_at o.columns es (0 + j)) ≡ true =
      (λ j h.
      ap (λ (i : ℕ). record_sound σ o.columns (get_or xs j free_slot) (numbers_at o.columns es i)) (zero-add j)
      ∙ (l.fine j h).sound) in
      and-true _ _ (eq-eqb (length xs) most_waiting l.eight)
      (and-true _ _ (le-leb (run_size o.columns) (length es) l.enough) (each_sound σ o.columns es 0 xs all))

  -- ---- the return of an id, and its record
  pub find_same : (id : ℕ) → find held_id id waits ≡ through (ledger_wait σ o) (find pending_id id ws)
  find_same id = find_rearranged held_id id l.same waits_apart ∙ find_told σ o id ws

  module _ (id : ℕ) (v : Pending) (q : find pending_id id ws ≡ some v) where
    abbrev j : ℕ
    j = place_of id xs

    abbrev here : Slot
    here = get_or xs j free_slot

    abbrev numbers : List ℕ
    numbers = numbers_at o.columns es j

    pub is_found : find held_id id waits ≡ some (ledger_wait σ o v)
    is_found = find_same id ∙ ap (through (ledger_wait σ o)) q

    pub inside : j < length xs
    inside = (found_place o.columns id xs es (ledger_wait σ o v) is_found).0

    pub is_said : (is_free here ≡ false) × (waiting_at o.columns here numbers ≡ held (ledger_wait σ o v))
    is_said = said o.columns here numbers (ledger_wait σ o v) (found_place o.columns id xs es (ledger_wait σ o v) is_found).1

    -- ---- a decision: the record is set free
    freed_same : Rearranged (waits_in o.columns (set xs j free_slot) (cleared_numbers o.columns es j))
        (map (ledger_wait σ o) (without pending_id id ws))
    freed_same =
        let zeros : List ℕ = replicate (place_size o.columns) 0 in
        let long : length zeros ≡ place_size o.columns = length-replicate (place_size o.columns) 0 in
        let is : waits_in o.columns (set xs j free_slot) (cleared_numbers o.columns es j) ≡ without held_id id waits =
        ap (λ (i : ℕ). waits_in o.columns (set xs j free_slot) (put_numbers o.columns es i zeros)) (sym (zero-add j))
        ∙ ap present
        (records_put o.columns es zeros long 0 xs j free_slot inside
        (omega (arith, run_long, ap (λ (k : ℕ). place_size o.columns * k) (zero-add (length xs)))))
        ∙ ap (λ (u : Option Wait). present (set (records_from o.columns es 0 xs) j u)) (free_says o.columns zeros)
        ∙ (found_at o.columns id es (ledger_wait σ o v) 0 xs is_found).frees in
        subst (λ (s : List Wait). Rearranged s (map (ledger_wait σ o) (without pending_id id ws))) (sym is)
        (subst (λ (s : List Wait). Rearranged (without held_id id waits) s)
        (without_map pending_id held_id (ledger_wait σ o) (id_told σ o) id ws)
        (without_rearranged held_id id l.same waits_apart))

    out : Rearranged (pending_id v ∷ map pending_id (without pending_id id ws)) (map pending_id ws)
    out = rearranged_map pending_id (found_out pending_id id ws v q)

    pub found_fits : pending_id v < 256 ^ 4
    found_fits = all_in (pending_id v) (map pending_id ws) l.ids_fit (rearranged_in (pending_id v) out (inl refl))

    pub freed_listed : Listed σ o (without pending_id id ws) (set xs j free_slot) (cleared_numbers o.columns es j)
    freed_listed =
        let zeros : List ℕ = replicate (place_size o.columns) 0 in
        let long : length zeros ≡ place_size o.columns = length-replicate (place_size o.columns) 0 in
        record {
          eight = length-set xs j free_slot ∙ l.eight;
          enough = omega (arith, l.enough, put_long zeros long);
          fine = put_each o.columns (Fine σ o) xs es l.fine j inside free_slot zeros long run_long
              (record { sound = free_sound σ o.columns zeros; erased = λ e. (refl, refl) });
          same = freed_same;
          apart = rest (apart_on pending_id (rearranged_sym (found_out pending_id id ws v q)) l.apart);
          ids_fit = in_all (map pending_id (without pending_id id ws))
              (λ x h. all_in x (map pending_id ws) l.ids_fit (rearranged_in x out (inr h)));
        }
      where
        rest : Distinct (pending_id v ∷ map pending_id (without pending_id id ws)) → Distinct (map pending_id (without pending_id id ws))
        rest (distinct∷ f d) = d

        put_long : (ns : List ℕ) → length ns ≡ place_size o.columns → length (put_numbers o.columns es j ns) ≡ length es
        put_long ns long = length_put o.columns es ns j long (place_fits o.columns (length xs) j es inside run_long)

-- ---- a share: the first free record is filled
module _ (σ : Setting) (facts : Facts σ) (o : Opened) (ws : List Pending) (xs : List Slot) (es : List ℕ)
    (l : Listed σ o ws xs es) (n : Note) (f : NoteFits σ o n) (few : length ws < most_waiting)
    (new : All (λ x. x ≢ n.id) (map pending_id ws)) where
  abbrev w : Waiting
  w = noted σ o n

  abbrev place : ℕ
  place = free_place xs

  abbrev taken : Slot
  taken = slot_of stage_one w

  abbrev ns : List ℕ
  ns = numbers_of w

  is_free_lem : place < length xs
  is_free_lem = free_place_lem xs (omega (arith, as_many σ o ws xs es l, l.eight))

  elements_long : length w.elements ≡ share_size o.columns
  unfolding waiting_of
  elements_long = f.long

  ns_long : length ns ≡ place_size o.columns
  ns_long = length_numbers o.columns w elements_long

  taken_same : Rearranged (waits_in o.columns (set xs place taken) (put_numbers o.columns es place ns))
      (map (ledger_wait σ o) (waits_one n ∷ ws))
  unfolding ledger_wait
  taken_same =
      let is : waits_in o.columns (set xs place taken) (put_numbers o.columns es place ns)
      ≡ present (set (records_from o.columns es 0 xs) place (some (awaitsOne w))) =
      ap (λ (i : ℕ). waits_in o.columns (set xs place taken) (put_numbers o.columns es i ns)) (sym (zero-add place))
      ∙ ap present
      (records_put o.columns es ns ns_long 0 xs place taken is_free_lem
      (omega (arith, run_long σ o ws xs es l, ap (λ (k : ℕ). place_size o.columns * k) (zero-add (length xs)))))
      ∙ ap (λ (u : Option Wait). present (set (records_from o.columns es 0 xs) place u)) (share_says o.columns w elements_long) in
      subst (λ (s : List Wait). Rearranged s (awaitsOne w ∷ map (ledger_wait σ o) ws)) (sym is)
      (chain (filled o.columns es 0 xs (awaitsOne w) is_free_lem) (keep (awaitsOne w) l.same))

  taken_fine : Fine σ o taken ns
  unfolding waiting_of
  taken_fine = record {
    sound = taken_sound σ o.columns w ns f.pair (d_below σ facts o n) (e_below σ facts o n)
        (numbers_low σ o.columns w f.below (rh_below σ facts o n) (tau_below σ facts o n)) stage_one (omega arith) (omega arith);
    erased = λ e. absurd (false≢true e);
  }

  pub taken_listed : Listed σ o (waits_one n ∷ ws) (set xs place taken) (put_numbers o.columns es place ns)
  taken_listed = record {
    eight = length-set xs place taken ∙ l.eight;
    enough = omega (
      arith,
      l.enough,
      length_put o.columns es ns place ns_long (place_fits o.columns (length xs) place es is_free_lem (run_long σ o ws xs es l)),
    );
    fine = put_each o.columns (Fine σ o) xs es l.fine place is_free_lem taken ns ns_long (run_long σ o ws xs es l) taken_fine;
    same = taken_same;
    apart = distinct∷ new l.apart;
    ids_fit = all∷ f.id_fits l.ids_fit;
  }
