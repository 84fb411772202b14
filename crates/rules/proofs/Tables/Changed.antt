-- A record that is changed beside the return that waits in it: round one gives it the sums, an accepted verdict its last stage. The
-- ledger's list changes alike, since its ids differ; the numbers of the place stay. Assumes nothing.
use mathlib.Core.Path.{◌≡◌, refl, sym, ap, ◌∙◌, subst}
use mathlib.Core.List.{List, map}
use mathlib.Core.Option.{Option, some}
use Prim.Native.Nat.{ℕ, ◌^◌, ◌≤◌, ◌<◌}
use native.Mathlib.Nat.{zero-add}
use native.Mathlib.Omega.{arith}
use borrow.Author.Tests.{eqb-true}
use lib.ListN.{length, get_or, set, length-set}
use Rattle.algebra.specs.Lists.{All, Distinct, Rearranged}
use Rattle.slots.specs.declared.Slot.{Slot}
use Rattle.slots.specs.Slots.{free_slot}
use Rattle.rules.specs.Settings.{Setting}
use Rattle.rules.specs.Keyed.{find, changed}
use Rattle.rules.specs.Server.{Opened, Waiting, Wait, awaitsOne, awaits_two, awaitsEntry, held_id, with_sums}
use Rattle.rules.specs.WaitingList.{stage_two, stage_entry, place_of, numbers_at, waiting_at, wait_at, records_from, present, waits_in}
use Rattle.rules.specs.WaitingList.{slot_of}
use Rattle.rules.specs.Ledger.{Note, Pending, waits_one, waitsTwo, waitsEntry, pending_id, ledger_wait, sums_noted, accept_noted}
use Rattle.rules.proofs.Histories.Keyed.{changed_keeps, changed_map}
use Rattle.rules.proofs.Histories.Moves.{id_told}
use Rattle.rules.proofs.Histories.NotesGrow.{keeps_note, accept_keeps_id}
use Rattle.rules.proofs.Waiting.Records.{waits_soundly, WaitsSoundly}
use Rattle.rules.proofs.Waiting.Rearranged.{changed_rearranged}
use Rattle.rules.proofs.Waiting.Written.{set_each, records_set, found_at}
use Rattle.rules.proofs.Waiting.Said.{sums_say, accepted_says, taken_sound}
use Rattle.rules.proofs.Tables.Listed.{Fine, Listed, waits_apart, is_found, inside, is_said}

-- ---- the return under an id is changed by f in the ledger, and by g in the records
module _ (σ : Setting) (o : Opened) (ws : List Pending) (xs : List Slot) (es : List ℕ) (l : Listed σ o ws xs es) (id : ℕ) (v : Pending)
    (q : find pending_id id ws ≡ some v) where
  abbrev at : ℕ
  at = place_of id xs

  abbrev numbers : List ℕ
  numbers = numbers_at o.columns es at

  abbrev before : Waiting
  before = waiting_at o.columns (get_or xs at free_slot) numbers

  is_there : at < length xs
  is_there = inside σ o ws xs es l id v q

  old : WaitsSoundly σ o.columns (get_or xs at free_slot) numbers
  old = waits_soundly σ o.columns (get_or xs at free_slot) numbers (l.fine at is_there).sound (is_said σ o ws xs es l id v q).0

  -- the record as it is written, in a later stage
  written_fine : (w : Waiting) (stage : ℕ) → 1 ≤ stage → stage ≤ stage_entry → w.r ≡ before.r → w.s ≡ before.s → w.d < σ.modulus
      → w.e < σ.modulus → Fine σ o (slot_of stage w) numbers
  unfolding waiting_at
  written_fine w stage first last r s d e = record {
    sound = taken_sound σ o.columns w numbers (rw (r, s) old.pair) d e old.numbers_below stage first last;
    erased = λ z. absurd (omega (arith, eqb-true stage 0 z));
  }

  module _ (f : Pending → Pending) (g : Wait → Wait) (keeps : (p : Pending) → pending_id (f p) ≡ pending_id p)
      (told : (p : Pending) → g (ledger_wait σ o p) ≡ ledger_wait σ o (f p)) (after : Slot)
      (says : wait_at o.columns after numbers ≡ some (g (ledger_wait σ o v))) (fine : Fine σ o after numbers) where
    changed_same : Rearranged (waits_in o.columns (set xs at after) es) (map (ledger_wait σ o) (changed pending_id id f ws))
    changed_same =
        let os : List (Option Wait) = records_from o.columns es 0 xs in
        let is : waits_in o.columns (set xs at after) es ≡ changed held_id id g (waits_in o.columns xs es) =
        ap present (records_set o.columns es 0 xs at after is_there)
        ∙ ap (λ (i : ℕ). present (set os at (wait_at o.columns after (numbers_at o.columns es i)))) (zero-add at)
        ∙ ap (λ (u : Option Wait). present (set os at u)) says
        ∙ (found_at o.columns id es (ledger_wait σ o v) 0 xs (is_found σ o ws xs es l id v q)).changes g in
        subst (λ (s : List Wait). Rearranged s (map (ledger_wait σ o) (changed pending_id id f ws))) (sym is)
        (subst (λ (s : List Wait). Rearranged (changed held_id id g (waits_in o.columns xs es)) s)
        (changed_map pending_id held_id (ledger_wait σ o) (id_told σ o) id f g told ws)
        (changed_rearranged held_id id g l.same (waits_apart σ o ws xs es l)))

    changed_listed : Listed σ o (changed pending_id id f ws) (set xs at after) es
    changed_listed =
        let ids : map pending_id (changed pending_id id f ws) ≡ map pending_id ws = changed_keeps pending_id id pending_id f keeps ws in
        record {
          eight = length-set xs at after ∙ l.eight;
          enough = l.enough;
          fine = set_each o.columns (Fine σ o) xs es l.fine at is_there after fine;
          same = changed_same;
          apart = subst Distinct (sym ids) l.apart;
          ids_fit = subst (All (λ (x : ℕ). x < 256 ^ 4)) (sym ids) l.ids_fit;
        }

-- ---- round one: the record of the id gets the sums
unfoldable summed_wait : ℕ → ℕ → Wait → Wait
summed_wait d e (awaitsOne w) = awaits_two (with_sums w d e)
summed_wait d e (awaits_two w) = awaits_two w
summed_wait d e (awaitsEntry w) = awaitsEntry w

module _ (σ : Setting) (o : Opened) (d e : ℕ) where
  summed_told : (p : Pending) → summed_wait d e (ledger_wait σ o p) ≡ ledger_wait σ o (sums_noted σ o d e p)
  unfolding summed_wait ledger_wait sums_noted
  summed_told (waits_one n) = refl
  summed_told (waitsTwo n x y) = refl
  summed_told (waitsEntry n x y) = refl

  module _ (ws : List Pending) (xs : List Slot) (es : List ℕ) (l : Listed σ o ws xs es) (id : ℕ) (n : Note)
      (q : find pending_id id ws ≡ some (waits_one n)) (d_low : d < σ.modulus) (e_low : e < σ.modulus) where
    abbrev summed : Waiting
    summed = with_sums (before σ o ws xs es l id (waits_one n) q) d e

    pub summed_listed : Listed σ o (changed pending_id id (sums_noted σ o d e) ws) (set xs (place_of id xs) (slot_of stage_two summed)) es
    unfolding ledger_wait summed_wait
    summed_listed =
        let x : Slot = get_or xs (place_of id xs) free_slot in
        let ns : List ℕ = numbers_at o.columns es (place_of id xs) in
        changed_listed σ o ws xs es l id (waits_one n) q (sums_noted σ o d e) (summed_wait d e)
        (λ p. ap (λ (m : Note). m.id) (keeps_note σ o d e p)) summed_told (slot_of stage_two summed)
        (sums_say o.columns x ns d e
        ∙ ap (λ (u : Waiting). some (awaits_two (with_sums u d e))) (is_said σ o ws xs es l id (waits_one n) q).1)
        (written_fine σ o ws xs es l id (waits_one n) q summed stage_two (omega arith) (omega arith) refl refl d_low e_low)

-- ---- an accepted verdict: the record of the id gets its last stage
unfoldable accepted_wait : Wait → Wait
accepted_wait (awaitsOne w) = awaitsOne w
accepted_wait (awaits_two w) = awaitsEntry w
accepted_wait (awaitsEntry w) = awaitsEntry w

module _ (σ : Setting) (o : Opened) where
  accepted_told : (p : Pending) → accepted_wait (ledger_wait σ o p) ≡ ledger_wait σ o (accept_noted σ o p)
  unfolding accepted_wait ledger_wait accept_noted
  accepted_told (waits_one n) = refl
  accepted_told (waitsTwo n x y) = refl
  accepted_told (waitsEntry n x y) = refl

  module _ (ws : List Pending) (xs : List Slot) (es : List ℕ) (l : Listed σ o ws xs es) (id : ℕ) (n : Note) (d e : ℕ)
      (q : find pending_id id ws ≡ some (waitsTwo n d e)) where
    abbrev waits : Waiting
    waits = before σ o ws xs es l id (waitsTwo n d e) q

    pub accepted_listed : Listed σ o (changed pending_id id (accept_noted σ o) ws) (set xs (place_of id xs) (slot_of stage_entry waits)) es
    unfolding ledger_wait accepted_wait waiting_at
    accepted_listed =
        let x : Slot = get_or xs (place_of id xs) free_slot in
        let ns : List ℕ = numbers_at o.columns es (place_of id xs) in
        let sound = old σ o ws xs es l id (waitsTwo n d e) q in
        changed_listed σ o ws xs es l id (waitsTwo n d e) q (accept_noted σ o) accepted_wait (accept_keeps_id σ o) accepted_told
        (slot_of stage_entry waits)
        (accepted_says o.columns x ns
        ∙ ap (λ (u : Waiting). some (awaitsEntry u)) (is_said σ o ws xs es l id (waitsTwo n d e) q).1)
        (written_fine σ o ws xs es l id (waitsTwo n d e) q waits stage_entry (omega arith) (omega arith) refl refl sound.d_below
        sound.e_below)
