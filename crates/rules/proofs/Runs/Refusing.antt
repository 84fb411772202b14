-- "13 is given when they reach it; .. An id that waits is refused 10; a ninth return, an id not waiting, or a close while any
-- waits is refused 11." "too few accepted is refused 15". Of a ledger where the returns ws wait and ds are decided; each by
-- computing the first check that fails. Assumes nothing.
use mathlib.Core.Path.{◌≡◌, refl, ap, ◌∙◌}
use mathlib.Core.Bool.{Bool, true, false, cond, true≢false}
use mathlib.Core.List.{List, [], ◌∷◌, ◌++◌, map}
use mathlib.Core.Option.{some, none}
use Prim.Native.Nat.{ℕ, ◌+◌, ◌≤◌, ◌<◌}
use native.Mathlib.Omega.{arith}
use borrow.Author.Tests.{lt-ltb, le-leb, lt-leb, ltb-true, ne_eqb}
use lib.Dec.{ltb}
use lib.ListN.{length}
use Rattle.algebra.specs.Lists.{In}
use Rattle.records.specs.Outcome.{or_else}
use Rattle.rules.specs.Settings.{Setting}
use Rattle.rules.specs.Messages.{id_in, header_fault, elements_fault}
use Rattle.rules.specs.Keyed.{find}
use Rattle.rules.specs.Server.{Opened, Wait, held_id, most_waiting, is_member, while_open, while_one, while_two, while_entry}
use Rattle.rules.specs.Server.{while_waiting, totals_length, share_refusal, one_refusal, two_refusal, enter_refusal, drop_refusal}
use Rattle.rules.specs.Server.{close_refusal}
use Rattle.rules.specs.Ledger.{Call, share, round_one, round_two, enter, drop, close, Note, Pending, waits_one, waitsTwo, waitsEntry}
use Rattle.rules.specs.Ledger.{note_in, pending_id, is_open, Decided, Ledger, is_entered, notes_with, ledger_after, ledger_step, run_ledger}
use Rattle.rules.specs.Ledger.{is_accepted, ids_of, notes_of, ledger_wait, ledger_stage, ledger_state, refusal_of}
use Rattle.rules.proofs.Histories.Keyed.{in_member, not_found, through}
use Rattle.rules.proofs.Histories.Moves.{at, many_used, many_told, all_ids, find_told}

-- a number that is not below
not_below : (a b : ℕ) → (a < b → ⊥) → ltb a b ≡ false
not_below a b h = go (ltb a b) refl
  where
    go : (t : Bool) → ltb a b ≡ t → t ≡ false
    go true e = absurd (h (ltb-true a b e))
    go false e = refl

module _ (σ : Setting) (o : Opened) (ws : List Pending) (ds : List Decided) where
  abbrev ts : List Wait
  ts = map (ledger_wait σ o) ws

  none_told : (id : ℕ) → (In id (map pending_id ws) → ⊥) → find held_id id ts ≡ none
  none_told id h = find_told σ o id ws ∙ ap (through (ledger_wait σ o)) (not_found pending_id id ws h)

  -- "a ninth return .. is refused 11", whatever its message
  pub ninth : length ws ≡ most_waiting → (m : List ℕ) (r s room : ℕ) → refusal_of σ o (at (is_open ws) ds) (share m r s room) ≡ 11
  unfolding refusal_of ledger_state ledger_stage share_refusal while_open or_else
  ninth e m r s room =
      let f : length ts < most_waiting → ⊥ = λ h. omega (arith, many_told σ o ws) in
      rw (not_below (length ts) most_waiting f) refl

  -- "Decided and waiting together never exceed N, and 13 is given when they reach it"
  pub full : length ws < most_waiting → length ds + length ws ≡ o.returns → (m : List ℕ) (r s room : ℕ)
      → refusal_of σ o (at (is_open ws) ds) (share m r s room) ≡ 13
  unfolding refusal_of ledger_state ledger_stage share_refusal while_open or_else
  full h e m r s room =
      let g : length ts < most_waiting = omega (arith, many_told σ o ws) in
      let f : length (ids_of (notes_of ds)) + length ts < o.returns → ⊥ = λ k. omega (arith, many_told σ o ws, many_used ds) in
      rw (lt-ltb (length ts) most_waiting g, not_below (length (ids_of (notes_of ds)) + length ts) o.returns f) refl

  -- "An id that waits is refused 10", and so is one that was decided
  pub again : length ws < most_waiting → length ds + length ws < o.returns → (m : List ℕ) (r s room : ℕ)
      → header_fault σ o.columns o.own m ≡ 0 → elements_fault σ o.columns m ≡ 0
      → In (id_in m) (ids_of (notes_of ds ++ map note_in ws)) → refusal_of σ o (at (is_open ws) ds) (share m r s room) ≡ 10
  unfolding refusal_of ledger_state ledger_stage share_refusal while_open or_else
  again h e m r s room a b k =
      let g : length ts < most_waiting = omega (arith, many_told σ o ws) in
      let f : length (ids_of (notes_of ds)) + length ts < o.returns = omega (arith, many_told σ o ws, many_used ds) in
      let is : is_member (id_in m) (ids_of (notes_of ds) ++ map held_id ts) ≡ true =
      ap (is_member (id_in m)) (all_ids σ o ws ds) ∙ in_member (id_in m) (ids_of (notes_of ds ++ map note_in ws)) k in
      rw (lt-ltb (length ts) most_waiting g, lt-ltb (length (ids_of (notes_of ds)) + length ts) o.returns f, a, b, is) refl

  -- "an id not waiting .. is refused 11": in both rounds, in an entry and in a drop
  pub not_waiting_one : (id : ℕ) → (In id (map pending_id ws) → ⊥) → (joined : List ℕ) (room : ℕ)
      → refusal_of σ o (at (is_open ws) ds) (round_one id joined room) ≡ 11
  unfolding refusal_of ledger_state ledger_stage one_refusal while_open while_one
  not_waiting_one id h joined room = rw (none_told id h) refl

  pub not_waiting_two : (id : ℕ) → (In id (map pending_id ws) → ⊥) → (joined : List ℕ)
      → refusal_of σ o (at (is_open ws) ds) (round_two id joined) ≡ 11
  unfolding refusal_of ledger_state ledger_stage two_refusal while_open while_two
  not_waiting_two id h joined = rw (none_told id h) refl

  pub none_enter : (id : ℕ) → find pending_id id ws ≡ none → refusal_of σ o (at (is_open ws) ds) (enter id) ≡ 11
  unfolding refusal_of ledger_state ledger_stage enter_refusal while_open while_entry
  none_enter id h = rw (find_told σ o id ws, h) refl

  not_waiting_enter : (id : ℕ) → (In id (map pending_id ws) → ⊥) → refusal_of σ o (at (is_open ws) ds) (enter id) ≡ 11
  not_waiting_enter id h = none_enter id (not_found pending_id id ws h)

  pub not_waiting_drop : (id : ℕ) → (In id (map pending_id ws) → ⊥) → refusal_of σ o (at (is_open ws) ds) (drop id) ≡ 11
  unfolding refusal_of ledger_state ledger_stage drop_refusal while_open while_waiting
  not_waiting_drop id h = rw (none_told id h) refl

  -- an id that waits in the other stage
  pub second_wait_one : (id : ℕ) (n : Note) (d e : ℕ) → find pending_id id ws ≡ some (waitsTwo n d e) → (joined : List ℕ) (room : ℕ)
      → refusal_of σ o (at (is_open ws) ds) (round_one id joined room) ≡ 11
  unfolding refusal_of ledger_state ledger_stage one_refusal while_open while_one ledger_wait
  second_wait_one id n d e h joined room = rw (find_told σ o id ws, h) refl

  pub first_wait_two : (id : ℕ) (n : Note) → find pending_id id ws ≡ some (waits_one n) → (joined : List ℕ)
      → refusal_of σ o (at (is_open ws) ds) (round_two id joined) ≡ 11
  unfolding refusal_of ledger_state ledger_stage two_refusal while_open while_two ledger_wait
  first_wait_two id n h joined = rw (find_told σ o id ws, h) refl

  -- "Entering a return that has no accepted verdict .. is refused 11"
  pub no_verdict_enter : (id : ℕ) (p : Pending) → find pending_id id ws ≡ some p → is_accepted p ≡ false
      → refusal_of σ o (at (is_open ws) ds) (enter id) ≡ 11
  unfolding refusal_of ledger_state ledger_stage enter_refusal while_open while_entry ledger_wait
  no_verdict_enter id (waits_one n) h e = rw (find_told σ o id ws, h) refl
  no_verdict_enter id (waitsTwo n x y) h e = rw (find_told σ o id ws, h) refl
  no_verdict_enter id (waitsEntry n x y) h e = absurd (true≢false e)

  -- a return that has one is entered
  pub accepted_enter : (id : ℕ) (n : Note) (x y : ℕ) → find pending_id id ws ≡ some (waitsEntry n x y)
      → refusal_of σ o (at (is_open ws) ds) (enter id) ≡ 0
  unfolding refusal_of ledger_state ledger_stage enter_refusal while_open while_entry ledger_wait
  accepted_enter id n x y h = rw (find_told σ o id ws, h) refl

  -- "Dropping is allowed while a return waits", in whatever stage
  pub waiting_drop : (id : ℕ) (p : Pending) → find pending_id id ws ≡ some p → refusal_of σ o (at (is_open ws) ds) (drop id) ≡ 0
  unfolding refusal_of ledger_state ledger_stage drop_refusal while_open while_waiting
  waiting_drop id p h = rw (find_told σ o id ws, h) refl

  -- "a close while any waits is refused 11", for entry too
  pub close_waiting : 0 < length ws → (room : ℕ) → refusal_of σ o (at (is_open ws) ds) (close room) ≡ 11
  unfolding refusal_of ledger_state ledger_stage close_refusal while_open or_else
  close_waiting h room =
      let some : length ts ≡ 0 → ⊥ = λ e. omega (arith, many_told σ o ws) in
      rw (ne_eqb (length ts) 0 some) refl

-- none waits
module _ (σ : Setting) (o : Opened) (ds : List Decided) where
  abbrev open_at : Ledger
  open_at = at (is_open []) ds

  -- a refused call leaves the ledger
  kept : (c : Call) → (refusal_of σ o open_at c ≡ 0 → ⊥) → ledger_step σ o open_at c (refusal_of σ o open_at c) ≡ open_at
  kept c h = ap (λ (b : Bool). cond b (ledger_after σ o open_at c) open_at) (ne_eqb (refusal_of σ o open_at c) 0 h)

  -- at least Q are entered
  pub reached : o.least ≤ length (notes_with is_entered ds) → (room : ℕ) → totals_length σ o ≤ room
      → refusal_of σ o open_at (close room) ≡ 0
  unfolding refusal_of ledger_state ledger_stage close_refusal while_open or_else
  reached h room l = rw (le-leb o.least (length (notes_with is_entered ds)) h, le-leb (totals_length σ o) room l) refl

  -- "too few accepted is refused 15"
  pub too_few : length (notes_with is_entered ds) < o.least → (room : ℕ) → refusal_of σ o open_at (close room) ≡ 15
  unfolding refusal_of ledger_state ledger_stage close_refusal while_open or_else
  too_few h room = rw (lt-leb o.least (length (notes_with is_entered ds)) h) refl

  -- with fewer and N decided every call is refused
  module _ (few : length (notes_with is_entered ds) < o.least) where
    pub few_kept : (room : ℕ) → run_ledger σ o open_at (close room ∷ []) ≡ open_at
    unfolding run_ledger
    few_kept room = kept (close room) (λ e. omega (arith, too_few few room))

    module _ (all : length ds ≡ o.returns) where
      nothing_taken : (c : Call) → refusal_of σ o open_at c ≡ 0 → ⊥
      nothing_taken (share m r s room) e = omega (arith, full σ o [] ds (omega arith) (omega arith) m r s room)
      nothing_taken (round_one id joined room) e = omega (arith, not_waiting_one σ o [] ds id (λ h. h) joined room)
      nothing_taken (round_two id joined) e = omega (arith, not_waiting_two σ o [] ds id (λ h. h) joined)
      nothing_taken (enter id) e = omega (arith, not_waiting_enter σ o [] ds id (λ h. h))
      nothing_taken (drop id) e = omega (arith, not_waiting_drop σ o [] ds id (λ h. h))
      nothing_taken (close room) e = omega (arith, too_few few room)

      pub stays_shut : (cs : List Call) → run_ledger σ o open_at cs ≡ open_at
      unfolding run_ledger
      stays_shut [] = refl
      stays_shut (c ∷ cs) = ap (λ (l : Ledger). run_ledger σ o l cs) (kept c (nothing_taken c)) ∙ stays_shut cs
