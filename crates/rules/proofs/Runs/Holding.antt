-- A return that waits is left alone by every call that is not on its id: such a call, a close too, is refused or concerns
-- another return. So the next call on the id finds it as it was. Assumes nothing.
use mathlib.Core.Path.{◌≡◌, refl, ap, ap₂, ◌∙◌}
use mathlib.Core.Logic.{◌≢◌}
use mathlib.Core.Bool.{Bool, true, false, cond}
use mathlib.Core.List.{List, [], ◌∷◌}
use mathlib.Core.Option.{Option, some, none}
use Prim.Native.Nat.{ℕ}
use native.Mathlib.Omega.{arith}
use borrow.Author.Tests.{eqb-true, eqb-false}
use lib.Dec.{eqb}
use Rattle.algebra.specs.Lists.{All, all[], all∷}
use Rattle.rules.specs.Settings.{Setting}
use Rattle.rules.specs.Messages.{both_zero}
use Rattle.rules.specs.Keyed.{find, changed, those}
use Rattle.rules.specs.Server.{Opened, while_open, close_refusal}
use Rattle.rules.specs.Ledger.{Call, share, round_one, round_two, enter, drop, close, Answer, Pending, pending_id, is_open, rejected}
use Rattle.rules.specs.Ledger.{Decision, Decided, Ledger, ledger_stage, ledger_state, refusal_of, decide_as, accept_noted}
use Rattle.rules.specs.Ledger.{ledger_after, answer_of, ledger_step, ledger_says, ledger_answers}
use Rattle.rules.specs.Mixing.{on, answers_to}
use Rattle.rules.proofs.Histories.Keyed.{found_past}
use Rattle.rules.proofs.Histories.Those.{find_without, find_changed}
use Rattle.rules.proofs.Histories.Moves.{at, sums_of, none_waits}
use Rattle.rules.proofs.Histories.NotesGrow.{keeps_id, accept_keeps_id}

module _ (σ : Setting) (o : Opened) (id : ℕ) where
  pub data Holds (p : Pending) : Ledger → Type 0 where
    holds : (ws : List Pending) (ds : List Decided) → find pending_id id ws ≡ some p → Holds p (at (is_open ws) ds)

  decided_holds : (p : Pending) (ws : List Pending) (ds : List Decided) → find pending_id id ws ≡ some p → (x : ℕ) → x ≢ id
      → (v : Option Pending) (d : Decision) → Holds p (decide_as σ o x v ws ds d)
  unfolding decide_as
  decided_holds p ws ds h x ne none d = holds ws ds h
  decided_holds p ws ds h x ne (some w) d = holds _ _ (find_without pending_id id x ne ws ∙ h)

  waits_still : (p : Pending) (ws : List Pending) → find pending_id id ws ≡ some p → ws ≡ [] → ⊥
  unfolding find
  waits_still p [] h e = let z : ◌≡◌ {A = ℕ} 0 1 = cc in omega arith
  waits_still p (w ∷ ws) h e = let z : ◌≡◌ {A = ℕ} 0 1 = cc in omega arith

  after_holds : (p : Pending) (ws : List Pending) (ds : List Decided) → find pending_id id ws ≡ some p → (c : Call)
      → on id c ≡ false → refusal_of σ o (at (is_open ws) ds) c ≡ 0 → Holds p (ledger_after σ o (at (is_open ws) ds) c)
  unfolding ledger_after refusal_of ledger_state ledger_stage close_refusal while_open
  after_holds p ws ds h (share m r s room) q e = holds _ ds (found_past pending_id id _ ws (some p) q h)
  after_holds p ws ds h (round_one x joined room) q e =
      holds _ ds (find_changed pending_id id x (eqb-false x id q) (sums_of σ o joined) (keeps_id σ o joined) ws ∙ h)
  after_holds p ws ds h (round_two x joined) q e = by_verdict (both_zero σ o.servers joined)
    where
      by_verdict : (b : Bool)
          → Holds p (cond b (at (is_open (changed pending_id x (accept_noted σ o) ws)) ds) (decide_as σ o x (find pending_id x ws) ws ds rejected))
      by_verdict true = holds _ ds (find_changed pending_id id x (eqb-false x id q) (accept_noted σ o) (accept_keeps_id σ o) ws ∙ h)
      by_verdict false = decided_holds p ws ds h x (eqb-false x id q) _ _
  after_holds p ws ds h (enter x) q e = decided_holds p ws ds h x (eqb-false x id q) _ _
  after_holds p ws ds h (drop x) q e = decided_holds p ws ds h x (eqb-false x id q) _ _
  after_holds p ws ds h (close room) q e = absurd (waits_still p ws h (none_waits σ o ws _ e))

  step_holds : (p : Pending) (l : Ledger) → Holds p l → (c : Call) → on id c ≡ false
      → Holds p (ledger_step σ o l c (refusal_of σ o l c))
  step_holds p _ (holds ws ds h) c q = go (eqb (refusal_of σ o (at (is_open ws) ds) c) 0) refl
    where
      go : (b : Bool) → eqb (refusal_of σ o (at (is_open ws) ds) c) 0 ≡ b
          → Holds p (cond b (ledger_after σ o (at (is_open ws) ds) c) (at (is_open ws) ds))
      go true e = after_holds p ws ds h c q (eqb-true _ _ e)
      go false e = holds ws ds h

  -- ---- the answers to the calls on the id
  pub none_on : (l : Ledger) (cs : List Call) → those (on id) cs ≡ [] → answers_to σ o id l cs ≡ []
  unfolding those answers_to
  none_on l [] e = refl
  none_on l (c ∷ cs) e = go (on id c) e (none_on (ledger_step σ o l c (refusal_of σ o l c)) cs)
    where
      go : (b : Bool) → cond b (c ∷ those (on id) cs) (those (on id) cs) ≡ []
          → (those (on id) cs ≡ [] → answers_to σ o id (ledger_step σ o l c (refusal_of σ o l c)) cs ≡ [])
          → cond b (ledger_says σ o l c (refusal_of σ o l c) ∷ answers_to σ o id (ledger_step σ o l c (refusal_of σ o l c)) cs)
          (answers_to σ o id (ledger_step σ o l c (refusal_of σ o l c)) cs)
          ≡ []
      go true e r = absurd (let z : ◌≡◌ {A = ℕ} 0 1 = cc in omega arith)
      go false e r = r e

  -- where all are on it these are all the answers
  pub all_on : (l : Ledger) (cs : List Call) → All (λ c. on id c ≡ true) cs → answers_to σ o id l cs ≡ ledger_answers σ o l cs
  unfolding answers_to ledger_answers
  all_on l [] all[] = refl
  all_on l (c ∷ cs) (all∷ q qs) =
      let f : ℕ = refusal_of σ o l c in
      rw q (ap (λ (v : List Answer). ledger_says σ o l c f ∷ v) (all_on (ledger_step σ o l c f) cs qs))

  -- the first call on the id is `next`: it is taken, and answered by a
  module _ (p : Pending) (next : Call) (a : Answer) (rest : List Call) (xs : List Answer)
      (passes : (ws : List Pending) (ds : List Decided) → find pending_id id ws ≡ some p
      → refusal_of σ o (at (is_open ws) ds) next ≡ 0)
      (answers : (ws : List Pending) (ds : List Decided) → find pending_id id ws ≡ some p
      → answer_of σ o (at (is_open ws) ds) next ≡ a)
      (later : (ws : List Pending) (ds : List Decided) → find pending_id id ws ≡ some p → (cs : List Call)
      → those (on id) cs ≡ rest → answers_to σ o id (ledger_after σ o (at (is_open ws) ds) next) cs ≡ xs) where
    -- the answer to a call and those after it, by the call's refusal
    abbrev from : Ledger → Call → List Call → ℕ → List Answer
    from l c cs f = ledger_says σ o l c f ∷ answers_to σ o id (ledger_step σ o l c f) cs

    taken_next : (ws : List Pending) (ds : List Decided) → find pending_id id ws ≡ some p → (c : Call) (cs : List Call)
        → c ≡ next → those (on id) cs ≡ rest
        → from (at (is_open ws) ds) c cs (refusal_of σ o (at (is_open ws) ds) c) ≡ a ∷ xs
    taken_next ws ds h c cs same q =
        let l : Ledger = at (is_open ws) ds in
        ap (λ (d : Call). from l d cs (refusal_of σ o l d)) same
        ∙ ap (from l next cs) (passes ws ds h)
        ∙ ap₂ (λ (y : Answer) (ys : List Answer). y ∷ ys) (answers ws ds h) (later ws ds h cs q)

    pub first_on : (l : Ledger) → Holds p l → (cs : List Call) → those (on id) cs ≡ next ∷ rest → answers_to σ o id l cs ≡ a ∷ xs
    unfolding those answers_to
    first_on l k [] e = absurd (let z : ◌≡◌ {A = ℕ} 0 1 = cc in omega arith)
    first_on _ (holds ws ds h) (c ∷ cs) e =
        go (on id c) refl e (λ q k. first_on (ledger_step σ o now c fault) k cs q)
      where
        now : Ledger
        now = at (is_open ws) ds

        fault : ℕ
        fault = refusal_of σ o now c

        go : (b : Bool) → on id c ≡ b → cond b (c ∷ those (on id) cs) (those (on id) cs) ≡ next ∷ rest
            → (those (on id) cs ≡ next ∷ rest → Holds p (ledger_step σ o now c fault)
            → answers_to σ o id (ledger_step σ o now c fault) cs ≡ a ∷ xs)
            → cond b (from now c cs fault) (answers_to σ o id (ledger_step σ o now c fault) cs) ≡ a ∷ xs
        go true q e r =
            let same : c ≡ next = cc in
            let after : those (on id) cs ≡ rest = cc in
            taken_next ws ds h c cs same after
        go false q e r = r e (step_holds p now (holds ws ds h) c q)
