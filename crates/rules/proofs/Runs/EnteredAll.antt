-- A ledger in which all that waits is accepted enters it return by return: nothing is refused, and in the end nothing waits and each is
-- entered. Calls one after another, and what is handed in by calls without messages. By induction on the list. Assumes nothing.
use mathlib.Core.Path.{◌≡◌, refl, sym, ap, ap₂, ◌∙◌}
use mathlib.Core.Logic.{inl, inr}
use mathlib.Core.Bool.{Bool, true, false, cond, true≢false}
use mathlib.Core.List.{List, [], ◌∷◌, ◌++◌, map, append_assoc, append-nil}
use mathlib.Core.Option.{Option, some}
use Prim.Native.Nat.{ℕ}
use borrow.Author.Tests.{eq-eqb}
use lib.Dec.{eqb}
use lib.ListN.{length, replicate}
use Rattle.algebra.specs.Lists.{All, all[], all∷, In}
use Rattle.rules.specs.Settings.{Setting}
use Rattle.rules.specs.Keyed.{find, without}
use Rattle.rules.specs.Server.{Opened}
use Rattle.rules.specs.Ledger.{Call, enter, Answer, done, Note, Pending, waits_one, waitsTwo, waitsEntry, note_in, pending_id}
use Rattle.rules.specs.Ledger.{is_accepted, is_open, Decision, entered, Decided, Ledger, notes_with}
use Rattle.rules.specs.Ledger.{refusal_of, decide_as, ledger_after, answer_of, ledger_step, ledger_says, run_ledger, ledger_answers}
use Rattle.rules.specs.Pools.{call_messages, handed_in}
use Rattle.rules.proofs.Histories.Keyed.{found_here}
use Rattle.rules.proofs.Histories.Moves.{at, decided_as}
use Rattle.rules.proofs.Runs.Refusing.{accepted_enter}

-- ---- the notes of decisions one after another
module _ (t : Decision → Bool) where
  pub with_append : (ds ks : List Decided) → notes_with t (ds ++ ks) ≡ notes_with t ds ++ notes_with t ks
  unfolding notes_with
  with_append [] ks = refl
  with_append (d ∷ ds) ks = go (t d.decision) (with_append ds ks)
    where
      go : (b : Bool) → notes_with t (ds ++ ks) ≡ notes_with t ds ++ notes_with t ks
          → cond b (d.note ∷ notes_with t (ds ++ ks)) (notes_with t (ds ++ ks))
          ≡ cond b (d.note ∷ notes_with t ds) (notes_with t ds) ++ notes_with t ks
      go true r = ap (λ (s : List Note). d.note ∷ s) r
      go false r = r

-- the returns that are entered
abbrev pub all_entered : List Pending → List Decided
all_entered ws = map (λ p. decided_as (note_in p) entered) ws

pub with_entered : (t : Decision → Bool) → t entered ≡ true → (ws : List Pending) → notes_with t (all_entered ws) ≡ map note_in ws
unfolding notes_with
with_entered t e [] = refl
with_entered t e (w ∷ ws) = rw e (ap (λ (s : List Note). note_in w ∷ s) (with_entered t e ws))

pub without_entered : (t : Decision → Bool) → t entered ≡ false → (ws : List Pending) → notes_with t (all_entered ws) ≡ []
unfolding notes_with
without_entered t e [] = refl
without_entered t e (w ∷ ws) = rw e (without_entered t e ws)

module _ (σ : Setting) (o : Opened) where
  -- ---- calls one after another
  pub answers_append : (l : Ledger) (cs ds : List Call)
      → ledger_answers σ o l (cs ++ ds) ≡ ledger_answers σ o l cs ++ ledger_answers σ o (run_ledger σ o l cs) ds
  unfolding run_ledger ledger_answers
  answers_append l [] ds = refl
  answers_append l (c ∷ cs) ds =
      ap (λ (s : List Answer). ledger_says σ o l c (refusal_of σ o l c) ∷ s)
      (answers_append (ledger_step σ o l c (refusal_of σ o l c)) cs ds)

  pub handed_append : (l : Ledger) (cs ds : List Call)
      → handed_in σ o l (cs ++ ds) ≡ handed_in σ o l cs ++ handed_in σ o (run_ledger σ o l cs) ds
  unfolding run_ledger handed_in
  handed_append l [] ds = refl
  handed_append l (c ∷ cs) ds =
      let here : List (List ℕ) = cond (eqb (refusal_of σ o l c) 0) (call_messages σ o c) [] in
      ap (λ (s : List (List ℕ)). here ++ s) (handed_append (ledger_step σ o l c (refusal_of σ o l c)) cs ds)
      ∙ sym (append_assoc here _ _)

  -- calls without messages hand none in
  pub none_handed : (l : Ledger) (cs : List Call) → All (λ c. call_messages σ o c ≡ []) cs → handed_in σ o l cs ≡ []
  unfolding handed_in
  none_handed l [] all[] = refl
  none_handed l (c ∷ cs) (all∷ e es) =
      ap₂ (λ (x y : List (List ℕ)). x ++ y) (go (eqb (refusal_of σ o l c) 0)) (none_handed (ledger_step σ o l c (refusal_of σ o l c)) cs es)
    where
      go : (b : Bool) → cond b (call_messages σ o c) [] ≡ []
      go true = e
      go false = refl

  -- ---- the first that waits is entered
  module _ (p : Pending) (ws : List Pending) (ds : List Decided) (is : is_accepted p ≡ true) where
    abbrev here : Ledger
    here = at (is_open (p ∷ ws)) ds

    abbrev next : Ledger
    next = at (is_open ws) (ds ++ (decided_as (note_in p) entered ∷ []))

    taken : refusal_of σ o here (enter (pending_id p)) ≡ 0
    taken = go p is (found_here pending_id (pending_id p) p ws refl)
      where
        go : (v : Pending) → is_accepted v ≡ true → find pending_id (pending_id p) (p ∷ ws) ≡ some v → refusal_of σ o here (enter (pending_id p)) ≡ 0
        go (waits_one n) e h = absurd (true≢false (sym e))
        go (waitsTwo n x y) e h = absurd (true≢false (sym e))
        go (waitsEntry n x y) e h = accepted_enter σ o (p ∷ ws) ds (pending_id p) n x y h

    leaves : ledger_after σ o here (enter (pending_id p)) ≡ next
    unfolding ledger_after decide_as without
    leaves =
        ap (λ (v : Option Pending). decide_as σ o (pending_id p) v (p ∷ ws) ds entered) (found_here pending_id (pending_id p) p ws refl)
        ∙ ap (λ (b : Bool). at (is_open (cond b ws (p ∷ without pending_id (pending_id p) ws))) (ds ++ (decided_as (note_in p) entered ∷ [])))
        (eq-eqb (pending_id p) (pending_id p) refl)

    pub enter_step : ledger_step σ o here (enter (pending_id p)) (refusal_of σ o here (enter (pending_id p))) ≡ next
    enter_step = ap (ledger_step σ o here (enter (pending_id p))) taken ∙ leaves

    pub enter_says : ledger_says σ o here (enter (pending_id p)) (refusal_of σ o here (enter (pending_id p))) ≡ done
    unfolding answer_of
    enter_says = ap (ledger_says σ o here (enter (pending_id p))) taken

  -- ---- and then the others
  pub entered_all : (ws : List Pending) (ds : List Decided) → ((p : Pending) → In p ws → is_accepted p ≡ true)
      → run_ledger σ o (at (is_open ws) ds) (map enter (map pending_id ws)) ≡ at (is_open []) (ds ++ all_entered ws)
  unfolding run_ledger
  entered_all [] ds h = ap (at (is_open [])) (sym (append-nil ds))
  entered_all (p ∷ ws) ds h =
      ap (λ (l : Ledger). run_ledger σ o l (map enter (map pending_id ws))) (enter_step p ws ds (h p (inl refl)))
      ∙ entered_all ws (ds ++ (decided_as (note_in p) entered ∷ [])) (λ v k. h v (inr k))
      ∙ ap (at (is_open [])) (append_assoc ds (decided_as (note_in p) entered ∷ []) (all_entered ws))

  pub all_done : (ws : List Pending) (ds : List Decided) → ((p : Pending) → In p ws → is_accepted p ≡ true)
      → ledger_answers σ o (at (is_open ws) ds) (map enter (map pending_id ws)) ≡ replicate (length (map pending_id ws)) done
  unfolding ledger_answers
  all_done [] ds h = refl
  all_done (p ∷ ws) ds h =
      ap₂ (λ (a : Answer) (s : List Answer). a ∷ s) (enter_says p ws ds (h p (inl refl)))
      (ap (λ (l : Ledger). ledger_answers σ o l (map enter (map pending_id ws))) (enter_step p ws ds (h p (inl refl)))
      ∙ all_done ws (ds ++ (decided_as (note_in p) entered ∷ [])) (λ v k. h v (inr k)))
