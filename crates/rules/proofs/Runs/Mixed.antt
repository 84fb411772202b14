-- Calls on different returns do not disturb one another. Beside the ledger of a list of calls goes the one of the calls on x
-- that were not refused: it is open and holds of the first what is on x, since a call that is refused, or on another id,
-- leaves that as it was, and a call on x that the first takes, the second takes too and answers alike. Assumes nothing.
use mathlib.Core.Path.{◌≡◌, refl, sym, ap, ap₂, ◌∙◌, subst}
use mathlib.Core.Logic.{◌≢◌}
use mathlib.Core.Bool.{Bool, true, false, cond, ◌&&◌}
use mathlib.Core.List.{List, [], ◌∷◌, ◌++◌, append-nil}
use mathlib.Core.Option.{Option, some, none}
use Prim.Native.Nat.{ℕ}
use native.Mathlib.Omega.{arith}
use borrow.Author.Tests.{eqb-true, eqb-false, ne_eqb}
use lib.Dec.{eqb}
use Rattle.algebra.specs.Lists.{All, all[], all∷}
use Rattle.rules.specs.Settings.{Setting}
use Rattle.rules.specs.Messages.{both_zero}
use Rattle.rules.specs.Keyed.{find, those}
use Rattle.rules.specs.Server.{Opened, while_open, share_refusal, one_refusal, two_refusal, enter_refusal, drop_refusal, close_refusal}
use Rattle.rules.specs.Ledger.{Call, share, round_one, round_two, enter, drop, close, Answer, Pending, waits_one, note_in, pending_id}
use Rattle.rules.specs.Ledger.{Progress, is_open, is_closed, Decision, Decided, Ledger, empty, ledger_stage, ledger_state}
use Rattle.rules.specs.Ledger.{rejected, refusal_of, decide_as, change_waiting, accept_noted, note_of, ledger_after, answer_of, ledger_step, ledger_says, run_ledger}
use Rattle.rules.specs.Ledger.{ledger_answers}
use Rattle.rules.specs.Mixing.{on, decided_id, decided_on, pending_on, taken_on, calls_on, answers_on, Mixing}
use Rattle.rules.specs.Pools.{BytesIn}
use Rattle.rules.proofs.Histories.Keyed.{found_id}
use Rattle.rules.proofs.Histories.Those.{those_not, those_end, find_those, without_other, changed_other}
use Rattle.rules.proofs.Histories.Moves.{at, sums_of, none_waits}
use Rattle.rules.proofs.Histories.NotesGrow.{keeps_id, accept_keeps_id}
use Rattle.rules.proofs.Runs.OneReturn.{Like, part, is_part, passes, answers_alike, after}

module _ (σ : Setting) (o : Opened) (x : ℕ) where
  -- ---- calls on another id, and closing
  decided_other : (ws : List Pending) (ds : List Decided) (a : Ledger) (id : ℕ) (d : Decision) → id ≢ x
      → (v : Option Pending) → find pending_id id ws ≡ v → Like σ o x (at (is_open ws) ds) a → Like σ o x (decide_as σ o id v ws ds d) a
  unfolding decide_as
  decided_other ws ds a id d ne none f k = record { waits = k.waits; decided = k.decided }
  decided_other ws ds a id d ne (some w) f k =
      let e : Decided = record { note = note_in w; decision = d } in
      let away : eqb (pending_id w) x ≡ false = ne_eqb _ _ (λ q. ne (sym (found_id pending_id id ws w f) ∙ q)) in
      record {
        waits = k.waits ∙ ap is_open (sym (without_other pending_id x id ne ws));
        decided = k.decided ∙ sym (those_end (decided_on x) ds e
            ∙ ap (λ (b : Bool). those (decided_on x) ds ++ cond b (e ∷ []) []) away
            ∙ append-nil (those (decided_on x) ds));
      }

  changed_other_id : (ws : List Pending) (ds : List Decided) (a : Ledger) (id : ℕ) (f : Pending → Pending)
      → ((p : Pending) → pending_id (f p) ≡ pending_id p) → id ≢ x → Like σ o x (at (is_open ws) ds) a
      → Like σ o x (change_waiting σ o (at (is_open ws) ds) id f) a
  changed_other_id ws ds a id f keeps ne k =
      record { waits = k.waits ∙ ap is_open (sym (changed_other pending_id x id ne f keeps ws)); decided = k.decided }

  skips : (p : Progress) (ds : List Decided) (a : Ledger) (c : Call) → on x c ≡ false → refusal_of σ o (at p ds) c ≡ 0
      → Like σ o x (at p ds) a → Like σ o x (ledger_after σ o (at p ds) c) a
  unfolding ledger_after refusal_of ledger_state ledger_stage share_refusal one_refusal two_refusal enter_refusal drop_refusal close_refusal while_open
  skips (is_open ws) ds a (share m r s room) q e k = record {
    waits = k.waits ∙ ap is_open (sym (those_not (pending_on x) (waits_one (note_of σ o m r s)) ws q));
    decided = k.decided;
  }
  skips (is_open ws) ds a (round_one id joined room) q e k =
      changed_other_id ws ds a id (sums_of σ o joined) (keeps_id σ o joined) (eqb-false id x q) k
  skips (is_open ws) ds a (round_two id joined) q e k = by_verdict (both_zero σ o.servers joined)
    where
      by_verdict : (b : Bool)
          → Like σ o x (cond b (change_waiting σ o (at (is_open ws) ds) id (accept_noted σ o))
          (decide_as σ o id (find pending_id id ws) ws ds rejected)) a
      by_verdict true = changed_other_id ws ds a id (accept_noted σ o) (accept_keeps_id σ o) (eqb-false id x q) k
      by_verdict false = decided_other ws ds a id _ (eqb-false id x q) (find pending_id id ws) refl k
  skips (is_open ws) ds a (enter id) q e k = decided_other ws ds a id _ (eqb-false id x q) (find pending_id id ws) refl k
  skips (is_open ws) ds a (drop id) q e k = decided_other ws ds a id _ (eqb-false id x q) (find pending_id id ws) refl k
  skips (is_open ws) ds a (close room) q e k = record {
    waits = k.waits ∙ ap (λ (s : List Pending). is_open (those (pending_on x) s)) (none_waits σ o ws _ e);
    decided = k.decided;
  }
  skips is_closed ds a (share m r s room) q e k = absurd (omega arith)
  skips is_closed ds a (round_one id joined room) q e k = absurd (omega arith)
  skips is_closed ds a (round_two id joined) q e k = absurd (omega arith)
  skips is_closed ds a (enter id) q e k = absurd (omega arith)
  skips is_closed ds a (drop id) q e k = absurd (omega arith)
  skips is_closed ds a (close room) q e k = absurd (omega arith)

  -- ---- every list of calls
  record Both (a : Ledger) (cs : List Call) (xs : List Answer) (end : Ledger) : Type 0 where
    answers : ledger_answers σ o a cs ≡ xs
    like : Like σ o x end (run_ledger σ o a cs)

  -- a call that is not refused, and those after it
  taken_first : (a : Ledger) (c : Call) (cs : List Call) (y : Answer) (xs : List Answer) (end : Ledger) → refusal_of σ o a c ≡ 0
      → answer_of σ o a c ≡ y → Both (ledger_after σ o a c) cs xs end → Both a (c ∷ cs) (y ∷ xs) end
  unfolding ledger_answers run_ledger
  taken_first a c cs y xs end e q b = record {
    answers =
        ap (λ (f : ℕ). ledger_says σ o a c f ∷ ledger_answers σ o (ledger_step σ o a c f) cs) e
        ∙ ap₂ (λ (v : Answer) (vs : List Answer). v ∷ vs) q b.answers;
    like = subst (λ (f : ℕ). Like σ o x end (run_ledger σ o (ledger_step σ o a c f) cs)) (sym e) b.like;
  }

  mixed : (l a : Ledger) (cs : List Call) → Like σ o x l a
      → Both a (calls_on σ o x l cs) (answers_on σ o x l cs) (run_ledger σ o l cs)
  unfolding calls_on answers_on run_ledger
  mixed l a [] k = record { answers = unfold ledger_answers in refl; like = k }
  mixed l a (c ∷ cs) k = go (eqb (refusal_of σ o l c) 0) refl (on x c) refl (λ l' a' k'. mixed l' a' cs k')
    where
      go : (b : Bool) → eqb (refusal_of σ o l c) 0 ≡ b → (t : Bool) → on x c ≡ t
          → ((l' a' : Ledger) → Like σ o x l' a' → Both a' (calls_on σ o x l' cs) (answers_on σ o x l' cs) (run_ledger σ o l' cs))
          → (let l' : Ledger = cond b (ledger_after σ o l c) l in
          Both a (cond (b && t) (c ∷ calls_on σ o x l' cs) (calls_on σ o x l' cs))
          (cond (b && t) (answer_of σ o l c ∷ answers_on σ o x l' cs) (answers_on σ o x l' cs)) (run_ledger σ o l' cs))
      go true e true q rec =
          let is : part σ o x l ≡ a = sym (is_part σ o x l a k) in
          let z : refusal_of σ o a c ≡ 0 =
          subst (λ (v : Ledger). refusal_of σ o v c ≡ 0) is (passes σ o x l.progress l.decided c q (eqb-true _ _ e)) in
          let y : answer_of σ o a c ≡ answer_of σ o l c =
          subst (λ (v : Ledger). answer_of σ o v c ≡ answer_of σ o l c) is (answers_alike σ o x l c q) in
          let k' : Like σ o x (ledger_after σ o l c) (ledger_after σ o a c) =
          subst (λ (v : Ledger). Like σ o x (ledger_after σ o l c) (ledger_after σ o v c)) is (after σ o x l c q) in
          taken_first a c _ _ _ _ z y (rec (ledger_after σ o l c) (ledger_after σ o a c) k')
      go true e false q rec = rec (ledger_after σ o l c) a (skips l.progress l.decided a c q (eqb-true _ _ e) k)
      go false e t q rec = rec l a k

  -- A return gets the verdict that its unrefused calls alone, in their order, would give
  pub mixing : (cs : List Call) → Mixing σ o x cs
  unfolding those
  mixing cs =
      let b : Both empty (calls_on σ o x empty cs) (answers_on σ o x empty cs) (run_ledger σ o empty cs) =
      mixed empty empty cs (record { waits = refl; decided = refl }) in
      record {
        answers = b.answers;
        verdict = ap (find decided_id x) b.like.decided ∙ find_those decided_id x (run_ledger σ o empty cs).decided;
        decided = b.like.decided;
        waits = b.like.waits;
      }

-- the calls on an id are calls of the list
pub bytes_on : (σ : Setting) (o : Opened) (x : ℕ) (l : Ledger) (cs : List Call) → All BytesIn cs → All BytesIn (calls_on σ o x l cs)
unfolding calls_on
bytes_on σ o x l [] all[] = all[]
bytes_on σ o x l (c ∷ cs) (all∷ b bs) =
    go (taken_on σ o x l c) (bytes_on σ o x (ledger_step σ o l c (refusal_of σ o l c)) cs bs)
  where
    go : {rest : List Call} (t : Bool) → All BytesIn rest → All BytesIn (cond t (c ∷ rest) rest)
    go true r = all∷ b r
    go false r = r
