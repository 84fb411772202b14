-- Verdicts and what they come to. A return stands in a ledger as accepted, waiting for entry or entered, or as rejected, only where a
-- round two on it was answered so, for no other move makes it stand so. Assumes nothing.
use mathlib.Core.Path.{◌≡◌, refl, sym, ap, ◌∙◌, subst}
use mathlib.Core.Logic.{inl, inr, ◌⊎◌, ⊎_elim}
use mathlib.Core.Bool.{Bool, true, false, cond, false≢true}
use mathlib.Core.List.{List}
use mathlib.Core.Option.{some}
use Prim.Native.Nat.{ℕ}
use native.Mathlib.Omega.{arith}
use borrow.Author.Tests.{eqb-true}
use lib.Dec.{eqb}
use Rattle.algebra.specs.Lists.{All, In}
use Rattle.rules.specs.Settings.{Setting}
use Rattle.rules.specs.Messages.{both_zero}
use Rattle.rules.specs.Keyed.{find}
use Rattle.rules.specs.Server.{Opened}
use Rattle.rules.specs.Ledger.{Call, round_two, Answer, refused, judged, Note, Pending, waits_one, waitsTwo, waitsEntry, note_in}
use Rattle.rules.specs.Ledger.{pending_id, is_open, waiting, Decision, entered, rejected, Decided, Ledger, is_entered, is_rejected}
use Rattle.rules.specs.Ledger.{refusal_of, sums_noted, accept_noted, answer_of, ledger_says, run_ledger}
use Rattle.rules.specs.Pools.{BytesIn, AnsweredIn}
use Rattle.rules.proofs.Histories.Shuffled.{rearranged_in}
use Rattle.rules.proofs.Histories.Keyed.{found_id, find_in, found_out, changed_in}
use Rattle.rules.proofs.Histories.Moves.{at, decided_as, Decides, rejects, enters, drops, Moves, stays, notes, sums, accepts, decides}
use Rattle.rules.proofs.Histories.Moves.{closes, sums_of}
use Rattle.rules.proofs.Histories.Answers.{CameBy, came_by}
use Rattle.rules.proofs.Histories.Ended.{last_or}

module _ (σ : Setting) (o : Opened) where
  -- a call that was answered by a verdict was not refused, and its messages gave the verdict
  pub verdict_taken : (l : Ledger) (id : ℕ) (joined : List ℕ) (v : Bool)
      → ledger_says σ o l (round_two id joined) (refusal_of σ o l (round_two id joined)) ≡ judged v
      → (refusal_of σ o l (round_two id joined) ≡ 0) × (both_zero σ o.servers joined ≡ v)
  unfolding answer_of
  verdict_taken l id joined v e = go (eqb (refusal_of σ o l (round_two id joined)) 0) refl e
    where
      f : ℕ
      f = refusal_of σ o l (round_two id joined)

      go : (b : Bool) → eqb f 0 ≡ b → cond b (answer_of σ o l (round_two id joined)) (refused f) ≡ judged v
          → (f ≡ 0) × (both_zero σ o.servers joined ≡ v)
      go true q e = (eqb-true f 0 q, cc)
      go false q e = absurd (let z : ◌≡◌ {A = ℕ} 0 1 = cc in omega arith)

  -- ---- how a return stands that has a verdict
  pub data Stands (l : Ledger) (id : ℕ) : Bool → Type 0 where
    awaits : (n : Note) (x y : ℕ) → In (waitsEntry n x y) (waiting l.progress) → n.id ≡ id → Stands l id true
    was_entered : (n : Note) → In (decided_as n entered) l.decided → n.id ≡ id → Stands l id true
    was_rejected : (n : Note) → In (decided_as n rejected) l.decided → n.id ≡ id → Stands l id false

  -- a round two on the id, and its answer
  abbrev Answered : ℕ → Bool → Call → Answer → Type 0
  Answered id v c a = (joined : List ℕ) × (c ≡ round_two id joined) × (a ≡ judged v)

  -- ---- a move that makes it stand so is a round two
  new_entered : {id : ℕ} {c : Call} {p : Pending} {d : Decision} {a : Answer} {h : List (List ℕ)} → Decides σ o id c p d a h
      → (n : Note) → decided_as (note_in p) d ≡ decided_as n entered → (m : Note) × (x : ℕ) × (y : ℕ) × (p ≡ waitsEntry m x y) × (m ≡ n)
  new_entered (rejects m x y joined s z) n e = absurd (false≢true (ap (λ (k : Decided). is_entered k.decision) e))
  new_entered (enters m x y) n e = (m, x, y, refl, ap (λ (k : Decided). k.note) e)
  new_entered (drops p) n e = absurd (false≢true (ap (λ (k : Decided). is_entered k.decision) e))

  new_rejected : {id : ℕ} {c : Call} {p : Pending} {d : Decision} {a : Answer} {h : List (List ℕ)} → Decides σ o id c p d a h
      → (n : Note) → decided_as (note_in p) d ≡ decided_as n rejected → Answered id false c a
  new_rejected (rejects m x y joined s z) n e = (joined, refl, refl)
  new_rejected (enters m x y) n e = absurd (false≢true (ap (λ (k : Decided). is_rejected k.decision) e))
  new_rejected (drops p) n e = absurd (false≢true (ap (λ (k : Decided). is_rejected k.decision) e))

  abbrev here : List Pending → List Decided → Ledger
  here ws ds = at (is_open ws) ds

  first_stands : {l l' : Ledger} {c : Call} {a : Answer} {h : List (List ℕ)} → Moves σ o l c a h l' → (id : ℕ) (v : Bool) → Stands l' id v
      → Stands l id v ⊎ Answered id v c a
  unfolding sums_noted accept_noted
  first_stands (stays l n) id v s = inl s
  first_stands (notes ws ds n t) id _ (awaits m x y (inl q) e) = absurd (let z : ◌≡◌ {A = ℕ} 0 1 = cc in omega arith)
  first_stands (notes ws ds n t) id _ (awaits m x y (inr q) e) = inl (awaits m x y q e)
  first_stands (notes ws ds n t) id _ (was_entered m q e) = inl (was_entered m q e)
  first_stands (notes ws ds n t) id _ (was_rejected m q e) = inl (was_rejected m q e)
  first_stands (sums ws ds k n joined w j) id _ (awaits m x y q e) =
      ⊎_elim (λ old. inl (awaits m x y old e))
      (λ (new : (v : Pending) × (find pending_id k ws ≡ some v) × (sums_of σ o joined v ≡ waitsEntry m x y)).
      let found : waits_one n ≡ new.0 = cc in
      let made : sums_of σ o joined (waits_one n) ≡ waitsEntry m x y = ap (sums_of σ o joined) found ∙ new.2 in
      absurd (let z : ◌≡◌ {A = ℕ} 0 1 = cc in omega arith))
      (changed_in pending_id k (sums_of σ o joined) ws (waitsEntry m x y) q)
  first_stands (sums ws ds k n joined w j) id _ (was_entered m q e) = inl (was_entered m q e)
  first_stands (sums ws ds k n joined w j) id _ (was_rejected m q e) = inl (was_rejected m q e)
  first_stands (accepts ws ds k n r s joined w j z) id _ (awaits m x y q e) =
      ⊎_elim (λ old. inl (awaits m x y old e))
      (λ (new : (v : Pending) × (find pending_id k ws ≡ some v) × (accept_noted σ o v ≡ waitsEntry m x y)).
      let found : waitsTwo n r s ≡ new.0 = cc in
      let made : waitsEntry n r s ≡ waitsEntry m x y = ap (accept_noted σ o) found ∙ new.2 in
      let same : k ≡ id = sym (found_id pending_id k ws (waitsTwo n r s) w) ∙ ap pending_id made ∙ e in
      inr (joined, ap (λ (u : ℕ). round_two u joined) same, refl))
      (changed_in pending_id k (accept_noted σ o) ws (waitsEntry m x y) q)
  first_stands (accepts ws ds k n r s joined w j z) id _ (was_entered m q e) = inl (was_entered m q e)
  first_stands (accepts ws ds k n r s joined w j z) id _ (was_rejected m q e) = inl (was_rejected m q e)
  first_stands (decides ws ds k p d w s) id _ (awaits m x y q e) =
      inl (awaits m x y (rearranged_in (waitsEntry m x y) (found_out pending_id k ws p w) (inr q)) e)
  first_stands (decides ws ds k p d w s) id _ (was_entered m q e) =
      ⊎_elim (λ old. inl (was_entered m old e))
      (λ (new : decided_as (note_in p) d ≡ decided_as m entered).
      let was = new_entered s m new in
      inl (awaits was.0 was.1 was.2
      (subst (λ (u : Pending). In u ws) was.3 (find_in pending_id k ws p w))
      (ap (λ (u : Note). u.id) was.4 ∙ e)))
      (last_or ds (decided_as (note_in p) d) (decided_as m entered) q)
  first_stands (decides ws ds k p d w s) id _ (was_rejected m q e) =
      ⊎_elim (λ old. inl (was_rejected m old e))
      (λ (new : decided_as (note_in p) d ≡ decided_as m rejected).
      let answer = new_rejected s m new in
      let same : k ≡ id = sym (found_id pending_id k ws p w) ∙ ap (λ (u : Decided). u.note.id) new ∙ e in
      inr (answer.0, answer.1 ∙ ap (λ (u : ℕ). round_two u answer.0) same, answer.2))
      (last_or ds (decided_as (note_in p) d) (decided_as m rejected) q)
  first_stands (closes ds q) id _ (awaits m x y k e) = absurd k
  first_stands (closes ds q) id _ (was_entered m k e) = inl (was_entered m k e)
  first_stands (closes ds q) id _ (was_rejected m k e) = inl (was_rejected m k e)

  -- it stood so before, or a round two of the list was answered so
  pub record JudgedIn (l : Ledger) (cs : List Call) (id : ℕ) (v : Bool) : Type 0 where
    pub joined : List ℕ
    pub by : AnsweredIn σ o l cs (round_two id joined) (judged v)

  pub stands_judged : (l : Ledger) (cs : List Call) → All BytesIn cs → (id : ℕ) (v : Bool) → Stands (run_ledger σ o l cs) id v
      → Stands l id v ⊎ JudgedIn l cs id v
  stands_judged l cs bs id v s =
      ⊎_elim (λ old. inl old) (λ q. inr (from q))
      (came_by σ o (λ k. Stands k id v) (Answered id v) (λ l l' c a h m. first_stands m id v) l cs bs s)
    where
      from : CameBy σ o (Answered id v) l cs → JudgedIn l cs id v
      from q =
          let made = q.makes_it in
          record {
            joined = made.0;
            by = subst (λ (c : Call). AnsweredIn σ o l cs c (judged v)) made.1
                (subst (AnsweredIn σ o l cs q.call) made.2 q.is_in);
          }
