-- Where a round was taken on an id. A call that was not refused, wherever it stands in a list, has its messages among those handed in,
-- and they are one of each server, of round one with one pair. A return that waits for round two or for entry had its sums from such
-- messages, since only that move makes one. Assumes nothing.
use mathlib.Core.Path.{◌≡◌, refl, sym, ap, ◌∙◌, subst}
use mathlib.Core.Logic.{inl, inr, ◌⊎◌, ⊎_elim}
use mathlib.Core.Bool.{cond}
use mathlib.Core.List.{List, [], ◌∷◌, ◌++◌}
use mathlib.Core.Option.{Option, some, none}
use Prim.Native.Nat.{ℕ}
use native.Mathlib.Omega.{arith}
use lib.Dec.{eqb}
use Rattle.algebra.specs.Lists.{In}
use Rattle.algebra.proofs.Members.{append_in}
use Rattle.rules.specs.Settings.{Setting}
use Rattle.rules.specs.Messages.{place_in}
use Rattle.rules.specs.Keyed.{find}
use Rattle.rules.specs.Server.{Opened, Wait, while_open, while_one, while_two, one_refusal, two_refusal}
use Rattle.rules.specs.Ledger.{Call, round_one, round_two, Answer, Note, Pending, waits_one, waitsTwo, waitsEntry, note_in, pending_id}
use Rattle.rules.specs.Ledger.{Progress, is_open, is_closed, waiting, Decided, Ledger, empty}
use Rattle.rules.specs.Ledger.{ledger_wait, ledger_stage, ledger_state, refusal_of, accept_noted, ledger_step, run_ledger}
use Rattle.rules.specs.Pools.{messages_in, call_messages, handed_in}
use Rattle.rules.proofs.Histories.Shuffled.{rearranged_in}
use Rattle.rules.proofs.Histories.JoinedRuns.{Joined, JoinedOne}
use Rattle.rules.proofs.Histories.Keyed.{through, found_id, find_in, found_out, changed_in}
use Rattle.rules.proofs.Histories.Moves.{at, Moves, stays, notes, sums, accepts, decides, closes, History, over, next}
use Rattle.rules.proofs.Histories.Moves.{sums_of, find_told, one_fault, one_passed, two_fault, two_passed}
use Rattle.rules.proofs.Histories.NotesGrow.{keeps_note, accept_keeps_id}
use Rattle.rules.proofs.Histories.Origins.{Handed, handed_here}

module _ (σ : Setting) (o : Opened) where
  -- messages of round one on an id that were handed in
  pub record SummedOn (hs : List (List ℕ)) (id : ℕ) : Type 0 where
    pub joined : List ℕ
    pub handed : Handed σ o hs 34 joined
    pub sound : JoinedOne σ o.servers id joined

  summed_more : {hs gs : List (List ℕ)} {id : ℕ} → ((m : List ℕ) → In m hs → In m gs) → SummedOn hs id → SummedOn gs id
  summed_more g q = record { joined = q.joined; handed = λ j l. g _ (q.handed j l); sound = q.sound }

  -- ---- a return that is past its first wait
  abbrev pub Second : Pending → Type 0
  Second p = p ≡ waits_one (note_in p) → ⊥

  -- it was so in a ledger, under its id
  pub record Was (l : Ledger) (id : ℕ) : Type 0 where
    which : Pending
    is_in : In which (waiting l.progress)
    has_id : pending_id which ≡ id
    second : Second which

  was : {l : Ledger} {p : Pending} → In p (waiting l.progress) → Second p → Was l (pending_id p)
  was {p = p} h f = record { which = p; is_in = h; has_id = refl; second = f }

  first_summed : {l l' : Ledger} {c : Call} {a : Answer} {h : List (List ℕ)} → Moves σ o l c a h l' → (p : Pending)
      → In p (waiting l'.progress) → Second p → Was l (pending_id p) ⊎ SummedOn h (pending_id p)
  first_summed (stays l n) p h f = inl (was h f)
  first_summed (notes ws ds n t) p (inl e) f = absurd (f (sym e ∙ ap (λ (v : Pending). waits_one (note_in v)) e))
  first_summed (notes ws ds n t) p (inr h) f = inl (was h f)
  first_summed (sums ws ds id n joined w s) p h f =
      ⊎_elim (λ q. inl (was q f))
      (λ (q : (v : Pending) × (find pending_id id ws ≡ some v) × (sums_of σ o joined v ≡ p)). inr (from q.0 q.1 q.2))
      (changed_in pending_id id (sums_of σ o joined) ws p h)
    where
      from : (v : Pending) → find pending_id id ws ≡ some v → sums_of σ o joined v ≡ p
          → SummedOn (messages_in σ o.servers 34 joined) (pending_id p)
      from v a b =
          let found : waits_one n ≡ v = cc in
          let same : n.id ≡ pending_id p =
          ap pending_id found ∙ ap (λ (u : Note). u.id) (sym (keeps_note σ o _ _ v)) ∙ ap pending_id b in
          record {
            joined = joined;
            handed = handed_here σ o 34 joined;
            sound = subst (λ (v : ℕ). JoinedOne σ o.servers v joined) same s;
          }
  first_summed (accepts ws ds id n x y joined w s z) p h f =
      ⊎_elim (λ q. inl (was q f))
      (λ (q : (v : Pending) × (find pending_id id ws ≡ some v) × (accept_noted σ o v ≡ p)).
      let found : waitsTwo n x y ≡ q.0 = cc in
      inl (record {
        which = waitsTwo n x y;
        is_in = find_in pending_id id ws (waitsTwo n x y) w;
        has_id = ap pending_id found ∙ sym (accept_keeps_id σ o q.0) ∙ ap pending_id q.2;
        second = λ e. (let z : ◌≡◌ {A = ℕ} 0 1 = cc in omega arith);
      }))
      (changed_in pending_id id (accept_noted σ o) ws p h)
  first_summed (decides ws ds id q d w s) p h f = inl (was (rearranged_in p (found_out pending_id id ws q w) (inr h)) f)
  first_summed (closes ds q) p h f = absurd h

  -- of a return that was so, by what was so before
  earlier : {l l₁ : Ledger} {id : ℕ} (h hs : List (List ℕ)) (old : Was l₁ id)
      → Was l (pending_id old.which) ⊎ SummedOn h (pending_id old.which) → Was l id ⊎ SummedOn (h ++ hs) id
  earlier {l} h hs old v =
      subst (λ (k : ℕ). Was l k ⊎ SummedOn (h ++ hs) k) old.has_id
      (⊎_elim (λ q. inl q) (λ q. inr (summed_more (λ m k. append_in m h hs (inl k)) q)) v)

  pub summed_on : {l l' : Ledger} {xs : List Answer} {hs : List (List ℕ)} → History σ o l xs hs l'
      → (p : Pending) → In p (waiting l'.progress) → Second p → Was l (pending_id p) ⊎ SummedOn hs (pending_id p)
  summed_on (over l) p q f = inl (was q f)
  summed_on (next {h = h} {hs = hs} mv r) p q f =
      ⊎_elim (λ old. earlier h hs old (first_summed mv old.which old.is_in old.second))
      (λ new. inr (summed_more (λ m k. append_in m h hs (inr k)) new)) (summed_on r p q f)

  -- in a ledger without returns nothing was so
  pub none_was : {id : ℕ} → Was empty id → ⊥
  none_was v = v.is_in

  -- ---- a call that was not refused: its messages were handed in
  pub handed_at : (c : Call) (l : Ledger) (before after : List Call) → refusal_of σ o (run_ledger σ o l before) c ≡ 0
      → (m : List ℕ) → In m (call_messages σ o c) → In m (handed_in σ o l (before ++ (c ∷ after)))
  unfolding run_ledger handed_in
  handed_at c l [] after e m h =
      let all : ℕ → List (List ℕ) = λ f. cond (eqb f 0) (call_messages σ o c) [] ++ handed_in σ o (ledger_step σ o l c f) after in
      subst (λ (f : ℕ). In m (all f)) (sym e)
      (append_in m (call_messages σ o c) (handed_in σ o (ledger_step σ o l c 0) after) (inl h))
  handed_at c l (b ∷ before) after e m h =
      let f : ℕ = refusal_of σ o l b in
      append_in m (cond (eqb f 0) (call_messages σ o b) []) (handed_in σ o (ledger_step σ o l b f) (before ++ (c ∷ after)))
      (inr (handed_at c (ledger_step σ o l b f) before after e m h))

  -- of round one
  module _ (id : ℕ) (joined : List ℕ) (room : ℕ) where
    by_found : (ws : List Pending) (ds : List Decided) (v : Option Pending) → find pending_id id ws ≡ v
        → while_one (through (ledger_wait σ o) v) (one_fault σ o ws ds id joined room) ≡ 0 → JoinedOne σ o.servers id joined
    unfolding while_one ledger_wait
    by_found ws ds none q e = absurd (omega arith)
    by_found ws ds (some (waits_one n)) q e =
        subst (λ (v : ℕ). JoinedOne σ o.servers v joined) (found_id pending_id id ws (waits_one n) q)
        (one_passed σ o ws ds id joined n room e)
    by_found ws ds (some (waitsTwo n x y)) q e = absurd (omega arith)
    by_found ws ds (some (waitsEntry n x y)) q e = absurd (omega arith)

    one_taken_lem : (p : Progress) (ds : List Decided) → refusal_of σ o (at p ds) (round_one id joined room) ≡ 0
        → JoinedOne σ o.servers id joined
    unfolding refusal_of ledger_state ledger_stage one_refusal while_open
    one_taken_lem (is_open ws) ds e =
        by_found ws ds (find pending_id id ws) refl
        (ap (λ (v : Option Wait). while_one v (one_fault σ o ws ds id joined room)) (sym (find_told σ o id ws)) ∙ e)
    one_taken_lem is_closed ds e = absurd (omega arith)

    pub summed_at : (l : Ledger) (before after : List Call)
        → refusal_of σ o (run_ledger σ o l before) (round_one id joined room) ≡ 0
        → SummedOn (handed_in σ o l (before ++ (round_one id joined room ∷ after))) id
    unfolding call_messages
    summed_at l before after e = record {
      joined = joined;
      handed = λ j k. handed_at (round_one id joined room) l before after e (place_in σ 34 joined j) (handed_here σ o 34 joined j k);
      sound = one_taken_lem (run_ledger σ o l before).progress (run_ledger σ o l before).decided e;
    }

  -- and of round two
  module _ (id : ℕ) (joined : List ℕ) where
    by_found_two : (ws : List Pending) (ds : List Decided) (v : Option Pending) → find pending_id id ws ≡ v
        → while_two (through (ledger_wait σ o) v) (two_fault σ o ws ds id joined) ≡ 0 → Joined σ o.servers 35 id joined
    unfolding while_two ledger_wait
    by_found_two ws ds none q e = absurd (omega arith)
    by_found_two ws ds (some (waits_one n)) q e = absurd (omega arith)
    by_found_two ws ds (some (waitsTwo n x y)) q e =
        subst (λ (v : ℕ). Joined σ o.servers 35 v joined) (found_id pending_id id ws (waitsTwo n x y) q)
        (two_passed σ o ws ds id joined n x y e)
    by_found_two ws ds (some (waitsEntry n x y)) q e = absurd (omega arith)

    pub two_taken : (p : Progress) (ds : List Decided) → refusal_of σ o (at p ds) (round_two id joined) ≡ 0
        → Joined σ o.servers 35 id joined
    unfolding refusal_of ledger_state ledger_stage two_refusal while_open
    two_taken (is_open ws) ds e =
        by_found_two ws ds (find pending_id id ws) refl
        (ap (λ (v : Option Wait). while_two v (two_fault σ o ws ds id joined)) (sym (find_told σ o id ws)) ∙ e)
    two_taken is_closed ds e = absurd (omega arith)
