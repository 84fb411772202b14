-- What a ledger holds of one return takes the calls on that return that the ledger takes, answers them alike, and holds the
-- same of it afterwards: it has fewer returns, the same one under the id, and the checks of messages and of the pair do not
-- look at the ledger. Assumes nothing.
use mathlib.Core.Path.{◌≡◌, refl, sym, ap, ap₂, ◌∙◌, subst}
use mathlib.Core.Bool.{Bool, true, false, cond, not, ◌||◌, false≢true}
use mathlib.Core.List.{List, [], ◌∷◌, ◌++◌, map, map-map}
use mathlib.Core.Option.{Option, some, none}
use Prim.Native.Nat.{ℕ, ◌+◌, ◌<◌}
use native.Mathlib.Omega.{arith}
use borrow.Author.Tests.{eqb-true, ltb-true, lt-ltb, eq-eqb}
use lib.Dec.{eqb, ltb}
use lib.ListN.{length}
use Rattle.records.specs.Outcome.{or_else}
use Rattle.records.proofs.Outcome.{or_zero}
use Rattle.rules.specs.Settings.{Setting}
use Rattle.rules.specs.Columns.{check}
use Rattle.rules.specs.Messages.{id_in, both_zero}
use Rattle.rules.specs.Keyed.{find, without, changed, those}
use Rattle.rules.specs.Server.{Opened, held_id, most_waiting, is_member, while_open}
use Rattle.rules.specs.Server.{share_refusal, one_refusal, two_refusal, enter_refusal, drop_refusal, close_refusal}
use Rattle.rules.specs.Ledger.{Call, share, round_one, round_two, enter, drop, close, wrote, Note, Pending, waits_one, note_in, pending_id}
use Rattle.rules.specs.Ledger.{Progress, is_open, is_closed, waiting, entered, rejected, dropped, Decision, Decided, Ledger, accept_noted}
use Rattle.rules.specs.Ledger.{ids_of, notes_of, ledger_wait, ledger_stage, ledger_state, refusal_of, decide_as, note_of, ledger_after}
use Rattle.rules.specs.Ledger.{decide_waiting, change_waiting, second_message, answer_of}
use Rattle.rules.specs.Mixing.{on, decided_id, decided_on, pending_on}
use Rattle.rules.proofs.Histories.Keyed.{member_append, through, found_id}
use Rattle.rules.proofs.Histories.Those.{those_here, those_end, those_few}
use Rattle.rules.proofs.Histories.Those.{find_those, without_those, changed_those, member_those}
use Rattle.rules.proofs.Histories.Moves.{at, many_used, many_told, id_told, find_told, sums_of}
use Rattle.rules.proofs.Histories.NotesGrow.{keeps_id, accept_keeps_id}

-- ---- checks in an order pass where each does
or_both : (a b a' b' : ℕ) → (a ≡ 0 → a' ≡ 0) → (b ≡ 0 → b' ≡ 0) → or_else a b ≡ 0 → or_else a' b' ≡ 0
unfolding or_else
or_both a b a' b' f g e = let z = or_zero a b e in rw (f z.0) (g z.1)

check_also : (t u : Bool) (n : ℕ) → (t ≡ true → u ≡ true) → check t n ≡ 0 → check u n ≡ 0
check_also true u n f e = rw (f refl) refl
check_also false true n f e = refl
check_also false false n f e = e

module _ (σ : Setting) (o : Opened) (x : ℕ) where
  -- the second ledger holds of the first what is on x
  pub record Like (l a : Ledger) : Type 0 where
    pub waits : a.progress ≡ is_open (those (pending_on x) (waiting l.progress))
    pub decided : a.decided ≡ those (decided_on x) l.decided

  abbrev pub part : Ledger → Ledger
  part l = at (is_open (those (pending_on x) (waiting l.progress))) (those (decided_on x) l.decided)

  pub is_part : (l a : Ledger) → Like l a → a ≡ part l
  is_part l a k = λ t. record { progress = k.waits t; decided = k.decided t }

  -- ---- calls on x
  member_part : (ws : List Pending) (ds : List Decided)
      → is_member x (ids_of (notes_of (those (decided_on x) ds)) ++ map held_id (map (ledger_wait σ o) (those (pending_on x) ws)))
      ≡ is_member x (ids_of (notes_of ds) ++ map held_id (map (ledger_wait σ o) ws))
  member_part ws ds =
      member_append x _ _ ∙ ap₂ (λ (a b : Bool). a || b) old now ∙ sym (member_append x _ _)
    where
      old : is_member x (ids_of (notes_of (those (decided_on x) ds))) ≡ is_member x (ids_of (notes_of ds))
      old =
          ap (is_member x) (map-map (λ (n : Note). n.id) (λ (k : Decided). k.note) (those (decided_on x) ds))
          ∙ member_those decided_id x ds
          ∙ sym (ap (is_member x) (map-map (λ (n : Note). n.id) (λ (k : Decided). k.note) ds))

      ids : (s : List Pending) → map held_id (map (ledger_wait σ o) s) ≡ map pending_id s
      ids s = map-map held_id (ledger_wait σ o) s ∙ ap (λ (f : Pending → ℕ). map f s) (λ t p. id_told σ o p t)

      now : is_member x (map held_id (map (ledger_wait σ o) (those (pending_on x) ws))) ≡ is_member x (map held_id (map (ledger_wait σ o) ws))
      now = ap (is_member x) (ids (those (pending_on x) ws)) ∙ member_those pending_id x ws ∙ sym (ap (is_member x) (ids ws))

  find_part : (id : ℕ) → eqb id x ≡ true → (ws : List Pending)
      → find pending_id id (those (pending_on x) ws) ≡ find pending_id id ws
  find_part id q ws =
      subst (λ (y : ℕ). find pending_id y (those (pending_on x) ws) ≡ find pending_id y ws) (sym (eqb-true id x q))
      (find_those pending_id x ws)

  wait_part : (id : ℕ) → eqb id x ≡ true → (ws : List Pending)
      → find held_id id (map (ledger_wait σ o) ws) ≡ find held_id id (map (ledger_wait σ o) (those (pending_on x) ws))
  wait_part id q ws =
      find_told σ o id ws
      ∙ ap (through (ledger_wait σ o)) (sym (find_part id q ws))
      ∙ sym (find_told σ o id (those (pending_on x) ws))

  -- the second ledger takes what the first takes
  share_part_lem : (ws : List Pending) (ds : List Decided) (m : List ℕ) (r s room : ℕ) → id_in m ≡ x
      → refusal_of σ o (at (is_open ws) ds) (share m r s room) ≡ 0
      → refusal_of σ o (part (at (is_open ws) ds)) (share m r s room) ≡ 0
  unfolding refusal_of ledger_state ledger_stage share_refusal while_open
  share_part_lem ws ds m r s room q e =
      or_both _ _ _ _ (check_also _ _ 11 few)
      (or_both _ _ _ _ (check_also _ _ 13 less)
      (or_both _ _ _ _ (λ z. z)
      (or_both _ _ _ _ (λ z. z)
      (or_both _ _ _ _ (check_also _ _ 10 (λ z. ap not fresh ∙ z)) (λ z. z))))) e
    where
      ws' : List Pending
      ws' = those (pending_on x) ws

      ds' : List Decided
      ds' = those (decided_on x) ds

      few : ltb (length (map (ledger_wait σ o) ws)) most_waiting ≡ true → ltb (length (map (ledger_wait σ o) ws')) most_waiting ≡ true
      few z =
          let h : length (map (ledger_wait σ o) ws) < most_waiting = ltb-true _ _ z in
          let g : length (map (ledger_wait σ o) ws') < most_waiting =
          omega (arith, many_told σ o ws, many_told σ o ws', those_few (pending_on x) ws) in
          lt-ltb _ _ g

      less : ltb (length (ids_of (notes_of ds)) + length (map (ledger_wait σ o) ws)) o.returns ≡ true
          → ltb (length (ids_of (notes_of ds')) + length (map (ledger_wait σ o) ws')) o.returns ≡ true
      less z =
          let h : length (ids_of (notes_of ds)) + length (map (ledger_wait σ o) ws) < o.returns = ltb-true _ _ z in
          let g : length (ids_of (notes_of ds')) + length (map (ledger_wait σ o) ws') < o.returns =
          omega (
            arith,
            many_told σ o ws,
            many_told σ o ws',
            many_used ds,
            many_used ds',
            those_few (pending_on x) ws,
            those_few (decided_on x) ds,
          ) in
          lt-ltb _ _ g

      fresh : is_member (id_in m) (ids_of (notes_of ds') ++ map held_id (map (ledger_wait σ o) ws'))
          ≡ is_member (id_in m) (ids_of (notes_of ds) ++ map held_id (map (ledger_wait σ o) ws))
      fresh = rw q (member_part ws ds)

  pub passes : (p : Progress) (ds : List Decided) (c : Call) → on x c ≡ true → refusal_of σ o (at p ds) c ≡ 0
      → refusal_of σ o (part (at p ds)) c ≡ 0
  unfolding refusal_of ledger_state ledger_stage share_refusal one_refusal two_refusal enter_refusal drop_refusal close_refusal while_open
  passes (is_open ws) ds (share m r s room) q e = share_part_lem ws ds m r s room (eqb-true _ _ q) e
  passes (is_open ws) ds (round_one id joined room) q e = rw (wait_part id q ws) at e
  passes (is_open ws) ds (round_two id joined) q e = rw (wait_part id q ws) at e
  passes (is_open ws) ds (enter id) q e = rw (wait_part id q ws) at e
  passes (is_open ws) ds (drop id) q e = rw (wait_part id q ws) at e
  passes (is_open ws) ds (close room) q e = absurd (false≢true q)
  passes is_closed ds (share m r s room) q e = absurd (omega arith)
  passes is_closed ds (round_one id joined room) q e = absurd (omega arith)
  passes is_closed ds (round_two id joined) q e = absurd (omega arith)
  passes is_closed ds (enter id) q e = absurd (omega arith)
  passes is_closed ds (drop id) q e = absurd (omega arith)
  passes is_closed ds (close room) q e = absurd (omega arith)

  -- and answers alike
  pub answers_alike : (l : Ledger) (c : Call) → on x c ≡ true → answer_of σ o (part l) c ≡ answer_of σ o l c
  unfolding answer_of
  answers_alike l (share m r s room) q = refl
  answers_alike l (round_one id joined room) q =
      ap (λ (v : Option Pending). wrote (second_message σ o v joined)) (find_part id q (waiting l.progress))
  answers_alike l (round_two id joined) q = refl
  answers_alike l (enter id) q = refl
  answers_alike l (drop id) q = refl
  answers_alike l (close room) q = absurd (false≢true q)

  -- and holds afterwards what is on x
  decided_part : (ws : List Pending) (ds : List Decided) (id : ℕ) (d : Decision) → eqb id x ≡ true
      → (v : Option Pending) → find pending_id id ws ≡ v
      → Like (decide_as σ o id v ws ds d) (decide_as σ o id v (those (pending_on x) ws) (those (decided_on x) ds) d)
  unfolding decide_as
  decided_part ws ds id d q none f = record { waits = refl; decided = refl }
  decided_part ws ds id d q (some w) f =
      let named : id ≡ x = eqb-true id x q in
      let k : Decided = record { note = note_in w; decision = d } in
      let mine : eqb (pending_id w) x ≡ true = eq-eqb _ _ (found_id pending_id id ws w f ∙ named) in
      record {
        waits = ap is_open (subst (λ (y : ℕ). without pending_id y (those (pending_on x) ws) ≡ those (pending_on x) (without pending_id y ws))
            (sym named) (without_those pending_id x ws));
        decided = sym (those_end (decided_on x) ds k
            ∙ ap (λ (b : Bool). those (decided_on x) ds ++ cond b (k ∷ []) []) mine);
      }

  settled_part : (l : Ledger) (id : ℕ) (d : Decision) → eqb id x ≡ true → Like (decide_waiting σ o l id d) (decide_waiting σ o (part l) id d)
  settled_part l id d q =
      rw (find_part id q (waiting l.progress))
      (decided_part (waiting l.progress) l.decided id d q (find pending_id id (waiting l.progress)) refl)

  changed_part : (l : Ledger) (id : ℕ) (f : Pending → Pending) → ((p : Pending) → pending_id (f p) ≡ pending_id p) → eqb id x ≡ true
      → Like (change_waiting σ o l id f) (change_waiting σ o (part l) id f)
  changed_part l id f keeps q =
      let ws : List Pending = waiting l.progress in
      record {
        waits = ap is_open
            (subst (λ (y : ℕ). changed pending_id y f (those (pending_on x) ws) ≡ those (pending_on x) (changed pending_id y f ws))
            (sym (eqb-true id x q))
            (changed_those pending_id x f keeps ws));
        decided = refl;
      }

  pub after : (l : Ledger) (c : Call) → on x c ≡ true → Like (ledger_after σ o l c) (ledger_after σ o (part l) c)
  unfolding ledger_after
  after l (share m r s room) q = record {
    waits = ap is_open (sym (those_here (pending_on x) (waits_one (note_of σ o m r s)) (waiting l.progress) q));
    decided = refl;
  }
  after l (round_one id joined room) q = changed_part l id (sums_of σ o joined) (keeps_id σ o joined) q
  after l (round_two id joined) q = by_verdict (both_zero σ o.servers joined)
    where
      by_verdict : (b : Bool)
          → Like (cond b (change_waiting σ o l id (accept_noted σ o)) (decide_waiting σ o l id rejected))
          (cond b (change_waiting σ o (part l) id (accept_noted σ o)) (decide_waiting σ o (part l) id rejected))
      by_verdict true = changed_part l id (accept_noted σ o) (accept_keeps_id σ o) q
      by_verdict false = settled_part l id rejected q
  after l (enter id) q = settled_part l id entered q
  after l (drop id) q = settled_part l id dropped q
  after l (close room) q = absurd (false≢true q)
