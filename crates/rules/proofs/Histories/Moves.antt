-- What a call does to a ledger, as one relation: it stays, or it moves in one of five ways, each with what its checks
-- have shown and, where it names an id, the return found under it. A return is decided in one of three. A list of calls of bytes is a
-- history of such moves.
-- Assumes nothing.
use mathlib.Core.Path.{◌≡◌, refl, sym, ap, ap₂, ◌∙◌, subst}
use mathlib.Core.Bool.{Bool, true, false, cond, not, ◌&&◌}
use mathlib.Core.List.{List, [], ◌∷◌, ◌++◌, map, map-append}
use mathlib.Core.Option.{Option, some, none}
use Prim.Native.Nat.{ℕ, ◌+◌, ◌≤◌, ◌<◌}
use native.Mathlib.Omega.{arith}
use borrow.Author.Tests.{eqb-true, ltb-true, leb-true, not-true}
use lib.Dec.{eqb, ltb, leb}
use lib.ListN.{length, length-map}
use Rattle.algebra.specs.Lists.{All, all[], all∷, In}
use Rattle.algebra.proofs.Members.{and_left}
use Rattle.words.proofs.Numbers.{value_below}
use Rattle.words.proofs.Splice.{length_part}
use Rattle.words.proofs.Below.{all_take, all_drop, all_of_below}
use Rattle.words.specs.Bytes.{part, all_below}
use Rattle.records.specs.Outcome.{or_else}
use Rattle.records.proofs.Outcome.{or_zero}
use Rattle.rules.specs.Settings.{Setting}
use Rattle.rules.specs.Columns.{check}
use Rattle.rules.specs.Judging.{allowed_pair}
use Rattle.rules.specs.Making.{share_length}
use Rattle.rules.specs.Messages.{id_in, server_in, share_in, kind_sound, round_length, header_fault, elements_fault, round_fault}
use Rattle.rules.specs.Messages.{challenge_fault, first_sum, second_sum, both_zero}
use Rattle.rules.specs.Keyed.{find, without, changed}
use Rattle.rules.specs.Server.{Opened, Waiting, Wait, held_id, most_waiting, waiting_of, is_member, message_one, message_two, with_sums}
use Rattle.rules.specs.Server.{share_refusal, one_refusal, two_refusal, enter_refusal, drop_refusal, close_refusal}
use Rattle.rules.specs.Server.{while_open, while_one, while_two, while_entry, while_waiting}
use Rattle.rules.specs.Ledger.{Call, share, round_one, round_two, enter, drop, close, Answer, refused, wrote, judged, done, Note}
use Rattle.rules.specs.Ledger.{Pending, waits_one, waitsTwo, waitsEntry, note_in, pending_id, Progress, is_open, is_closed}
use Rattle.rules.specs.Ledger.{Decision, entered, rejected, dropped, Decided, Ledger, is_entered, notes_with, ids_of, notes_of}
use Rattle.rules.specs.Ledger.{closing_message, noted, note_of}
use Rattle.rules.specs.Ledger.{ledger_wait, ledger_stage, ledger_state, refusal_of, decide_as, sums_noted, accept_noted, ledger_after}
use Rattle.rules.specs.Ledger.{second_answer, second_message, answer_of, ledger_step, ledger_says, run_ledger, ledger_answers}
use Rattle.rules.proofs.Histories.ShareMessages.{kind_long}
use Rattle.rules.specs.Pools.{BytesIn, messages_in, call_messages, handed_in}
use Rattle.rules.proofs.Histories.Keyed.{no_member_in, through, find_map}
use Rattle.rules.proofs.Histories.Checks.{check_passed}
use Rattle.rules.proofs.Histories.JoinedRuns.{Joined, JoinedOne, round_passed, challenge_passed}

abbrev pub at : Progress → List Decided → Ledger
at p ds = record { progress = p; decided = ds }

abbrev pub decided_as : Note → Decision → Decided
decided_as n d = record { note = n; decision = d }

-- as many ids as returns that are decided
pub many_used : (ds : List Decided) → length (ids_of (notes_of ds)) ≡ length ds
many_used ds = length-map (notes_of ds) (λ n. n.id) ∙ length-map ds (λ k. k.note)

module _ (σ : Setting) (o : Opened) where
  -- ---- what is told of the returns that wait
  pub many_told : (ws : List Pending) → length (map (ledger_wait σ o) ws) ≡ length ws
  many_told ws = length-map ws (ledger_wait σ o)

  pub id_told : (p : Pending) → held_id (ledger_wait σ o p) ≡ pending_id p
  unfolding ledger_wait waiting_of
  id_told (waits_one n) = refl
  id_told (waitsTwo n d e) = refl
  id_told (waitsEntry n d e) = refl

  ids_told : (ws : List Pending) → map held_id (map (ledger_wait σ o) ws) ≡ ids_of (map note_in ws)
  ids_told [] = refl
  ids_told (w ∷ ws) = ap₂ (λ (x : ℕ) (s : List ℕ). x ∷ s) (id_told w) (ids_told ws)

  pub all_ids : (ws : List Pending) (ds : List Decided)
      → ids_of (notes_of ds) ++ map held_id (map (ledger_wait σ o) ws) ≡ ids_of (notes_of ds ++ map note_in ws)
  all_ids ws ds =
      ap (λ (s : List ℕ). ids_of (notes_of ds) ++ s) (ids_told ws)
      ∙ sym (map-append (λ (n : Note). n.id) (notes_of ds) (map note_in ws))

  pub find_told : (id : ℕ) (ws : List Pending)
      → find held_id id (map (ledger_wait σ o) ws) ≡ through (ledger_wait σ o) (find pending_id id ws)
  find_told id ws = find_map pending_id held_id (ledger_wait σ o) id_told id ws

  -- a share that was taken when the returns ws waited and the returns ds were decided
  pub record Taken (ws : List Pending) (ds : List Decided) (n : Note) : Type 0 where
    pub below_eight : length ws < most_waiting
    pub room : length ds + length ws < o.returns
    pub unused : In n.id (ids_of (notes_of ds ++ map note_in ws)) → ⊥
    pub id_fits : n.id < 4294967296
    pub pair : allowed_pair σ o.columns n.r n.s ≡ true
    pub below : All (λ x. x < σ.modulus) n.elements

  abbrev pub sums_of : List ℕ → Pending → Pending
  sums_of joined = sums_noted σ o (first_sum σ 34 o.servers joined) (second_sum σ 34 o.servers joined)

  -- the calls on an id that decide the return waiting under it, with the decision, the answer and the round messages handed in
  pub data Decides (id : ℕ) : Call → Pending → Decision → Answer → List (List ℕ) → Type 0 where
    rejects : (n : Note) (x y : ℕ) (joined : List ℕ) → Joined σ o.servers 35 n.id joined
        → both_zero σ o.servers joined ≡ false
        → Decides id (round_two id joined) (waitsTwo n x y) rejected (judged false) (messages_in σ o.servers 35 joined)
    enters : (n : Note) (x y : ℕ) → Decides id (enter id) (waitsEntry n x y) entered done []
    drops : (p : Pending) → Decides id (drop id) p dropped done []

  -- from a ledger by a call to the next, with the answer and the round messages handed in
  pub data Moves : Ledger → Call → Answer → List (List ℕ) → Ledger → Type 0 where
    stays : {c : Call} (l : Ledger) (n : ℕ) → Moves l c (refused n) [] l
    notes : {c : Call} (ws : List Pending) (ds : List Decided) (n : Note) → Taken ws ds n
        → Moves (at (is_open ws) ds) c (wrote (message_one σ o (noted σ o n))) [] (at (is_open (waits_one n ∷ ws)) ds)
    sums : {c : Call} (ws : List Pending) (ds : List Decided) (id : ℕ) (n : Note) (joined : List ℕ)
        → find pending_id id ws ≡ some (waits_one n) → JoinedOne σ o.servers n.id joined
        → Moves (at (is_open ws) ds) c (wrote (second_answer σ o n joined)) (messages_in σ o.servers 34 joined)
        (at (is_open (changed pending_id id (sums_of joined) ws)) ds)
    accepts : (ws : List Pending) (ds : List Decided) (id : ℕ) (n : Note) (x y : ℕ) (joined : List ℕ)
        → find pending_id id ws ≡ some (waitsTwo n x y) → Joined σ o.servers 35 n.id joined
        → both_zero σ o.servers joined ≡ true
        → Moves (at (is_open ws) ds) (round_two id joined) (judged true) (messages_in σ o.servers 35 joined)
        (at (is_open (changed pending_id id (accept_noted σ o) ws)) ds)
    decides : {c : Call} {a : Answer} {h : List (List ℕ)} (ws : List Pending) (ds : List Decided) (id : ℕ) (p : Pending) (d : Decision)
        → find pending_id id ws ≡ some p → Decides id c p d a h
        → Moves (at (is_open ws) ds) c a h (at (is_open (without pending_id id ws)) (ds ++ (decided_as (note_in p) d ∷ [])))
    closes : {c : Call} (ds : List Decided) → o.least ≤ length (notes_with is_entered ds)
        → Moves (at (is_open []) ds) c (wrote (closing_message σ o (at (is_open []) ds))) [] (at is_closed ds)

  pub data History : Ledger → List Answer → List (List ℕ) → Ledger → Type 0 where
    over : (l : Ledger) → History l [] [] l
    next : {l l₁ l₂ : Ledger} {c : Call} {a : Answer} {xs : List Answer} {h hs : List (List ℕ)}
        → Moves l c a h l₁ → History l₁ xs hs l₂ → History l (a ∷ xs) (h ++ hs) l₂

  -- ---- each call is a move
  taken_share : (ws : List Pending) (ds : List Decided) (m : List ℕ) (r s room : ℕ) → All (λ b. b < 256) m
      → share_refusal σ (ledger_state σ o (at (is_open ws) ds)) m r s room ≡ 0 → Taken ws ds (note_of σ o m r s)
  unfolding share_refusal ledger_state ledger_stage while_open header_fault elements_fault share_length
  taken_share ws ds m r s room bytes e =
      let cs = o.columns in
      let ts : List Wait = map (ledger_wait σ o) ws in
      let used : List ℕ = ids_of (notes_of ds) in
      let all : List ℕ = used ++ map held_id ts in
      let fit : Bool = kind_sound σ cs o.own m in
      let kind : Bool = eqb (server_in m) o.own in
      let k₆ : ℕ = check (leb (round_length σ 34) room) 14 in
      let k₅ : ℕ = or_else (check (allowed_pair σ cs r s) 9) k₆ in
      let k₄ : ℕ = or_else (check (not (is_member (id_in m) all)) 10) k₅ in
      let k₃ : ℕ = or_else (elements_fault σ cs m) k₄ in
      let k₂ : ℕ = or_else (header_fault σ cs o.own m) k₃ in
      let k₁ : ℕ = or_else (check (ltb (length used + length ts) o.returns) 13) k₂ in
      let e₀ = or_zero (check (ltb (length ts) most_waiting) 11) k₁ e in
      let e₁ = or_zero (check (ltb (length used + length ts) o.returns) 13) k₂ e₀.1 in
      let e₂ = or_zero (header_fault σ cs o.own m) k₃ e₁.1 in
      let e₃ = or_zero (elements_fault σ cs m) k₄ e₂.1 in
      let e₄ = or_zero (check (not (is_member (id_in m) all)) 10) k₅ e₃.1 in
      let e₅ = or_zero (check (allowed_pair σ cs r s) 9) k₆ e₄.1 in
      let long : 6 ≤ length m = kind_long σ cs o.own m (and_left fit kind (check_passed (fit && kind) 6 e₂.0)) in
      let few : length ts < most_waiting = ltb-true _ _ (check_passed (ltb (length ts) most_waiting) 10 e₀.0) in
      let less : length used + length ts < o.returns =
      ltb-true _ _ (check_passed (ltb (length used + length ts) o.returns) 12 e₁.0) in
      let four : length (part 1 4 m) ≡ 4 = length_part 1 4 m (omega arith) in
      record {
        below_eight = omega (arith, many_told ws);
        room = omega (arith, many_told ws, many_used ds);
        unused = λ h. no_member_in (id_in m) all (not-true _ (check_passed (not (is_member (id_in m) all)) 9 e₄.0))
            (subst (λ (v : List ℕ). In (id_in m) v) (sym (all_ids ws ds)) h);
        id_fits = value_below 4 (part 1 4 m) four (all_take _ 4 (all_drop _ 1 bytes));
        pair = check_passed (allowed_pair σ cs r s) 8 e₅.0;
        below = all_of_below σ.modulus (share_in σ cs m)
            (check_passed (all_below σ.modulus (share_in σ cs m)) 7 e₃.0);
      }

  -- a call that names an id, by what is found under it
  module _ (ws : List Pending) (ds : List Decided) (id : ℕ) (joined : List ℕ) where
    abbrev pub one_fault : ℕ → Waiting → ℕ
    one_fault room w =
        or_else (round_fault σ o.servers 34 w.id o.own (message_one σ o w) joined)
        (or_else (challenge_fault σ o.servers joined) (check (leb (round_length σ 35) room) 14))

    abbrev pub two_fault : Waiting → ℕ
    two_fault w = round_fault σ o.servers 35 w.id o.own (message_two σ o w) joined

    -- messages of round one that pass are one of each server, all with one pair
    pub one_passed : (n : Note) (room : ℕ) → one_fault room (noted σ o n) ≡ 0 → JoinedOne σ o.servers n.id joined
    unfolding waiting_of
    one_passed n room e =
        let mine = message_one σ o (noted σ o n) in
        let k : ℕ = check (leb (round_length σ 35) room) 14 in
        let x = or_zero (round_fault σ o.servers 34 n.id o.own mine joined) (or_else (challenge_fault σ o.servers joined) k) e in
        let y = or_zero (challenge_fault σ o.servers joined) k x.1 in
        record {
          each = round_passed σ o.servers 34 n.id o.own mine joined x.0;
          one_pair = challenge_passed σ o.servers joined y.0;
        }

    one_move : (room : ℕ) (v : Option Pending) → find pending_id id ws ≡ v
        → while_one (through (ledger_wait σ o) v) (one_fault room) ≡ 0
        → Moves (at (is_open ws) ds) (round_one id joined room) (wrote (second_message σ o v joined)) (messages_in σ o.servers 34 joined)
        (at (is_open (changed pending_id id (sums_of joined) ws)) ds)
    unfolding while_one ledger_wait second_message waiting_of
    one_move room none q e = absurd (omega arith)
    one_move room (some (waits_one n)) q e = sums ws ds id n joined q (one_passed n room e)
    one_move room (some (waitsTwo n x y)) q e = absurd (omega arith)
    one_move room (some (waitsEntry n x y)) q e = absurd (omega arith)

    -- messages of round two that pass are one of each server
    pub two_passed : (n : Note) (x y : ℕ) → two_fault (with_sums (noted σ o n) x y) ≡ 0 → Joined σ o.servers 35 n.id joined
    unfolding waiting_of
    two_passed n x y e =
        round_passed σ o.servers 35 n.id o.own (message_two σ o (with_sums (noted σ o n) x y)) joined e

    two_move : (v : Option Pending) → find pending_id id ws ≡ v → while_two (through (ledger_wait σ o) v) two_fault ≡ 0
        → (b : Bool) → both_zero σ o.servers joined ≡ b
        → Moves (at (is_open ws) ds) (round_two id joined) (judged b) (messages_in σ o.servers 35 joined)
        (cond b (at (is_open (changed pending_id id (accept_noted σ o) ws)) ds) (decide_as σ o id v ws ds rejected))
    unfolding while_two ledger_wait decide_as
    two_move none q e b z = absurd (omega arith)
    two_move (some (waits_one n)) q e b z = absurd (omega arith)
    two_move (some (waitsTwo n x y)) q e true z = accepts ws ds id n x y joined q (two_passed n x y e) z
    two_move (some (waitsTwo n x y)) q e false z =
        decides ws ds id (waitsTwo n x y) rejected q (rejects n x y joined (two_passed n x y e) z)
    two_move (some (waitsEntry n x y)) q e b z = absurd (omega arith)

    enter_move : (v : Option Pending) → find pending_id id ws ≡ v → while_entry (through (ledger_wait σ o) v) ≡ 0
        → Moves (at (is_open ws) ds) (enter id) done [] (decide_as σ o id v ws ds entered)
    unfolding while_entry ledger_wait decide_as
    enter_move none q e = absurd (omega arith)
    enter_move (some (waits_one n)) q e = absurd (omega arith)
    enter_move (some (waitsTwo n x y)) q e = absurd (omega arith)
    enter_move (some (waitsEntry n x y)) q e = decides ws ds id (waitsEntry n x y) entered q (enters n x y)

    drop_move : (v : Option Pending) → find pending_id id ws ≡ v → while_waiting (through (ledger_wait σ o) v) ≡ 0
        → Moves (at (is_open ws) ds) (drop id) done [] (decide_as σ o id v ws ds dropped)
    unfolding while_waiting decide_as
    drop_move none q e = absurd (omega arith)
    drop_move (some p) q e = decides ws ds id p dropped q (drops p)

  -- where closing passes none waits, and at least Q are entered
  pub none_waits : (ws : List Pending) (n : ℕ) → or_else (check (eqb (length (map (ledger_wait σ o) ws)) 0) 11) n ≡ 0 → ws ≡ []
  none_waits [] n e = refl
  none_waits (w ∷ ws) n e =
      let ts : List Wait = map (ledger_wait σ o) (w ∷ ws) in
      let passed = or_zero (check (eqb (length ts) 0) 11) n e in
      let none : length ts ≡ 0 = eqb-true _ _ (check_passed (eqb (length ts) 0) 10 passed.0) in
      absurd (omega (arith, many_told (w ∷ ws)))

  pub enough_entered : (waits least rest : ℕ) (ds : List Decided)
      → or_else (check (eqb waits 0) 11) (or_else (check (leb least (length (notes_with is_entered ds))) 15) rest) ≡ 0
      → least ≤ length (notes_with is_entered ds)
  enough_entered waits least rest ds e =
      let q = or_zero (check (eqb waits 0) 11) (or_else (check (leb least (length (notes_with is_entered ds))) 15) rest) e in
      let p = or_zero (check (leb least (length (notes_with is_entered ds))) 15) rest q.1 in
      leb-true _ _ (check_passed (leb least (length (notes_with is_entered ds))) 14 p.0)

  close_move : (room : ℕ) (ws : List Pending) (ds : List Decided) → ws ≡ [] → o.least ≤ length (notes_with is_entered ds)
      → Moves (at (is_open ws) ds) (close room) (wrote (closing_message σ o (at (is_open ws) ds))) [] (at is_closed ds)
  close_move room [] ds e q = closes ds q
  close_move room (w ∷ ws) ds e q = absurd (let z : ◌≡◌ {A = ℕ} 0 1 = cc in omega arith)

  passed : (p : Progress) (ds : List Decided) (c : Call) → BytesIn c → refusal_of σ o (at p ds) c ≡ 0
      → Moves (at p ds) c (answer_of σ o (at p ds) c) (call_messages σ o c) (ledger_after σ o (at p ds) c)
  unfolding refusal_of ledger_state ledger_stage ledger_after answer_of call_messages
      share_refusal one_refusal two_refusal enter_refusal drop_refusal close_refusal while_open
  passed (is_open ws) ds (share m r s room) b e =
      notes ws ds (note_of σ o m r s) (taken_share ws ds m r s room b (unfold share_refusal ledger_state ledger_stage while_open in e))
  passed (is_open ws) ds (round_one id joined room) b e =
      one_move ws ds id joined room (find pending_id id ws) refl
      (ap (λ (v : Option Wait). while_one v (one_fault ws ds id joined room)) (sym (find_told id ws)) ∙ e)
  passed (is_open ws) ds (round_two id joined) b e =
      two_move ws ds id joined (find pending_id id ws) refl
      (ap (λ (v : Option Wait). while_two v (two_fault ws ds id joined)) (sym (find_told id ws)) ∙ e) (both_zero σ o.servers joined) refl
  passed (is_open ws) ds (enter id) b e =
      enter_move ws ds id [] (find pending_id id ws) refl (ap while_entry (sym (find_told id ws)) ∙ e)
  passed (is_open ws) ds (drop id) b e =
      drop_move ws ds id [] (find pending_id id ws) refl (ap while_waiting (sym (find_told id ws)) ∙ e)
  passed (is_open ws) ds (close room) b e =
      close_move room ws ds (none_waits ws _ e) (enough_entered (length (map (ledger_wait σ o) ws)) o.least _ ds e)
  passed is_closed ds (share m r s room) b e = absurd (omega arith)
  passed is_closed ds (round_one id joined room) b e = absurd (omega arith)
  passed is_closed ds (round_two id joined) b e = absurd (omega arith)
  passed is_closed ds (enter id) b e = absurd (omega arith)
  passed is_closed ds (drop id) b e = absurd (omega arith)
  passed is_closed ds (close room) b e = absurd (omega arith)

  either_way : (l : Ledger) (c : Call) (f : ℕ) → (f ≡ 0 → Moves l c (answer_of σ o l c) (call_messages σ o c) (ledger_after σ o l c))
      → Moves l c (ledger_says σ o l c f) (cond (eqb f 0) (call_messages σ o c) []) (ledger_step σ o l c f)
  either_way l c f g = go (eqb f 0) refl
    where
      go : (t : Bool) → eqb f 0 ≡ t
          → Moves l c (cond t (answer_of σ o l c) (refused f)) (cond t (call_messages σ o c) []) (cond t (ledger_after σ o l c) l)
      go true e = g (eqb-true f 0 e)
      go false e = stays l f

  pub move : (l : Ledger) (c : Call) → BytesIn c
      → Moves l c (ledger_says σ o l c (refusal_of σ o l c)) (cond (eqb (refusal_of σ o l c) 0) (call_messages σ o c) [])
      (ledger_step σ o l c (refusal_of σ o l c))
  move l c b = either_way l c (refusal_of σ o l c) (passed l.progress l.decided c b)

  -- what a list of calls comes to
  pub history : (l : Ledger) (cs : List Call) → All BytesIn cs
      → History l (ledger_answers σ o l cs) (handed_in σ o l cs) (run_ledger σ o l cs)
  unfolding ledger_answers handed_in run_ledger
  history l [] all[] = over l
  history l (c ∷ cs) (all∷ b bs) =
      next (move l c b) (history (ledger_step σ o l c (refusal_of σ o l c)) cs bs)
