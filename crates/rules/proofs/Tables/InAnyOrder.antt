-- What is claimed of joined messages in any order, on tables. The refusals of both rounds are functions of `round_fault` and
-- `challenge_fault`, and what a round that is taken leaves and hands back is a function of the sums: all are the same for messages
-- that are rearranged. A run in server order is one of the orders. Assumes nothing.
use mathlib.Core.Path.{◌≡◌, refl, sym, ap, ap₂, ◌∙◌}
use mathlib.Core.Bool.{Bool, true, false, cond, ◌&&◌}
use mathlib.Core.List.{List, flatten}
use mathlib.Core.Option.{Option, some, none}
use Prim.Native.Nat.{ℕ, zero, suc, ◌*◌, ◌%◌, ◌<◌}
use native.Mathlib.Omega.{arith}
use borrow.Author.Tests.{eqb-true}
use lib.Dec.{eqb, leb}
use lib.ListN.{length, set}
use Rattle.algebra.specs.Lists.{Rearranged, every, count_from}
use Rattle.algebra.proofs.Members.{and_left, and_right}
use Rattle.algebra.proofs.Rearrangement.{rearranged_refl, rearranged_length, rearranged_sum}
use Rattle.words.specs.Bytes.{same_bytes}
use Rattle.words.proofs.Same.{same_equal}
use Rattle.records.specs.Outcome.{or_else}
use Rattle.records.proofs.Outcome.{or_zero}
use Rattle.rules.specs.Settings.{Setting}
use Rattle.rules.specs.Columns.{check}
use Rattle.rules.specs.Messages.{element_in, round_length, place_in, server_at, round_sound, round_fault, challenge_fault}
use Rattle.rules.specs.Messages.{element_sum, both_zero}
use Rattle.rules.specs.Keyed.{find}
use Rattle.rules.specs.Server.{Waiting, Wait, awaitsOne, awaits_two, awaitsEntry, held_id, Stage, takes, closed, Opened, ServerState}
use Rattle.rules.specs.Server.{summed, with_sums, message_one, message_two, while_open, while_one, while_two, one_refusal, two_refusal}
use Rattle.rules.specs.Ledger.{Call, share, round_one, round_two, enter, drop, close, refused, wrote, judged}
use Rattle.rules.specs.WaitingList.{place_of, slot_of, stage_two}
use Rattle.rules.specs.Table.{Lent, table_fault, table_state, waiting_under, one_refused, one_table, one_bytes}
use Rattle.rules.specs.Table.{decided_bytes, decided_table, two_refused, two_verdict, accepted_table, two_table}
use Rattle.rules.specs.Runs.{table_refusal, table_after, table_answer, table_says, table_step}
use Rattle.rules.specs.AnyOrder.{fault_in_order, one_in_order, two_in_order, refusal_in_order, SameCall, AnyOrder}
use Rattle.rules.proofs.Histories.MessageBytes.{Sized, flatten_cut}
use Rattle.rules.proofs.Histories.Checks.{check_passed, every_at}
use Rattle.rules.proofs.Histories.Shuffled.{rearranged_all}
use Rattle.rules.proofs.Histories.JoinedRuns.{messages}
use Rattle.rules.proofs.Histories.AnyOrder.{element_sum_over, as_many, same_fault, placed, taken}
use Rattle.rules.proofs.Histories.AnyOrder.{takes as takes-order}
use Rattle.rules.proofs.Histories.Challenges.{same_challenge_fault}

-- ---- a check that is passed where the stage allows the call
open_zero : (st : Stage) (f : List Wait → ℕ) → while_open st f ≡ 0 → (ws : List Wait) × (f ws ≡ 0)
unfolding while_open
open_zero (takes ws) f e = (ws, e)
open_zero closed f e = absurd (omega arith)

one_zero : (v : Option Wait) (f : Waiting → ℕ) → while_one v f ≡ 0 → (w : Waiting) × (f w ≡ 0)
unfolding while_one
one_zero none f e = absurd (omega arith)
one_zero (some (awaitsOne w)) f e = (w, e)
one_zero (some (awaits_two w)) f e = absurd (omega arith)
one_zero (some (awaitsEntry w)) f e = absurd (omega arith)

two_zero : (v : Option Wait) (f : Waiting → ℕ) → while_two v f ≡ 0 → (w : Waiting) × (f w ≡ 0)
unfolding while_two
two_zero none f e = absurd (omega arith)
two_zero (some (awaitsOne w)) f e = absurd (omega arith)
two_zero (some (awaits_two w)) f e = (w, e)
two_zero (some (awaitsEntry w)) f e = absurd (omega arith)

-- ---- a smaller set of checks that are passed
open_passes : (st : Stage) (f g : List Wait → ℕ) → ((ws : List Wait) → f ws ≡ 0 → g ws ≡ 0) → while_open st f ≡ 0 → while_open st g ≡ 0
unfolding while_open
open_passes (takes ws) f g h e = h ws e
open_passes closed f g h e = e

one_passes : (v : Option Wait) (f g : Waiting → ℕ) → ((w : Waiting) → f w ≡ 0 → g w ≡ 0) → while_one v f ≡ 0 → while_one v g ≡ 0
unfolding while_one
one_passes none f g h e = e
one_passes (some (awaitsOne w)) f g h e = h w e
one_passes (some (awaits_two w)) f g h e = e
one_passes (some (awaitsEntry w)) f g h e = e

two_passes : (v : Option Wait) (f g : Waiting → ℕ) → ((w : Waiting) → f w ≡ 0 → g w ≡ 0) → while_two v f ≡ 0 → while_two v g ≡ 0
unfolding while_two
two_passes none f g h e = e
two_passes (some (awaitsOne w)) f g h e = e
two_passes (some (awaits_two w)) f g h e = h w e
two_passes (some (awaitsEntry w)) f g h e = e

or_passes : (a b c d : ℕ) → (a ≡ 0 → c ≡ 0) → (b ≡ 0 → d ≡ 0) → or_else a b ≡ 0 → or_else c d ≡ 0
unfolding or_else
or_passes a b c d f g e =
    let both = or_zero a b e in
    ap₂ (λ (x y : ℕ). or_else x y) (f both.0) (g both.1)

or_same : (a b x y : ℕ) → a ≡ b → (a ≡ 0 → x ≡ y) → or_else a x ≡ or_else b y
unfolding or_else
or_same a b x y e f = same a f ∙ ap (λ (v : ℕ). or_else v y) e
  where
    same : (a : ℕ) → (a ≡ 0 → x ≡ y) → or_else a x ≡ or_else a y
    same zero g = g refl
    same (suc a) g = refl

module _ (σ : Setting) where
  -- ---- 1. what was taken before
  before : (servers kind id own : ℕ) (mine joined : List ℕ) → fault_in_order σ servers kind id own mine joined ≡ 0
      → round_fault σ servers kind id own mine joined ≡ 0
  unfolding fault_in_order
  before servers kind id own mine joined e =
      let place : ℕ → List ℕ = place_in σ kind joined in
      let size : ℕ = round_length σ kind in
      let whole : Bool = eqb (length joined) (size * servers) in
      let t : ℕ → Bool = λ i. round_sound σ servers kind id (place i) && eqb (server_at σ kind joined i) i in
      let each : Bool = every t (count_from 0 servers) in
      let kept : Bool = same_bytes (place own) mine in
      let all : (whole && (each && kept)) ≡ true = check_passed (whole && (each && kept)) 11 e in
      let rest : (each && kept) ≡ true = and_right whole (each && kept) all in
      let at : (i : ℕ) → i < servers → t i ≡ true = every_at t servers (and_left each kept rest) in
      let long : length joined ≡ size * servers = eqb-true _ _ (and_left whole (each && kept) all) in
      takes-order σ servers kind id own mine joined (record {
        message = place;
        long = placed σ servers kind id own mine joined long;
        sound = λ j l. and_left (round_sound σ servers kind id (place j)) (eqb (server_at σ kind joined j) j) (at j l);
        names = λ j l. eqb-true _ _ (and_right (round_sound σ servers kind id (place j)) (eqb (server_at σ kind joined j) j) (at j l));
        own_kept_lem = λ l. same_equal (place own) mine (and_right each kept rest);
        messages = messages σ servers kind id own mine joined;
        order = rearranged_refl (messages σ servers kind id own mine joined);
        stand = sym (flatten_cut size servers joined long);
      })

  still_taken : (T : Lent) (c : Call) → refusal_in_order σ T c ≡ 0 → table_refusal σ T c ≡ 0
  unfolding refusal_in_order table_refusal one_refused two_refused one_in_order two_in_order one_refusal two_refusal
  still_taken T (share m r s room) e = e
  still_taken T (round_one id joined room) e =
      let k = table_state σ T in
      or_passes _ _ _ _ (λ q. q) (open_passes k.stage _ _ (λ ws. one_passes (find held_id id ws) _ _ (λ w.
      or_passes _ _ _ _ (before k.opened.servers 34 w.id k.opened.own (message_one σ k.opened w) joined) (λ q. q)))) e
  still_taken T (round_two id joined) e =
      let k = table_state σ T in
      or_passes _ _ _ _ (λ q. q) (open_passes k.stage _ _ (λ ws. two_passes (find held_id id ws) _ _ (λ w.
      before k.opened.servers 35 w.id k.opened.own (message_two σ k.opened w) joined))) e
  still_taken T (enter id) e = e
  still_taken T (drop id) e = e
  still_taken T (close room) e = e

  -- ---- 2. rearranged
  same_call : (T : Lent) (c d : Call) → table_refusal σ T c ≡ table_refusal σ T d
      → (table_refusal σ T c ≡ 0 → table_answer σ T c ≡ table_answer σ T d)
      → (table_refusal σ T c ≡ 0 → table_after σ T c ≡ table_after σ T d) → SameCall σ T c d
  same_call T c d e f g = record {
    answer = answers (eqb (table_refusal σ T c) 0) refl ∙ ap (table_says σ T d) e;
    table = tables (eqb (table_refusal σ T c) 0) refl ∙ ap (table_step σ T d) e;
  }
    where
      answers : (b : Bool) → eqb (table_refusal σ T c) 0 ≡ b
          → cond b (table_answer σ T c) (refused (table_refusal σ T c)) ≡ cond b (table_answer σ T d) (refused (table_refusal σ T c))
      answers true q = f (eqb-true _ _ q)
      answers false q = refl

      tables : (b : Bool) → eqb (table_refusal σ T c) 0 ≡ b → cond b (table_after σ T c) T ≡ cond b (table_after σ T d) T
      tables true q = g (eqb-true _ _ q)
      tables false q = refl

  module _ (kind : ℕ) (ms ns : List (List ℕ)) (sized : Sized (round_length σ kind) ms) (order : Rearranged ms ns) where
    same_sum : (k n : ℕ) → length ms ≡ n → element_sum σ k kind n (flatten ms) ≡ element_sum σ k kind n (flatten ns)
    same_sum k n e =
        element_sum_over σ kind ms sized k n e
        ∙ ap (λ (v : ℕ). v % σ.modulus) (rearranged_sum (element_in σ k) order)
        ∙ sym (element_sum_over σ kind ns (rearranged_all order sized) k n (sym (rearranged_length order) ∙ e))

  module _ (T : Lent) where
    abbrev k : ServerState
    k = table_state σ T

    abbrev o : Opened
    o = k.opened

    -- ---- round one
    module _ (ms ns : List (List ℕ)) (sized : Sized (round_length σ 34) ms) (order : Rearranged ms ns) where
      same_refusal : (room : ℕ) (w : Waiting)
          → or_else (round_fault σ o.servers 34 w.id o.own (message_one σ o w) (flatten ms))
          (or_else (challenge_fault σ o.servers (flatten ms)) (check (leb (round_length σ 35) room) 14))
          ≡ or_else (round_fault σ o.servers 34 w.id o.own (message_one σ o w) (flatten ns))
          (or_else (challenge_fault σ o.servers (flatten ns)) (check (leb (round_length σ 35) room) 14))
      same_refusal room w =
          or_same _ _ _ _ (same_fault σ o.servers 34 w.id o.own (message_one σ o w) ms ns sized order)
          (λ e. ap (λ (v : ℕ). or_else v (check (leb (round_length σ 35) room) 14))
          (same_challenge_fault σ o.servers ms ns sized order
          (as_many σ o.servers 34 w.id o.own (message_one σ o w) ms sized e)))

      same_one : (id room : ℕ) → one_refused σ T id (flatten ms) room ≡ one_refused σ T id (flatten ns) room
      unfolding one_refused one_refusal
      same_one id room t =
          or_else (table_fault σ T) (while_open k.stage (λ ws. while_one (find held_id id ws) (λ w. same_refusal room w t)))

      many_one : (id room : ℕ) → one_refused σ T id (flatten ms) room ≡ 0 → length ms ≡ o.servers
      unfolding one_refused one_refusal
      many_one id room e =
          let ws = open_zero k.stage _ (or_zero (table_fault σ T) _ e).1 in
          let w = one_zero (find held_id id ws.0) _ ws.1 in
          as_many σ o.servers 34 w.0.id o.own (message_one σ o w.0) ms sized
          (or_zero (round_fault σ o.servers 34 w.0.id o.own (message_one σ o w.0) (flatten ms)) _ w.1).0

      -- the return with the sums, and the table with it
      abbrev taken_as : ℕ → ℕ → ℕ → Waiting
      taken_as id d e = with_sums (waiting_under σ T id) d e

      abbrev table_as : ℕ → ℕ → ℕ → Lent
      table_as id d e = record {
        bytes = T.bytes;
        slots = set T.slots (place_of id T.slots) (slot_of stage_two (taken_as id d e));
        elements = T.elements;
      }

      pub one : (id room : ℕ) → SameCall σ T (round_one id (flatten ms) room) (round_one id (flatten ns) room)
      unfolding table_refusal table_answer table_after one_bytes one_table summed table_state
      one id room =
          let many : one_refused σ T id (flatten ms) room ≡ 0 → length ms ≡ o.servers = many_one id room in
          let sums : (j : ℕ) → one_refused σ T id (flatten ms) room ≡ 0
          → element_sum σ j 34 o.servers (flatten ms) ≡ element_sum σ j 34 o.servers (flatten ns) =
          λ j e. same_sum 34 ms ns sized order j o.servers (many e) in
          same_call T (round_one id (flatten ms) room) (round_one id (flatten ns) room) (same_one id room)
          (λ e. ap₂ (λ (x y : ℕ). wrote (message_two σ o (taken_as id x y))) (sums 0 e) (sums 1 e))
          (λ e. ap₂ (table_as id) (sums 0 e) (sums 1 e))

    -- ---- round two
    module _ (ms ns : List (List ℕ)) (sized : Sized (round_length σ 35) ms) (order : Rearranged ms ns) where
      same_two : (id : ℕ) → two_refused σ T id (flatten ms) ≡ two_refused σ T id (flatten ns)
      unfolding two_refused two_refusal
      same_two id t =
          or_else (table_fault σ T) (while_open k.stage (λ ws. while_two (find held_id id ws) (λ w.
          same_fault σ o.servers 35 w.id o.own (message_two σ o w) ms ns sized order t)))

      many_two : (id : ℕ) → two_refused σ T id (flatten ms) ≡ 0 → length ms ≡ o.servers
      unfolding two_refused two_refusal
      many_two id e =
          let ws = open_zero k.stage _ (or_zero (table_fault σ T) _ e).1 in
          let w = two_zero (find held_id id ws.0) _ ws.1 in
          as_many σ o.servers 35 w.0.id o.own (message_two σ o w.0) ms sized w.1

      same_verdict : length ms ≡ o.servers → two_verdict σ T (flatten ms) ≡ two_verdict σ T (flatten ns)
      unfolding two_verdict both_zero table_state
      same_verdict e =
          ap₂ (λ (x y : ℕ). eqb x 0 && eqb y 0)
          (same_sum 35 ms ns sized order 0 o.servers e) (same_sum 35 ms ns sized order 1 o.servers e)

      pub two : (id : ℕ) → SameCall σ T (round_two id (flatten ms)) (round_two id (flatten ns))
      unfolding table_refusal table_answer table_after two_table
      two id =
          same_call T (round_two id (flatten ms)) (round_two id (flatten ns)) (same_two id)
          (λ e. ap judged (same_verdict (many_two id e)))
          (λ e. ap (λ (b : Bool). cond b (accepted_table σ T id) (decided_table σ T id (decided_bytes σ T 0 id T.bytes)))
          (same_verdict (many_two id e)))

pub any_order : (σ : Setting) → AnyOrder σ
any_order σ = record {
  before_answer = λ T c e. ap (table_says σ T c) (e ∙ sym (still_taken σ T c e));
  before_table = λ T c e. ap (table_step σ T c) (e ∙ sym (still_taken σ T c e));
  one = λ T id room ms ns sized order. one σ T ms ns sized order id room;
  two = λ T id ms ns sized order. two σ T ms ns sized order id;
  taken = taken σ;
  takes = takes-order σ;
}
