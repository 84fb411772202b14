-- The table's run tells what the ledger's run tells: refusals, messages and verdicts. By induction on the calls; each call
-- that is not refused keeps the table beside the ledger. Assumes nothing.
use mathlib.Core.Path.{◌≡◌, refl, sym, ap, ap₂, ◌∙◌, subst}
use mathlib.Core.Bool.{Bool, true, false, cond}
use mathlib.Core.List.{List, [], ◌∷◌, ◌++◌}
use mathlib.Core.Option.{Option, some, none}
use Prim.Native.Nat.{ℕ, ◌<◌}
use native.Mathlib.Omega.{arith}
use borrow.Author.Tests.{eqb-true}
use lib.Dec.{eqb, leb}
use lib.ListN.{length}
use Rattle.algebra.specs.Lists.{All, all∷}
use Rattle.words.specs.Bytes.{splice}
use Rattle.records.specs.Outcome.{or_else}
use Rattle.rules.specs.Settings.{Setting, Facts}
use Rattle.rules.specs.Columns.{check, published_in, published_from}
use Rattle.rules.specs.Messages.{both_zero, round_length, round_fault, challenge_fault}
use Rattle.rules.specs.Keyed.{find, without}
use Rattle.rules.specs.Server.{Opened, Waiting, Wait, ServerState, message_one, message_two, totals_message}
use Rattle.rules.specs.Server.{while_open, while_one, while_two, while_entry, while_waiting}
use Rattle.rules.specs.Server.{share_refusal, one_refusal, two_refusal, enter_refusal, drop_refusal, close_refusal}
use Rattle.rules.specs.Table.{Lent, stage_closed, opened_in, table_state, decided_table, decided_bytes}
use Rattle.rules.specs.Table.{two_verdict, accepted_table, two_table, enter_table, drop_table, close_table, close_bytes}
use Rattle.rules.specs.Ledger.{Call, share, round_one, round_two, enter, drop, close, Answer, refused, wrote, judged, Note}
use Rattle.rules.specs.Ledger.{Pending, waits_one, waitsTwo, waitsEntry, note_in, pending_id, Progress, is_open, is_closed}
use Rattle.rules.specs.Ledger.{Decision, entered, rejected, dropped, Decided, Ledger, ledger_wait, ledger_stage, ledger_state}
use Rattle.rules.specs.Ledger.{closing_message, refusal_of, decide_as, change_waiting, accept_noted, ledger_after, second_message}
use Rattle.rules.specs.Ledger.{answer_of, run_ledger, ledger_answers}
use Rattle.rules.specs.Runs.{table_after, table_answer, run_table, table_answers}
use Rattle.rules.specs.Pools.{BytesIn}
use Rattle.rules.proofs.Histories.Keyed.{through}
use Rattle.rules.proofs.Histories.Moves.{at, decided_as, find_told, none_waits}
use Rattle.rules.proofs.Tables.Writes.{set_stage, put_stage}
use Rattle.rules.proofs.Tables.Listed.{Listed}
use Rattle.rules.proofs.Tables.Invariant.{Opens, Beside, opened_same, beside_known}
use Rattle.rules.proofs.Tables.Refusals.{refusal_same}
use Rattle.rules.proofs.Tables.Passed.{share_passed}
use Rattle.rules.proofs.Tables.Taken.{share_writes, share_taken_lem, one_writes, one_taken_lem, accepted_taken}
use Rattle.rules.proofs.Tables.Decided.{kept, admitted}

module _ (σ : Setting) (facts : Facts σ) (o : Opened) (sheet : List ℕ) (open_facts : Opens σ o sheet)
    (many : length (published_from 0 o.columns) ≡ published_in o.columns) where
  -- a call that is not refused: the same answer, and the table after it beside the ledger after it
  record Taken (T : Lent) (l : Ledger) (c : Call) : Type 0 where
    answers : table_answer σ T c ≡ answer_of σ o l c
    after : Beside σ o (table_after σ T c) (ledger_after σ o l c)

  -- ---- an open table
  module _ (T : Lent) (ws : List Pending) (ds : List Decided) (b : Beside σ o T (at (is_open ws) ds)) where
    abbrev l : Ledger
    l = at (is_open ws) ds

    opened : opened_in σ T.bytes ≡ o
    opened = opened_same σ o T l b

    take_share : (m : List ℕ) (r s room : ℕ) → All (λ x. x < 256) m → share_refusal σ (ledger_state σ o l) m r s room ≡ 0
        → Taken T l (share m r s room)
    unfolding table_answer table_after answer_of ledger_after
    take_share m r s room bytes e =
        let f = share_passed σ facts o ws ds m r s room bytes e in
        record {
          answers = ap wrote (share_writes σ o T ws ds b m r s);
          after = share_taken_lem σ o T ws ds b facts m r s f.fits f.few f.new f.left;
        }

    -- ---- calls that name an id, by what is found under it
    module _ (id : ℕ) where
      take_one : (joined : List ℕ) (room : ℕ) (v : Option Pending) → find pending_id id ws ≡ v → (f : Waiting → ℕ)
          → while_one (through (ledger_wait σ o) v) f ≡ 0 → Taken T l (round_one id joined room)
      unfolding while_one ledger_wait table_answer table_after answer_of ledger_after second_message
      take_one joined room none q f e = absurd (omega arith)
      take_one joined room (some (waits_one n)) q f e = record {
        answers =
            ap wrote (one_writes σ o T ws ds b id n q joined)
            ∙ ap (λ (v : Option Pending). wrote (second_message σ o v joined)) (sym q);
        after = one_taken_lem σ o T ws ds b id n q joined facts;
      }
      take_one joined room (some (waitsTwo n x y)) q f e = absurd (omega arith)
      take_one joined room (some (waitsEntry n x y)) q f e = absurd (omega arith)

      module _ (v : Pending) (q : find pending_id id ws ≡ some v) where
        decided_after : (U : Lent) (d : Decision)
            → Beside σ o U (at (is_open (without pending_id id ws)) (ds ++ (decided_as (note_in v) d ∷ [])))
            → Beside σ o U (decide_as σ o id (find pending_id id ws) ws ds d)
        unfolding decide_as
        decided_after U d h = subst (λ (u : Option Pending). Beside σ o U (decide_as σ o id u ws ds d)) (sym q) h

      -- round two: an accepted return waits on, a rejected one is decided
      after_two : (joined : List ℕ) (n : Note) (x y : ℕ) → find pending_id id ws ≡ some (waitsTwo n x y)
          → Beside σ o (two_table σ T id joined) (ledger_after σ o l (round_two id joined))
      unfolding two_table two_verdict ledger_after
      after_two joined n x y q =
          subst (λ (t : Bool). Beside σ o (two_table σ T id joined) (after t)) same (go (two_verdict σ T joined))
        where
          v : Pending
          v = waitsTwo n x y

          after : Bool → Ledger
          after t = cond t (change_waiting σ o l id (accept_noted σ o)) (decide_as σ o id (find pending_id id ws) ws ds rejected)

          same : two_verdict σ T joined ≡ both_zero σ o.servers joined
          same = ap (λ (p : Opened). both_zero σ p.servers joined) opened

          go : (t : Bool) → Beside σ o (cond t (accepted_table σ T id) (decided_table σ T id (decided_bytes σ T 0 id T.bytes))) (after t)
          go true = accepted_taken σ o T ws ds b id n x y q
          go false = decided_after v q _ rejected (kept σ facts o many T ws ds b id v q rejected refl)

      take_two : (joined : List ℕ) (v : Option Pending) → find pending_id id ws ≡ v → (f : Waiting → ℕ)
          → while_two (through (ledger_wait σ o) v) f ≡ 0 → Taken T l (round_two id joined)
      unfolding while_two ledger_wait table_answer table_after answer_of two_verdict
      take_two joined none q f e = absurd (omega arith)
      take_two joined (some (waits_one n)) q f e = absurd (omega arith)
      take_two joined (some (waitsTwo n x y)) q f e = record {
        answers = ap (λ (p : Opened). judged (both_zero σ p.servers joined)) opened;
        after = after_two joined n x y q;
      }
      take_two joined (some (waitsEntry n x y)) q f e = absurd (omega arith)

      take_enter : (v : Option Pending) → find pending_id id ws ≡ v → while_entry (through (ledger_wait σ o) v) ≡ 0
          → Taken T l (enter id)
      unfolding while_entry ledger_wait table_answer table_after answer_of ledger_after enter_table
      take_enter none q e = absurd (omega arith)
      take_enter (some (waits_one n)) q e = absurd (omega arith)
      take_enter (some (waitsTwo n x y)) q e = absurd (omega arith)
      take_enter (some (waitsEntry n x y)) q e = record {
        answers = refl;
        after = decided_after (waitsEntry n x y) q _ entered (admitted σ facts o many T ws ds b id (waitsEntry n x y) q);
      }

      take_drop : (v : Option Pending) → find pending_id id ws ≡ v → while_waiting (through (ledger_wait σ o) v) ≡ 0
          → Taken T l (drop id)
      unfolding while_waiting table_answer table_after answer_of ledger_after drop_table
      take_drop none q e = absurd (omega arith)
      take_drop (some v) q e = record {
        answers = refl;
        after = decided_after v q _ dropped (kept σ facts o many T ws ds b id v q dropped refl);
      }

    take_close : (room : ℕ) → ws ≡ [] → Taken T l (close room)
    unfolding table_answer table_after answer_of ledger_after table_state close_bytes closing_message close_table
    take_close room nobody = record {
      answers =
          ap (λ (k : ServerState). wrote (totals_message σ k.opened k.entered k.totals))
          (unfold table_state in beside_known σ o T l b);
      after = record {
        parts = set_stage stage_closed b.parts;
        is = ap (λ (t : List ℕ). splice t 1 (stage_closed ∷ [])) b.is ∙ put_stage σ b.parts stage_closed;
        sized = b.sized;
        opened_as_lem = b.opened_as_lem;
        tells = b.tells;
        staged = refl;
        listed = subst (λ (vs : List Pending). Listed σ o vs T.slots T.elements) nobody b.listed;
        room = omega (arith, b.room);
      };
    }

    take_open : (c : Call) → BytesIn c → refusal_of σ o l c ≡ 0 → Taken T l c
    unfolding refusal_of ledger_state ledger_stage one_refusal two_refusal enter_refusal drop_refusal close_refusal while_open
    take_open (share m r s room) bytes e = take_share m r s room bytes e
    take_open (round_one id joined room) bytes e =
        let f : Waiting → ℕ = λ w.
        or_else (round_fault σ o.servers 34 w.id o.own (message_one σ o w) joined)
        (or_else (challenge_fault σ o.servers joined) (check (leb (round_length σ 35) room) 14)) in
        take_one id joined room (find pending_id id ws) refl f (ap (λ (v : Option Wait). while_one v f) (sym (find_told σ o id ws)) ∙ e)
    take_open (round_two id joined) bytes e =
        let f : Waiting → ℕ = λ w. round_fault σ o.servers 35 w.id o.own (message_two σ o w) joined in
        take_two id joined (find pending_id id ws) refl f (ap (λ (v : Option Wait). while_two v f) (sym (find_told σ o id ws)) ∙ e)
    take_open (enter id) bytes e = take_enter id (find pending_id id ws) refl (ap while_entry (sym (find_told σ o id ws)) ∙ e)
    take_open (drop id) bytes e = take_drop id (find pending_id id ws) refl (ap while_waiting (sym (find_told σ o id ws)) ∙ e)
    take_open (close room) bytes e = take_close room (none_waits σ o ws _ e)

  -- a closed table takes nothing
  closed_takes : (ds : List Decided) (c : Call) → refusal_of σ o (at is_closed ds) c ≡ 0 → ⊥
  unfolding refusal_of ledger_state ledger_stage share_refusal one_refusal two_refusal enter_refusal drop_refusal close_refusal while_open
  closed_takes ds (share m r s room) e = omega arith
  closed_takes ds (round_one id joined room) e = omega arith
  closed_takes ds (round_two id joined) e = omega arith
  closed_takes ds (enter id) e = omega arith
  closed_takes ds (drop id) e = omega arith
  closed_takes ds (close room) e = omega arith

  take_call : (T : Lent) (q : Progress) (ds : List Decided) → Beside σ o T (at q ds) → (c : Call) → BytesIn c
      → refusal_of σ o (at q ds) c ≡ 0 → Taken T (at q ds) c
  take_call T (is_open ws) ds b c bytes e = take_open T ws ds b c bytes e
  take_call T is_closed ds b c bytes e = absurd (closed_takes ds c e)

  -- the whole list: the table after it stands beside the ledger after it, and the answers are the same
  pub run_beside : (cs : List Call) (T : Lent) (l : Ledger) → Beside σ o T l → All BytesIn cs
      → Beside σ o (run_table σ T cs) (run_ledger σ o l cs)
  unfolding run_table run_ledger
  run_beside [] T l b bytes = b
  run_beside (c ∷ cs) T l b (all∷ h hs) =
      subst (λ (f : ℕ). Beside σ o (run_table σ (cond (eqb f 0) (table_after σ T c) T) cs) (after (refusal_of σ o l c)))
      (sym (refusal_same σ o sheet open_facts T l b c)) (go (eqb (refusal_of σ o l c) 0) refl (run_beside cs))
    where
      after : ℕ → Ledger
      after f = run_ledger σ o (cond (eqb f 0) (ledger_after σ o l c) l) cs

      go : (v : Bool) → eqb (refusal_of σ o l c) 0 ≡ v
          → ((T : Lent) (l : Ledger) → Beside σ o T l → All BytesIn cs → Beside σ o (run_table σ T cs) (run_ledger σ o l cs))
          → Beside σ o (run_table σ (cond v (table_after σ T c) T) cs) (run_ledger σ o (cond v (ledger_after σ o l c) l) cs)
      go true e rest =
          rest (table_after σ T c) (ledger_after σ o l c)
          (take_call T l.progress l.decided b c h (eqb-true (refusal_of σ o l c) 0 e)).after hs
      go false e rest = rest T l b hs

  pub answers_same : (cs : List Call) (T : Lent) (l : Ledger) → Beside σ o T l → All BytesIn cs
      → table_answers σ T cs ≡ ledger_answers σ o l cs
  unfolding table_answers ledger_answers
  answers_same [] T l b bytes = refl
  answers_same (c ∷ cs) T l b (all∷ h hs) =
      ap (λ (f : ℕ). said_at f) (refusal_same σ o sheet open_facts T l b c) ∙ go (eqb f 0) refl (answers_same cs)
    where
      f : ℕ
      f = refusal_of σ o l c

      said_at : ℕ → List Answer
      said_at f = cond (eqb f 0) (table_answer σ T c) (refused f) ∷ table_answers σ (cond (eqb f 0) (table_after σ T c) T) cs

      go : (v : Bool) → eqb f 0 ≡ v
          → ((T : Lent) (l : Ledger) → Beside σ o T l → All BytesIn cs → table_answers σ T cs ≡ ledger_answers σ o l cs)
          → ◌≡◌ {A = List Answer} (cond v (table_answer σ T c) (refused f) ∷ table_answers σ (cond v (table_after σ T c) T) cs)
          (cond v (answer_of σ o l c) (refused f) ∷ ledger_answers σ o (cond v (ledger_after σ o l c) l) cs)
      go true e rest =
          let t : Taken T l c = take_call T l.progress l.decided b c h (eqb-true f 0 e) in
          ap₂ (λ (a : Answer) (r : List Answer). a ∷ r) t.answers (rest (table_after σ T c) (ledger_after σ o l c) t.after hs)
      go false e rest = ap (refused f ∷◌) (rest T l b hs)
