-- Servers that stopped between verdict and entry and go on later. The ids entered or accepted are the same at each, since a return that
-- one server accepted stands alike at every other; entering them leaves nothing that waits, as many are entered at each, so each can
-- close. Entries and closes hand in no messages, so the conditions hold on. Assumes the conditions of whole runs.
use mathlib.Core.Path.{◌≡◌, refl, sym, ap, ap₂, ◌∙◌, subst}
use mathlib.Core.Logic.{inl, inr, ◌⊎◌, ⊎_elim}
use mathlib.Core.Bool.{true}
use mathlib.Core.List.{List, [], ◌∷◌, ◌++◌, map, map-append, map-map, append-nil}
use Prim.Native.Nat.{ℕ, ◌≤◌, ◌<◌}
use native.Mathlib.Omega.{arith}
use lib.ListN.{length, replicate, length-map}
use Rattle.algebra.specs.Lists.{All, all[], all∷, In, Distinct, Rearranged}
use Rattle.algebra.proofs.Members.{all_append, in_append, append_in}
use Rattle.algebra.proofs.Rearrangement.{same_members, rearranged_length}
use Rattle.rules.specs.Settings.{Setting, Facts}
use Rattle.rules.specs.Messages.{server_in}
use Rattle.rules.specs.Server.{Opened, totals_length, close_refusal, while_open}
use Rattle.rules.specs.Keyed.{those}
use Rattle.rules.specs.Ledger.{enter, close, Answer, wrote, done, Note, Pending, note_in, pending_id, is_accepted, Progress, is_open}
use Rattle.rules.specs.Ledger.{is_closed, waiting, Decided, Ledger, empty, is_entered, is_dropped, notes_with, ids_of}
use Rattle.rules.specs.Ledger.{closing_message, ledger_stage, ledger_state, refusal_of, ledger_after, answer_of, ledger_step, ledger_says}
use Rattle.rules.specs.Ledger.{run_ledger, ledger_answers}
use Rattle.rules.specs.Pools.{Pool, BytesIn, opened_at, ledger_at, answers_at, accepted_at, entered_at, dropped_at, call_messages, handed_in}
use Rattle.rules.specs.Pools.{Unaltered, Conditions, JudgedToEnd, AllClosed}
use Rattle.rules.specs.Resumed.{with_calls, to_enter, Stopped, goes_on, Resumed, Resumes}
use Rattle.rules.proofs.Histories.Those.{those_all}
use Rattle.rules.proofs.Histories.Moves.{at}
use Rattle.rules.proofs.Histories.Answers.{run_append}
use Rattle.rules.proofs.Runs.VerdictFirst.{verdict_first_lem}
use Rattle.rules.proofs.Runs.Alike.{stands_alike}
use Rattle.rules.proofs.Runs.SameIds.{entered_apart}
use Rattle.rules.proofs.Runs.Refusing.{reached}
use Rattle.rules.proofs.Runs.EnteredAll.{with_append, all_entered, with_entered, without_entered, answers_append, handed_append}
use Rattle.rules.proofs.Runs.EnteredAll.{none_handed, entered_all, all_done}
use Rattle.rules.proofs.Runs.WholeTotals.{closed_together}

-- entries are bytes
entries_bytes : (ids : List ℕ) → All BytesIn (map enter ids)
entries_bytes [] = all[]
entries_bytes (x ∷ ids) = all∷ tt (entries_bytes ids)

-- so a server that goes on is handed bytes
pub goes_on_bytes : (σ : Setting) (𝓟 : Pool σ) (room i : ℕ) → i < 𝓟.servers → All BytesIn (𝓟.calls i ++ goes_on σ 𝓟 room i)
goes_on_bytes σ 𝓟 room i l =
    all_append (𝓟.call_bytes i l) (all_append (entries_bytes (accepted_at σ 𝓟 i)) (all∷ tt all[]))

-- entries, and a close behind them, hand in no messages
module _ (σ : Setting) (o : Opened) where
  no_messages : (room : ℕ) (ids : List ℕ) → All (λ c. call_messages σ o c ≡ []) (map enter ids ++ (close room ∷ []))
  unfolding call_messages
  no_messages room [] = all∷ refl all[]
  no_messages room (x ∷ ids) = all∷ refl (no_messages room ids)

  -- a closed ledger stays as it is
  closed_stays : (ds : List Decided) (room : ℕ) → run_ledger σ o (at is_closed ds) (close room ∷ []) ≡ at is_closed ds
  unfolding run_ledger refusal_of ledger_state ledger_stage close_refusal while_open
  closed_stays ds room = refl

  -- one in which nothing waits and enough are entered closes
  module _ (ds : List Decided) (room : ℕ) (q : o.least ≤ length (notes_with is_entered ds)) (r : totals_length σ o ≤ room) where
    abbrev before : Ledger
    before = at (is_open []) ds

    close_runs : run_ledger σ o before (close room ∷ []) ≡ at is_closed ds
    unfolding run_ledger ledger_after
    close_runs = ap (ledger_step σ o before (close room)) (reached σ o ds q room r)

    close_says : ledger_answers σ o before (close room ∷ []) ≡ wrote (closing_message σ o before) ∷ []
    unfolding ledger_answers answer_of
    close_says = ap (λ (f : ℕ). ledger_says σ o before (close room) f ∷ []) (reached σ o ds q room r)

module _ (σ : Setting) (facts : Facts σ) (𝓟 : Pool σ) (𝓒 : Conditions σ 𝓟) (𝓢 : Stopped σ 𝓟) where
  -- ---- what is entered or has yet to be is the same at each server
  also : (i j : ℕ) → i < 𝓟.servers → j < 𝓟.servers → (id : ℕ) → In id (to_enter σ 𝓟 i) → In id (to_enter σ 𝓟 j)
  also i j l b id h =
      ⊎_elim (λ q. by ((verdict_first_lem σ 𝓟 i l).entered_judged id q) (λ d. 𝓒.same_drops j i b l id d q))
      (λ q. by ((verdict_first_lem σ 𝓟 i l).accepted_judged id q) (λ d. 𝓢.none_dropped i j l b id q d))
      (in_append id (entered_at σ 𝓟 i) (accepted_at σ 𝓟 i) h)
    where
      by : JudgedToEnd σ 𝓟 i id true → (In id (dropped_at σ 𝓟 j) → ⊥) → In id (to_enter σ 𝓟 j)
      by k not-dropped =
          ⊎_elim (λ a. append_in id (entered_at σ 𝓟 j) (accepted_at σ 𝓟 j) (inr a))
          (λ a. ⊎_elim (λ e. append_in id (entered_at σ 𝓟 j) (accepted_at σ 𝓟 j) (inl e)) (λ d. absurd (not-dropped d)) a)
          (stands_alike σ 𝓟 facts 𝓒.unaltered i j l b id k (λ p w e. 𝓢.only_accepted j b p w))

  -- ---- the ledger of a server with all entered
  abbrev o : ℕ → Opened
  o i = opened_at σ 𝓟 i

  -- where it is open, by what waits; where it is closed nothing is left to do
  record Through (i : ℕ) : Type 0 where
    mid : Ledger
    runs : run_ledger σ (o i) (ledger_at σ 𝓟 i) (map enter (accepted_at σ 𝓟 i)) ≡ mid
    entered : ids_of (notes_with is_entered mid.decided) ≡ to_enter σ 𝓟 i
    dropped : ids_of (notes_with is_dropped mid.decided) ≡ dropped_at σ 𝓟 i
    none_waits : (mid.progress ≡ is_open []) ⊎ (mid.progress ≡ is_closed)
    -- where it is open each entry is done
    says : (ws : List Pending) → (ledger_at σ 𝓟 i).progress ≡ is_open ws
        → (mid.progress ≡ is_open [])
        × (ledger_answers σ (o i) (ledger_at σ 𝓟 i) (map enter (accepted_at σ 𝓟 i)) ≡ replicate (length (accepted_at σ 𝓟 i)) done)

  through : (i : ℕ) → i < 𝓟.servers → (p : Progress) → (ledger_at σ 𝓟 i).progress ≡ p → Through i
  unfolding run_ledger those
  through i l (is_open ws) e =
      let ds : List Decided = (ledger_at σ 𝓟 i).decided in
      let all : (p : Pending) → In p ws → is_accepted p ≡ true =
      λ p k. 𝓢.only_accepted i l p (subst (λ (q : Progress). In p (waiting q)) (sym e) k) in
      let start : ledger_at σ 𝓟 i ≡ at (is_open ws) ds = λ t. at (e t) ds in
      let waits : accepted_at σ 𝓟 i ≡ map pending_id ws =
      ap (λ (q : Progress). map pending_id (those is_accepted (waiting q))) e ∙ ap (map pending_id) (those_all is_accepted ws all) in
      let ids : ids_of (map note_in ws) ≡ map pending_id ws = map-map (λ (n : Note). n.id) note_in ws in
      record {
        mid = at (is_open []) (ds ++ all_entered ws);
        runs = ap₂ (λ (v : Ledger) (s : List ℕ). run_ledger σ (o i) v (map enter s)) start waits ∙ entered_all σ (o i) ws ds all;
        entered =
            ap ids_of (with_append is_entered ds (all_entered ws) ∙ ap (λ (s : List Note). notes_with is_entered ds ++ s) (with_entered is_entered refl ws))
            ∙ map-append (λ (n : Note). n.id) (notes_with is_entered ds) (map note_in ws)
            ∙ ap (λ (s : List ℕ). entered_at σ 𝓟 i ++ s) (ids ∙ sym waits);
        dropped =
            ap ids_of (with_append is_dropped ds (all_entered ws) ∙ ap (λ (s : List Note). notes_with is_dropped ds ++ s) (without_entered is_dropped refl ws)
            ∙ append-nil (notes_with is_dropped ds));
        none_waits = inl refl;
        says = λ vs q. (
          refl,
          ap₂ (λ (v : Ledger) (s : List ℕ). ledger_answers σ (o i) v (map enter s)) start waits ∙ all_done σ (o i) ws ds all
              ∙ ap (λ (s : List ℕ). replicate (length s) done) (sym waits),
        );
      }
  through i l is_closed e =
      let none : accepted_at σ 𝓟 i ≡ [] = ap (λ (q : Progress). map pending_id (those is_accepted (waiting q))) e in
      record {
        mid = ledger_at σ 𝓟 i;
        runs = ap (λ (s : List ℕ). run_ledger σ (o i) (ledger_at σ 𝓟 i) (map enter s)) none;
        entered = sym (ap (λ (s : List ℕ). entered_at σ 𝓟 i ++ s) none ∙ append-nil (entered_at σ 𝓟 i));
        dropped = refl;
        none_waits = inr e;
        says = λ vs q. absurd (open_closed vs (sym q ∙ e));
      }
    where
      open_closed : (vs : List Pending) → is_open vs ≡ is_closed → ⊥
      open_closed vs z = let c : ◌≡◌ {A = ℕ} 0 1 = cc in omega arith

  at_server_lem : (i : ℕ) → i < 𝓟.servers → Through i
  at_server_lem i l = through i l (ledger_at σ 𝓟 i).progress refl

  -- the pool in which each has entered, and not yet closed
  abbrev 𝓡 : Pool σ
  𝓡 = with_calls σ 𝓟 (λ i. 𝓟.calls i ++ map enter (accepted_at σ 𝓟 i))
      (λ i l. all_append (𝓟.call_bytes i l) (entries_bytes (accepted_at σ 𝓟 i)))

  mid_is : (i : ℕ) (l : i < 𝓟.servers) → ledger_at σ 𝓡 i ≡ (at_server_lem i l).mid
  mid_is i l = run_append σ (o i) empty (𝓟.calls i) (map enter (accepted_at σ 𝓟 i)) ∙ (at_server_lem i l).runs

  apart : (i : ℕ) → i < 𝓟.servers → Distinct (to_enter σ 𝓟 i)
  apart i l =
      subst Distinct (ap (λ (v : Ledger). ids_of (notes_with is_entered v.decided)) (mid_is i l) ∙ (at_server_lem i l).entered)
      (entered_apart σ 𝓡 i l)

  same : (i j : ℕ) → i < 𝓟.servers → j < 𝓟.servers → Rearranged (to_enter σ 𝓟 i) (to_enter σ 𝓟 j)
  same i j l b = same_members (to_enter σ 𝓟 i) (to_enter σ 𝓟 j) (apart i l) (apart j b) (also i j l b) (also j i b l)

  enough : (i : ℕ) (l : i < 𝓟.servers) → 𝓟.least ≤ length (notes_with is_entered (at_server_lem i l).mid.decided)
  enough i l =
      let ns : List Note = notes_with is_entered (at_server_lem i l).mid.decided in
      let many : length ns ≡ length (to_enter σ 𝓟 𝓢.one) =
      sym (length-map ns (λ n. n.id)) ∙ ap length (at_server_lem i l).entered ∙ rearranged_length (same i 𝓢.one l 𝓢.is_server) in
      omega (arith, 𝓢.reached)

  -- ---- and closed
  module _ (room : ℕ) (wide : (i : ℕ) → i < 𝓟.servers → totals_length σ (opened_at σ 𝓟 i) ≤ room)
      (bytes : (i : ℕ) → i < 𝓟.servers → All BytesIn (𝓟.calls i ++ goes_on σ 𝓟 room i)) where
    abbrev 𝓠 : Pool σ
    𝓠 = with_calls σ 𝓟 (λ i. 𝓟.calls i ++ goes_on σ 𝓟 room i) bytes

    end_runs : (i : ℕ) (l : i < 𝓟.servers) → ledger_at σ 𝓠 i ≡ run_ledger σ (o i) (at_server_lem i l).mid (close room ∷ [])
    end_runs i l =
        run_append σ (o i) empty (𝓟.calls i) (goes_on σ 𝓟 room i)
        ∙ run_append σ (o i) (ledger_at σ 𝓟 i) (map enter (accepted_at σ 𝓟 i)) (close room ∷ [])
        ∙ ap (λ (v : Ledger). run_ledger σ (o i) v (close room ∷ [])) (at_server_lem i l).runs

    end_is : (i : ℕ) (l : i < 𝓟.servers) → ledger_at σ 𝓠 i ≡ at is_closed (at_server_lem i l).mid.decided
    end_is i l =
        let ds : List Decided = (at_server_lem i l).mid.decided in
        let from : (p : Progress) → (at_server_lem i l).mid.progress ≡ p
        → ledger_at σ 𝓠 i ≡ run_ledger σ (o i) (at p ds) (close room ∷ []) =
        λ p e. end_runs i l ∙ ap (λ (q : Progress). run_ledger σ (o i) (at q ds) (close room ∷ [])) e in
        ⊎_elim (λ e. from (is_open []) e ∙ close_runs σ (o i) ds room (enough i l) (wide i l))
        (λ e. from is_closed e ∙ closed_stays σ (o i) ds room) (at_server_lem i l).none_waits

    entered_are : (i : ℕ) → i < 𝓟.servers → entered_at σ 𝓠 i ≡ to_enter σ 𝓟 i
    entered_are i l = ap (λ (v : Ledger). ids_of (notes_with is_entered v.decided)) (end_is i l) ∙ (at_server_lem i l).entered

    dropped_are : (i : ℕ) → i < 𝓟.servers → dropped_at σ 𝓠 i ≡ dropped_at σ 𝓟 i
    dropped_are i l = ap (λ (v : Ledger). ids_of (notes_with is_dropped v.decided)) (end_is i l) ∙ (at_server_lem i l).dropped

    unaltered : Unaltered σ 𝓠
    unaltered i l m h =
        let q = server_in m in
        let none : handed_in σ (o i) (ledger_at σ 𝓟 i) (goes_on σ 𝓟 room i) ≡ [] =
        none_handed σ (o i) (ledger_at σ 𝓟 i) (goes_on σ 𝓟 room i) (no_messages σ (o i) room (accepted_at σ 𝓟 i)) in
        let old : In m (handed_in σ (o i) empty (𝓟.calls i)) =
        subst (λ (s : List (List ℕ)). In m s)
        (handed_append σ (o i) empty (𝓟.calls i) (goes_on σ 𝓟 room i)
        ∙ ap (λ (s : List (List ℕ)). handed_in σ (o i) empty (𝓟.calls i) ++ s) none
        ∙ append-nil (handed_in σ (o i) empty (𝓟.calls i))) h in
        subst (λ (s : List Answer). In (wrote m) s) (sym (answers_append σ (o q) empty (𝓟.calls q) (goes_on σ 𝓟 room q)))
        (append_in (wrote m) (answers_at σ 𝓟 q) _ (inl (𝓒.unaltered i l m old)))

    same_drops : (i j : ℕ) → i < 𝓟.servers → j < 𝓟.servers → (id : ℕ) → In id (dropped_at σ 𝓠 i) → In id (entered_at σ 𝓠 j) → ⊥
    same_drops i j l b id d e =
        let d' : In id (dropped_at σ 𝓟 i) = subst (λ (s : List ℕ). In id s) (dropped_are i l) d in
        ⊎_elim (λ q. 𝓒.same_drops i j l b id d' q) (λ q. 𝓢.none_dropped j i b l id q d')
        (in_append id (entered_at σ 𝓟 j) (accepted_at σ 𝓟 j) (subst (λ (s : List ℕ). In id s) (entered_are j b) e))

    conditions : Conditions σ 𝓠
    conditions = record { unaltered = unaltered; same_drops = same_drops }

    all_closed : AllClosed σ 𝓠
    all_closed i l = ap (λ (v : Ledger). v.progress) (end_is i l)

    answers : (i : ℕ) → i < 𝓟.servers → (ws : List Pending) → (ledger_at σ 𝓟 i).progress ≡ is_open ws
        → ledger_answers σ (o i) (ledger_at σ 𝓟 i) (goes_on σ 𝓟 room i)
        ≡ replicate (length (accepted_at σ 𝓟 i)) done ++ (wrote (closing_message σ (o i) (ledger_at σ 𝓠 i)) ∷ [])
    unfolding closing_message
    answers i l ws e =
        let m : Ledger = (at_server_lem i l).mid in
        answers_append σ (o i) (ledger_at σ 𝓟 i) (map enter (accepted_at σ 𝓟 i)) (close room ∷ [])
        ∙ ap₂ (λ (x y : List Answer). x ++ y) ((at_server_lem i l).says ws e).1
        (ap (λ (v : Ledger). ledger_answers σ (o i) v (close room ∷ [])) (at_server_lem i l).runs
        ∙ ap (λ (q : Progress). ledger_answers σ (o i) (at q m.decided) (close room ∷ [])) ((at_server_lem i l).says ws e).0
        ∙ close_says σ (o i) m.decided room (enough i l) (wide i l)
        ∙ ap (λ (v : Ledger). wrote (closing_message σ (o i) v) ∷ []) (sym (end_is i l)))

    pub resumed : Resumed σ 𝓟 room 𝓠
    resumed = record {
      answers = answers;
      enters = entered_are;
      same = same;
      conditions = conditions;
      closed = closed_together σ facts 𝓠 conditions all_closed;
    }

-- A SERVER THAT STOPPED BETWEEN VERDICT AND ENTRY GOES ON
pub resumes : (σ : Setting) → Facts σ → (𝓟 : Pool σ) → Resumes σ 𝓟
resumes σ facts 𝓟 𝓒 𝓢 room wide bytes = resumed σ facts 𝓟 𝓒 𝓢 room wide bytes
