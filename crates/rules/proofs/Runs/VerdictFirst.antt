-- Field 14 of demand 3: the ids that stand in a server's ledger as accepted, entered or rejected are those that round two was
-- answered so on, but for the accepted ones that were dropped. Each list of ids is read off the ledger; one that is accepted is found
-- under its id, since ids differ, and so can be entered or dropped. Assumes nothing.
use mathlib.Core.Path.{◌≡◌, refl, sym, ap, ◌∙◌, subst}
use mathlib.Core.Logic.{inl, inr, ◌⊎◌, ⊎_elim}
use mathlib.Core.Bool.{Bool, true, false, true≢false}
use mathlib.Core.List.{List, [], ◌∷◌, ◌++◌, map, map-map, map-append}
use mathlib.Core.Option.{Option, some, none}
use Prim.Native.Nat.{ℕ, ◌<◌}
use native.Mathlib.Omega.{arith}
use Rattle.algebra.specs.Lists.{In, Distinct}
use Rattle.algebra.proofs.Members.{in_map, of_map}
use Rattle.rules.specs.Settings.{Setting}
use Rattle.rules.specs.Keyed.{find, those}
use Rattle.rules.specs.Server.{Opened, while_open, enter_refusal, close_refusal}
use Rattle.rules.specs.Ledger.{Call, enter, drop, close, done, Note, Pending, waits_one, waitsTwo, waitsEntry, note_in, pending_id}
use Rattle.rules.specs.Ledger.{is_accepted, Progress, is_open, is_closed, waiting, Decision, entered, rejected, dropped, Decided, Ledger}
use Rattle.rules.specs.Ledger.{is_entered, is_rejected, is_dropped, notes_with, ids_of, notes_of, empty}
use Rattle.rules.specs.Ledger.{ledger_stage, ledger_state, refusal_of}
use Rattle.rules.specs.Mixing.{decided_id}
use Rattle.rules.specs.Pools.{Pool, opened_at, ledger_at, accepted_at, entered_at, rejected_at, dropped_at, notes_in}
use Rattle.rules.specs.Pools.{Answered, JudgedToEnd, VerdictFirst}
use Rattle.rules.proofs.Histories.Shuffled.{distinct_left, distinct_right}
use Rattle.rules.proofs.Histories.Keyed.{found_id, find_in, found_in_lem}
use Rattle.rules.proofs.Histories.Those.{of_those, in_those}
use Rattle.rules.proofs.Histories.Moves.{at, decided_as}
use Rattle.rules.proofs.Histories.Answers.{CameBy}
use Rattle.rules.proofs.Histories.Ended.{Ended, Asks, ended_asked, enter_ends, drop_ends}
use Rattle.rules.proofs.Histories.Judged.{Stands, awaits, was_entered, was_rejected, stands_judged}
use Rattle.rules.proofs.Histories.Standing.{judged_stands}
use Rattle.rules.proofs.Histories.Decisions.{From, of_with, with_of}
use Rattle.rules.proofs.Runs.Agreement.{sound_at_lem}
use Rattle.rules.proofs.Runs.Refusing.{none_enter, no_verdict_enter, accepted_enter, waiting_drop, close_waiting}

-- ---- what passes a test is of one kind
entered_is : (d : Decision) → is_entered d ≡ true → d ≡ entered
entered_is entered e = refl
entered_is rejected e = absurd (true≢false (sym e))
entered_is dropped e = absurd (true≢false (sym e))

rejected_is : (d : Decision) → is_rejected d ≡ true → d ≡ rejected
rejected_is entered e = absurd (true≢false (sym e))
rejected_is rejected e = refl
rejected_is dropped e = absurd (true≢false (sym e))

dropped_is : (d : Decision) → is_dropped d ≡ true → d ≡ dropped
dropped_is entered e = absurd (true≢false (sym e))
dropped_is rejected e = absurd (true≢false (sym e))
dropped_is dropped e = refl

module _ (σ : Setting) (𝓟 : Pool σ) (i : ℕ) (l : i < 𝓟.servers) where
  abbrev o : Opened
  o = opened_at σ 𝓟 i

  abbrev end : Ledger
  end = ledger_at σ 𝓟 i

  -- ---- the ids, and how they stand
  in_waiting : (id : ℕ) → In id (accepted_at σ 𝓟 i)
      → (n : Note) × (x : ℕ) × (y : ℕ) × In (waitsEntry n x y) (waiting end.progress) × (n.id ≡ id)
  in_waiting id h =
      let q = of_map pending_id id (those is_accepted (waiting end.progress)) h in
      let p = of_those is_accepted (waiting end.progress) q.0 q.1 in
      go q.0 p.0 p.1 q.2
    where
      go : (p : Pending) → In p (waiting end.progress) → is_accepted p ≡ true → pending_id p ≡ id
          → (n : Note) × (x : ℕ) × (y : ℕ) × In (waitsEntry n x y) (waiting end.progress) × (n.id ≡ id)
      go (waits_one n) k e s = absurd (true≢false (sym e))
      go (waitsTwo n x y) k e s = absurd (true≢false (sym e))
      go (waitsEntry n x y) k e s = (n, x, y, k, s)

  accepted_stands : (id : ℕ) → In id (accepted_at σ 𝓟 i) → Stands σ o end id true
  accepted_stands id h = let q = in_waiting id h in awaits q.0 q.1 q.2 q.3 q.4

  -- a decision of one kind
  module _ (t : Decision → Bool) (d : Decision) where
    decided_of : ((c : Decision) → t c ≡ true → c ≡ d) → (id : ℕ) → In id (ids_of (notes_with t end.decided)) → Ended σ o end id d
    decided_of is id h =
        let q = of_map (λ (n : Note). n.id) id (notes_with t end.decided) h in
        let f : From t q.0 end.decided = of_with t q.0 end.decided q.1 in
        let same : f.which ≡ decided_as q.0 d = λ s. decided_as (f.is_note s) (is f.which.decision f.passes s) in
        record { note = q.0; is_in = subst (λ (k : Decided). In k end.decided) same f.is_in; has_id = q.2 }

    pub of_decided : t d ≡ true → (id : ℕ) (n : Note) → In (decided_as n d) end.decided → n.id ≡ id
        → In id (ids_of (notes_with t end.decided))
    of_decided e id n k s =
        subst (λ (v : ℕ). In v (ids_of (notes_with t end.decided))) s
        (in_map (λ (m : Note). m.id) n (notes_with t end.decided) (with_of t (decided_as n d) end.decided k e))

    of_ended : t d ≡ true → (id : ℕ) → Ended σ o end id d → In id (ids_of (notes_with t end.decided))
    of_ended e id g = of_decided e id g.note g.is_in g.has_id

  entered_of : (id : ℕ) → In id (entered_at σ 𝓟 i) → Ended σ o end id entered
  entered_of = decided_of is_entered entered entered_is

  dropped_of : (id : ℕ) → In id (dropped_at σ 𝓟 i) → Ended σ o end id dropped
  dropped_of = decided_of is_dropped dropped dropped_is

  -- ---- judged in the whole list
  whole : (id : ℕ) (v : Bool) → Stands σ o end id v → JudgedToEnd σ 𝓟 i id v
  whole id v s =
      ⊎_elim (none id v) (λ q. record { joined = q.joined; by = q.by })
      (stands_judged σ o empty (𝓟.calls i) (𝓟.call_bytes i l) id v s)
    where
      none : (id : ℕ) (v : Bool) → Stands σ o empty id v → JudgedToEnd σ 𝓟 i id v
      none id _ (awaits n x y k s) = absurd k
      none id _ (was_entered n k s) = absurd k
      none id _ (was_rejected n k s) = absurd k

  ends : (id : ℕ) (v : Bool) → JudgedToEnd σ 𝓟 i id v → Stands σ o end id v ⊎ ((v ≡ true) × Ended σ o end id dropped)
  ends id v k = judged_stands σ o empty (𝓟.calls i) (𝓟.call_bytes i l) id v (record { joined = k.joined; by = k.by })

  -- ---- entered and dropped by the calls that ask for it
  asked_so : (id : ℕ) (d : Decision) → Ended σ o end id d → CameBy σ o (Asks σ o id d) empty (𝓟.calls i)
  asked_so id d g =
      ⊎_elim (λ (z : Ended σ o empty id d). absurd z.is_in) (λ q. q) (ended_asked σ o id d empty (𝓟.calls i) (𝓟.call_bytes i l) g)

  by_entry : (id : ℕ) → Ended σ o end id entered → Answered σ 𝓟 i (enter id) done
  by_entry id g =
      let q = asked_so id entered g in
      subst (λ (c : Call). Answered σ 𝓟 i c done) q.makes_it.0 (subst (Answered σ 𝓟 i q.call) q.makes_it.1 q.is_in)

  by_drop : (id : ℕ) → Ended σ o end id dropped → Answered σ 𝓟 i (drop id) done
  by_drop id g =
      let q = asked_so id dropped g in
      subst (λ (c : Call). Answered σ 𝓟 i c done) q.makes_it.0 (subst (Answered σ 𝓟 i q.call) q.makes_it.1 q.is_in)

  accepted_ids : (id : ℕ) → Stands σ o end id true → In id (accepted_at σ 𝓟 i) ⊎ In id (entered_at σ 𝓟 i)
  accepted_ids id (awaits n x y k s) =
      let ws : List Pending = waiting end.progress in
      inl (subst (λ (v : ℕ). In v (accepted_at σ 𝓟 i)) s
      (in_map pending_id (waitsEntry n x y) (those is_accepted ws) (in_those is_accepted ws (waitsEntry n x y) k refl)))
  accepted_ids id (was_entered n k s) = inr (of_decided is_entered entered refl id n k s)

  rejected_ids : (id : ℕ) → Stands σ o end id false → In id (rejected_at σ 𝓟 i)
  rejected_ids id (was_rejected n k s) = of_decided is_rejected rejected refl id n k s

  -- ---- ids differ
  both_apart : Distinct (map decided_id end.decided) × Distinct (map pending_id (waiting end.progress))
  unfolding notes_in
  both_apart =
      let ds : List Decided = end.decided in
      let ws : List Pending = waiting end.progress in
      let all : Distinct (ids_of (notes_of ds) ++ ids_of (map note_in ws)) =
      subst Distinct (map-append (λ (n : Note). n.id) (notes_of ds) (map note_in ws)) (sound_at_lem σ 𝓟 i l).apart in (
        subst Distinct (map-map (λ (n : Note). n.id) (λ (k : Decided). k.note) ds) (distinct_left (ids_of (notes_of ds)) _ all),
        subst Distinct (map-map (λ (n : Note). n.id) note_in ws) (distinct_right (ids_of (notes_of ds)) _ all),
      )

  -- so what is dropped is not entered
  one_decision : (id : ℕ) → Ended σ o end id dropped → Ended σ o end id entered → ⊥
  one_decision id g k =
      let there : (d : Decision) (e : Ended σ o end id d) → find decided_id id end.decided ≡ some (decided_as e.note d) =
      λ d e. found_in_lem decided_id id end.decided (decided_as e.note d) both_apart.0 e.is_in e.has_id in
      let same : decided_as g.note dropped ≡ decided_as k.note entered =
      some_same _ _ (sym (there dropped g) ∙ there entered k) in
      true≢false (ap (λ (u : Decided). is_dropped u.decision) same)
    where
      some_same : (a b : Decided) → some a ≡ some b → a ≡ b
      some_same a b e = cc

  -- ---- an accepted one can be entered, and can be dropped
  found : (id : ℕ) → In id (accepted_at σ 𝓟 i) → (n : Note) × (x : ℕ) × (y : ℕ) × (find pending_id id (waiting end.progress) ≡ some (waitsEntry n x y))
  found id h = from (in_waiting id h)
    where
      from : (n : Note) × (x : ℕ) × (y : ℕ) × In (waitsEntry n x y) (waiting end.progress) × (n.id ≡ id)
          → (n : Note) × (x : ℕ) × (y : ℕ) × (find pending_id id (waiting end.progress) ≡ some (waitsEntry n x y))
      from q =
          (q.0, q.1, q.2, found_in_lem pending_id id (waiting end.progress) (waitsEntry q.0 q.1 q.2) both_apart.1 q.3 q.4)

  ended_by : (id : ℕ) (p : Progress) → end.progress ≡ p → (n : Note) (x y : ℕ) → find pending_id id (waiting p) ≡ some (waitsEntry n x y)
      → (refusal_of σ o (at p end.decided) (enter id) ≡ 0) × (refusal_of σ o (at p end.decided) (drop id) ≡ 0)
  ended_by id (is_open ws) e n x y h =
      (accepted_enter σ o ws end.decided id n x y h, waiting_drop σ o ws end.decided id (waitsEntry n x y) h)
  ended_by id is_closed e n x y h = absurd (nothing_found h)
    where
      nothing_found : find pending_id id [] ≡ some (waitsEntry n x y) → ⊥
      nothing_found z = unfold find in (let c : ◌≡◌ {A = ℕ} 0 1 = cc in omega arith)

  can_end : (id : ℕ) → In id (accepted_at σ 𝓟 i) → (refusal_of σ o end (enter id) ≡ 0) × (refusal_of σ o end (drop id) ≡ 0)
  can_end id h = let q = found id h in ended_by id end.progress refl q.0 q.1 q.2 q.3

  -- ---- one that is not accepted cannot be entered, and while one is accepted the table cannot close
  no_entry : (id : ℕ) → (In id (accepted_at σ 𝓟 i) → ⊥) → (p : Progress) → end.progress ≡ p
      → refusal_of σ o (at p end.decided) (enter id) ≡ 11
  unfolding refusal_of ledger_state ledger_stage enter_refusal while_open
  no_entry id h (is_open ws) e = go (find pending_id id ws) refl
    where
      go : (v : Option Pending) → find pending_id id ws ≡ v → refusal_of σ o (at (is_open ws) end.decided) (enter id) ≡ 11
      go none q = none_enter σ o ws end.decided id q
      go (some p) q = by_verdict (is_accepted p) refl
        where
          by_verdict : (b : Bool) → is_accepted p ≡ b → refusal_of σ o (at (is_open ws) end.decided) (enter id) ≡ 11
          by_verdict true z =
              absurd (h (subst (λ (v : List Pending). In id (map pending_id (those is_accepted v))) (sym (ap waiting e))
              (subst (λ (k : ℕ). In k (map pending_id (those is_accepted ws))) (found_id pending_id id ws p q)
              (in_map pending_id p (those is_accepted ws) (in_those is_accepted ws p (find_in pending_id id ws p q) z)))))
          by_verdict false z = no_verdict_enter σ o ws end.decided id p q z
  no_entry id h is_closed e = refl

  no_close : (id : ℕ) → In id (accepted_at σ 𝓟 i) → (room : ℕ) (p : Progress) → end.progress ≡ p
      → refusal_of σ o (at p end.decided) (close room) ≡ 11
  unfolding refusal_of ledger_state ledger_stage close_refusal while_open those
  no_close id h room (is_open []) e =
      absurd (subst (λ (v : List Pending). In id (map pending_id (those is_accepted v))) (ap waiting e) h)
  no_close id h room (is_open (w ∷ ws)) e = close_waiting σ o (w ∷ ws) end.decided (omega arith) room
  no_close id h room is_closed e = refl

  -- 14
  pub verdict_first_lem : VerdictFirst σ 𝓟 i
  verdict_first_lem = record {
    accepted_judged = λ id h. whole id true (accepted_stands id h);
    entered_judged = λ id h. (let g = entered_of id h in whole id true (was_entered g.note g.is_in g.has_id));
    rejected_judged = λ id h. (
        let g = decided_of is_rejected rejected rejected_is id h in
        whole id false (was_rejected g.note g.is_in g.has_id));
    judged_accepted = λ id k. ⊎_elim (λ s. ⊎_elim (λ a. inl a) (λ a. inr (inl a)) (accepted_ids id s))
        (λ g. inr (inr (of_ended is_dropped dropped refl id g.1))) (ends id true k);
    judged_rejected = λ id k. ⊎_elim (λ s. rejected_ids id s) (λ g. absurd (true≢false (sym g.0))) (ends id false k);
    entered_asked = λ id h. by_entry id (entered_of id h);
    asked_entered = λ id q. of_ended is_entered entered refl id (enter_ends σ o id empty (𝓟.calls i) (𝓟.call_bytes i l) q);
    dropped_asked = λ id h. by_drop id (dropped_of id h);
    asked_dropped = λ id q. of_ended is_dropped dropped refl id (drop_ends σ o id empty (𝓟.calls i) (𝓟.call_bytes i l) q);
    dropped_not_entered = λ id h k. one_decision id (dropped_of id h) (entered_of id k);
    can_enter = λ id h. (can_end id h).0;
    can_drop = λ id h. (can_end id h).1;
    cannot_enter = λ id h. no_entry id h end.progress refl;
    cannot_close = λ id h room. no_close id h room end.progress refl;
  }
