-- Where the answers of a history come from: a message written is that of a share, that of joined messages of round one that were
-- handed in, or a closing message; messages that were handed in name servers that there are; a closed ledger wrote its closing
-- message. By the history. Assumes nothing.
use mathlib.Core.Path.{◌≡◌, refl, sym, ap, ◌∙◌, subst}
use mathlib.Core.Logic.{◌⊎◌, ⊎_elim, inl, inr}
use mathlib.Core.Bool.{Bool, true, false, true≢false}
use mathlib.Core.List.{List, [], ◌∷◌, ◌++◌, map}
use mathlib.Core.Option.{some}
use Prim.Native.Nat.{ℕ, ◌≤◌, ◌<◌}
use native.Mathlib.Omega.{arith}
use lib.ListN.{length}
use Rattle.algebra.specs.Lists.{In, count_from}
use Rattle.algebra.proofs.Members.{in_append, append_in, in_map, of_map, in_count, count_in_lem}
use Rattle.rules.specs.Settings.{Setting}
use Rattle.rules.specs.Messages.{server_in, place_in}
use Rattle.rules.specs.Keyed.{find, changed}
use Rattle.rules.specs.Server.{Opened, message_one}
use Rattle.rules.specs.Ledger.{Call, Answer, wrote, Note, Pending, waits_one, note_in, pending_id, Progress, is_open}
use Rattle.rules.specs.Ledger.{is_closed, Decision, Decided, Ledger, is_entered, notes_with, notes_of}
use Rattle.rules.specs.Ledger.{closing_message, noted, second_answer}
use Rattle.rules.specs.Pools.{notes_in, messages_in}
use Rattle.rules.proofs.Histories.Shuffled.{rearranged_in}
use Rattle.rules.proofs.Histories.JoinedRuns.{Joined, JoinedOne}
use Rattle.rules.proofs.Histories.Keyed.{found_out, changed_keeps}
use Rattle.rules.proofs.Histories.Moves.{at, Decides, rejects, enters, drops, Moves, stays, notes, sums, accepts, decides, closes}
use Rattle.rules.proofs.Histories.Moves.{History, over, next, sums_of}
use Rattle.rules.proofs.Histories.NotesGrow.{keeps_notes, keeps_note}

module _ (σ : Setting) (o : Opened) where
  -- each message of a run was handed in
  abbrev pub Handed : List (List ℕ) → ℕ → List ℕ → Type 0
  Handed hs kind joined = (j : ℕ) → j < o.servers → In (place_in σ kind joined j) hs

  pub handed_here : (kind : ℕ) (joined : List ℕ) → Handed (messages_in σ o.servers kind joined) kind joined
  handed_here kind joined j l =
      in_map (place_in σ kind joined) j (count_from 0 o.servers) (count_in_lem 0 o.servers j (omega arith) (omega arith))

  -- ---- messages
  pub data Origin (ns : List Note) (hs : List (List ℕ)) (m : List ℕ) : Type 0 where
    of_share : (n : Note) → In n ns → m ≡ message_one σ o (noted σ o n) → Origin ns hs m
    of_one : (n : Note) → In n ns → (joined : List ℕ) → Handed hs 34 joined → JoinedOne σ o.servers n.id joined
        → m ≡ second_answer σ o n joined → Origin ns hs m
    of_close : (l : Ledger) → m ≡ closing_message σ o l → Origin ns hs m

  origin_more : {ns ms : List Note} {hs gs : List (List ℕ)} {m : List ℕ} → ((n : Note) → In n ns → In n ms)
      → ((j : List ℕ) → In j hs → In j gs) → Origin ns hs m → Origin ms gs m
  origin_more f g (of_share n h e) = of_share n (f n h) e
  origin_more f g (of_one n h j k s e) = of_one n (f n h) j (λ i l. g _ (k i l)) s e
  origin_more f g (of_close l e) = of_close l e

  -- the note of a return that is found is noted, also with the sums
  found_in_lem : (ws : List Pending) (ds : List Decided) (id : ℕ) (p : Pending) (joined : List ℕ) → find pending_id id ws ≡ some p
      → In (note_in p) (notes_of ds ++ map note_in (changed pending_id id (sums_of σ o joined) ws))
  found_in_lem ws ds id p joined q =
      append_in (note_in p) (notes_of ds) (map note_in (changed pending_id id (sums_of σ o joined) ws))
      (inr (subst (λ (v : List Note). In (note_in p) v)
      (sym (changed_keeps pending_id id note_in (sums_of σ o joined) (keeps_note σ o _ _) ws))
      (in_map note_in p ws (rearranged_in p (found_out pending_id id ws p q) (inl refl)))))

  -- a decision writes no message
  pub none_written : {id : ℕ} {c : Call} {p : Pending} {d : Decision} {a : Answer} {h : List (List ℕ)} → Decides σ o id c p d a h
      → (m : List ℕ) → a ≡ wrote m → ⊥
  none_written (rejects n x y joined s z) m e = let z : ◌≡◌ {A = ℕ} 0 1 = cc in omega arith
  none_written (enters n x y) m e = let z : ◌≡◌ {A = ℕ} 0 1 = cc in omega arith
  none_written (drops p) m e = let z : ◌≡◌ {A = ℕ} 0 1 = cc in omega arith

  first_origin : {l l' : Ledger} {c : Call} {a : Answer} {h : List (List ℕ)} → Moves σ o l c a h l' → (m : List ℕ) → a ≡ wrote m
      → Origin (notes_in l') h m
  unfolding notes_in
  first_origin (stays l n) m e = absurd (let z : ◌≡◌ {A = ℕ} 0 1 = cc in omega arith)
  first_origin (notes ws ds n t) m e = of_share n (append_in n (notes_of ds) (n ∷ map note_in ws) (inr (inl refl))) (cc)
  first_origin (sums ws ds id n joined w s) m e = of_one n (found_in_lem ws ds id (waits_one n) joined w) joined (handed_here 34 joined) s (cc)
  first_origin (accepts ws ds id n x y joined w s q) m e = absurd (let z : ◌≡◌ {A = ℕ} 0 1 = cc in omega arith)
  first_origin (decides ws ds id p d w s) m e = absurd (none_written s m e)
  first_origin (closes ds q) m e = of_close (at (is_open []) ds) (cc)

  pub origin : {l l' : Ledger} {xs : List Answer} {hs : List (List ℕ)} → History σ o l xs hs l'
      → (m : List ℕ) → In (wrote m) xs → Origin (notes_in l') hs m
  origin (over l) m k = absurd k
  origin (next {h = h} {hs = hs} mv r) m (inl e) =
      origin_more (keeps_notes σ o r) (λ j k. append_in j h hs (inl k)) (first_origin mv m e)
  origin (next {h = h} {hs = hs} mv r) m (inr k) = origin_more (λ n q. q) (λ j q. append_in j h hs (inr q)) (origin r m k)

  -- ---- messages that were handed in name servers that there are
  abbrev Named : List ℕ → Type 0
  Named m = server_in m < o.servers

  all_named : (kind id : ℕ) (joined m : List ℕ) → Joined σ o.servers kind id joined
      → In m (messages_in σ o.servers kind joined) → Named m
  all_named kind id joined m s k =
      let place = of_map (place_in σ kind joined) m (count_from 0 o.servers) k in
      let within = in_count 0 o.servers place.0 place.1 in
      subst Named place.2 (s.is_of_round place.0 (omega arith)).is_one

  decided_named : {id : ℕ} {c : Call} {p : Pending} {d : Decision} {a : Answer} {h : List (List ℕ)} → Decides σ o id c p d a h
      → (m : List ℕ) → In m h → Named m
  decided_named (rejects n x y joined s z) m k = all_named 35 n.id joined m s k
  decided_named (enters n x y) m k = absurd k
  decided_named (drops p) m k = absurd k

  first_named : {l l' : Ledger} {c : Call} {a : Answer} {h : List (List ℕ)} → Moves σ o l c a h l' → (m : List ℕ) → In m h → Named m
  first_named (stays l n) m k = absurd k
  first_named (notes ws ds n t) m k = absurd k
  first_named (sums ws ds id n joined w s) m k = all_named 34 n.id joined m s.each k
  first_named (accepts ws ds id n x y joined w s q) m k = all_named 35 n.id joined m s k
  first_named (decides ws ds id p d w s) m k = decided_named s m k
  first_named (closes ds q) m k = absurd k

  pub handed_named : {l l' : Ledger} {xs : List Answer} {hs : List (List ℕ)} → History σ o l xs hs l' → (m : List ℕ) → In m hs → Named m
  handed_named (over l) m k = absurd k
  handed_named (next {h = h} {hs = hs} mv r) m k = ⊎_elim (λ q. first_named mv m q) (λ q. handed_named r m q) (in_append m h hs k)

  -- ---- closing
  abbrev pub ended : Progress → Bool
  ended (is_open ws) = false
  ended is_closed = true

  -- a closed ledger takes nothing
  move_closed : {l l' : Ledger} {c : Call} {a : Answer} {h : List (List ℕ)} → Moves σ o l c a h l' → ended l.progress ≡ true → l' ≡ l
  move_closed (stays l n) e = refl
  move_closed (notes ws ds n t) e = absurd (true≢false (sym e))
  move_closed (sums ws ds id n joined w s) e = absurd (true≢false (sym e))
  move_closed (accepts ws ds id n x y joined w s q) e = absurd (true≢false (sym e))
  move_closed (decides ws ds id p d w s) e = absurd (true≢false (sym e))
  move_closed (closes ds q) e = absurd (true≢false (sym e))

  pub stays_closed : {l l' : Ledger} {xs : List Answer} {hs : List (List ℕ)} → History σ o l xs hs l'
      → ended l.progress ≡ true → l' ≡ l
  stays_closed (over l) e = refl
  stays_closed (next mv r) e =
      let q = move_closed mv e in
      stays_closed r (ap (λ (v : Ledger). ended v.progress) q ∙ e) ∙ q

  -- at least Q are entered
  abbrev pub Enough : Ledger → Type 0
  Enough l = o.least ≤ length (notes_with is_entered l.decided)

  first_closing : {l l' : Ledger} {c : Call} {a : Answer} {h : List (List ℕ)} → Moves σ o l c a h l' → ended l'.progress ≡ true
      → (ended l.progress ≡ true) ⊎ ((a ≡ wrote (closing_message σ o l')) × Enough l')
  unfolding closing_message
  first_closing (stays l n) e = inl e
  first_closing (notes ws ds n t) e = absurd (true≢false (sym e))
  first_closing (sums ws ds id n joined w s) e = absurd (true≢false (sym e))
  first_closing (accepts ws ds id n x y joined w s q) e = absurd (true≢false (sym e))
  first_closing (decides ws ds id p d w s) e = absurd (true≢false (sym e))
  first_closing (closes ds q) e = inr (refl, q)

  pub closing_written : {l l' : Ledger} {xs : List Answer} {hs : List (List ℕ)} → History σ o l xs hs l'
      → ended l'.progress ≡ true → (ended l.progress ≡ true) ⊎ (In (wrote (closing_message σ o l')) xs × Enough l')
  closing_written (over l) e = inl e
  closing_written (next mv r) e =
      ⊎_elim
      (λ old. ⊎_elim (λ q. inl q)
      (λ q. inr (
        inl (q.0 ∙ ap (λ (v : Ledger). wrote (closing_message σ o v)) (sym (stays_closed r old))),
        subst Enough (sym (stays_closed r old)) q.1,
      ))
      (first_closing mv old))
      (λ new. inr (inr new.0, new.1)) (closing_written r e)
