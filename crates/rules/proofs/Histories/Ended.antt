-- Decisions and the calls that ask for them. A return is entered by an entry, dropped by a drop and rejected by a verdict, on its id and
-- done, and by no other call; each such call decides it so; and a decision is never taken back. Assumes nothing.
use mathlib.Core.Path.{◌≡◌, refl, sym, ap, ◌∙◌, subst}
use mathlib.Core.Logic.{inl, inr, ◌⊎◌, ⊎_elim}
use mathlib.Core.Bool.{false}
use mathlib.Core.List.{List, [], ◌∷◌, ◌++◌}
use Prim.Native.Nat.{ℕ}
use Rattle.algebra.specs.Lists.{All, In}
use Rattle.algebra.proofs.Members.{in_append, append_in}
use Rattle.rules.specs.Settings.{Setting}
use Rattle.rules.specs.Server.{Opened}
use Rattle.rules.specs.Ledger.{Call, round_two, enter, drop, Answer, judged, done, Note, Pending, note_in, pending_id}
use Rattle.rules.specs.Ledger.{Decision, entered, rejected, dropped, Decided, Ledger, run_ledger}
use Rattle.rules.specs.Pools.{BytesIn, AnsweredIn}
use Rattle.rules.proofs.Histories.Keyed.{found_id}
use Rattle.rules.proofs.Histories.Moves.{decided_as, Decides, rejects, enters, drops, Moves, stays, notes, sums, accepts, decides}
use Rattle.rules.proofs.Histories.Moves.{closes}
use Rattle.rules.proofs.Histories.Answers.{CameBy, came_by, made_so}

-- the last of a list, or one before it
pub last_or : (ds : List Decided) (d k : Decided) → In k (ds ++ (d ∷ [])) → (In k ds) ⊎ (d ≡ k)
last_or ds d k h = ⊎_elim (λ q. inl q) (λ q. inr (only q)) (in_append k ds (d ∷ []) h)
  where
    only : In k (d ∷ []) → d ≡ k
    only (inl e) = e
    only (inr q) = absurd q

pub last_in : (ds : List Decided) (k : Decided) → In k (ds ++ (k ∷ []))
last_in ds k = append_in k ds (k ∷ []) (inr (inl refl))

module _ (σ : Setting) (o : Opened) where
  -- the return under an id was decided so
  pub record Ended (l : Ledger) (id : ℕ) (d : Decision) : Type 0 where
    pub note : Note
    pub is_in : In (decided_as note d) l.decided
    pub has_id : note.id ≡ id

  -- ---- a decision stays
  pub decided_still : {l l' : Ledger} {c : Call} {a : Answer} {h : List (List ℕ)} → Moves σ o l c a h l' → (k : Decided)
      → In k l.decided → In k l'.decided
  decided_still (stays l n) k q = q
  decided_still (notes ws ds n t) k q = q
  decided_still (sums ws ds id n joined w j) k q = q
  decided_still (accepts ws ds id n x y joined w j z) k q = q
  decided_still (decides ws ds id p d w s) k q = append_in k ds (decided_as (note_in p) d ∷ []) (inl q)
  decided_still (closes ds e) k q = q

  pub ended_still : {l l' : Ledger} {c : Call} {a : Answer} {h : List (List ℕ)} → Moves σ o l c a h l' → (id : ℕ) (d : Decision)
      → Ended l id d → Ended l' id d
  ended_still m id d g = record { note = g.note; is_in = decided_still m _ g.is_in; has_id = g.has_id }

  -- ---- the calls that decide it so
  abbrev pub Asks : ℕ → Decision → Call → Answer → Type 0
  Asks id entered c a = (c ≡ enter id) × (a ≡ done)
  Asks id rejected c a = (joined : List ℕ) × (c ≡ round_two id joined) × (a ≡ judged false)
  Asks id dropped c a = (c ≡ drop id) × (a ≡ done)

  asked : {id : ℕ} {c : Call} {p : Pending} {d : Decision} {a : Answer} {h : List (List ℕ)} → Decides σ o id c p d a h → Asks id d c a
  asked (rejects n x y joined s z) = (joined, refl, refl)
  asked (enters n x y) = (refl, refl)
  asked (drops p) = (refl, refl)

  first_ended : {l l' : Ledger} {c : Call} {a : Answer} {h : List (List ℕ)} → Moves σ o l c a h l' → (id : ℕ) (d : Decision) → Ended l' id d
      → Ended l id d ⊎ Asks id d c a
  first_ended (stays l n) id d g = inl g
  first_ended (notes ws ds n t) id d g = inl (record { note = g.note; is_in = g.is_in; has_id = g.has_id })
  first_ended (sums ws ds k n joined w j) id d g = inl (record { note = g.note; is_in = g.is_in; has_id = g.has_id })
  first_ended (accepts ws ds k n x y joined w j z) id d g = inl (record { note = g.note; is_in = g.is_in; has_id = g.has_id })
  first_ended {c = c} {a = a} (decides ws ds k p f w s) id d g =
      ⊎_elim (λ old. inl (record { note = g.note; is_in = old; has_id = g.has_id }))
      (λ (new : decided_as (note_in p) f ≡ decided_as g.note d).
      let named : k ≡ id = sym (found_id pending_id k ws p w) ∙ ap (λ (u : Decided). u.note.id) new ∙ g.has_id in
      let so : f ≡ d = ap (λ (u : Decided). u.decision) new in
      inr (subst (λ (u : ℕ). Asks u d c a) named (subst (λ (u : Decision). Asks k u c a) so (asked s))))
      (last_or ds (decided_as (note_in p) f) (decided_as g.note d) g.is_in)
  first_ended (closes ds q) id d g = inl (record { note = g.note; is_in = g.is_in; has_id = g.has_id })

  -- decided so from the start, or by such a call of the list
  pub ended_asked : (id : ℕ) (d : Decision) (l : Ledger) (cs : List Call) → All BytesIn cs → Ended (run_ledger σ o l cs) id d
      → Ended l id d ⊎ CameBy σ o (Asks id d) l cs
  ended_asked id d = came_by σ o (λ k. Ended k id d) (Asks id d) (λ l l' c a h m. first_ended m id d)

  -- ---- and they do
  entered_by_lem : {l l' : Ledger} {id : ℕ} {h : List (List ℕ)} → Moves σ o l (enter id) done h l' → Ended l' id entered
  entered_by_lem (decides ws ds id p _ w (enters n x y)) =
      record { note = n; is_in = last_in ds (decided_as n entered); has_id = found_id pending_id id ws p w }

  dropped_by : {l l' : Ledger} {id : ℕ} {h : List (List ℕ)} → Moves σ o l (drop id) done h l' → Ended l' id dropped
  dropped_by (decides ws ds id p _ w (drops _)) =
      record { note = note_in p; is_in = last_in ds (decided_as (note_in p) dropped); has_id = found_id pending_id id ws p w }

  pub enter_ends : (id : ℕ) (l : Ledger) (cs : List Call) → All BytesIn cs → AnsweredIn σ o l cs (enter id) done
      → Ended (run_ledger σ o l cs) id entered
  enter_ends id =
      made_so σ o (λ k. Ended k id entered) (λ l l' c a h m. ended_still m id entered) (enter id) done (λ l l' h m. entered_by_lem m)

  pub drop_ends : (id : ℕ) (l : Ledger) (cs : List Call) → All BytesIn cs → AnsweredIn σ o l cs (drop id) done
      → Ended (run_ledger σ o l cs) id dropped
  drop_ends id =
      made_so σ o (λ k. Ended k id dropped) (λ l l' c a h m. ended_still m id dropped) (drop id) done (λ l l' h m. dropped_by m)
