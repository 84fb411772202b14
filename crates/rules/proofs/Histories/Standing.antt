-- From its verdict on a return stands as the verdict says: an accepted one waits for entry until it is entered or dropped, a rejected
-- one is decided at once. No other call changes that: a return that waits is changed only by the call that finds it, and decisions are
-- never taken back. Assumes nothing.
use mathlib.Core.Path.{◌≡◌, refl, ap, subst}
use mathlib.Core.Logic.{inl, inr, ◌⊎◌, ⊎_elim}
use mathlib.Core.Bool.{Bool, true, false}
use mathlib.Core.List.{List, [], ◌∷◌, ◌++◌}
use mathlib.Core.Option.{some}
use Prim.Native.Nat.{ℕ}
use native.Mathlib.Omega.{arith}
use Rattle.algebra.specs.Lists.{All, In}
use Rattle.rules.specs.Settings.{Setting}
use Rattle.rules.specs.Keyed.{find, changed}
use Rattle.rules.specs.Server.{Opened}
use Rattle.rules.specs.Ledger.{Call, round_two, Answer, judged, Note, Pending, waitsTwo, waitsEntry, note_in, pending_id}
use Rattle.rules.specs.Ledger.{waiting, Decision, entered, rejected, dropped, Decided, Ledger}
use Rattle.rules.specs.Ledger.{accept_noted, run_ledger}
use Rattle.rules.specs.Pools.{BytesIn}
use Rattle.rules.proofs.Histories.Keyed.{found_id, find_in, changed_found, changed_still, without_still}
use Rattle.rules.proofs.Histories.Moves.{decided_as, Decides, rejects, enters, drops, Moves, stays, notes, sums, accepts, decides}
use Rattle.rules.proofs.Histories.Moves.{closes, sums_of}
use Rattle.rules.proofs.Histories.Answers.{made_so}
use Rattle.rules.proofs.Histories.Ended.{last_in, Ended, decided_still, ended_still}
use Rattle.rules.proofs.Histories.NotesGrow.{accept_keeps_id}
use Rattle.rules.proofs.Histories.Judged.{JudgedIn, Stands, awaits, was_entered, was_rejected}

module _ (σ : Setting) (o : Opened) where
  -- ---- the verdict makes it stand so
  verdict_stands : {l : Ledger} {id : ℕ} {l' : Ledger} {joined : List ℕ} {a : Answer} {h : List (List ℕ)}
      → Moves σ o l (round_two id joined) a h l' → (v : Bool) → a ≡ judged v → Stands σ o l' id v
  unfolding accept_noted
  verdict_stands (stays l n) v e = absurd (let z : ◌≡◌ {A = ℕ} 0 1 = cc in omega arith)
  verdict_stands (notes ws ds n t) v e = absurd (let z : ◌≡◌ {A = ℕ} 0 1 = cc in omega arith)
  verdict_stands (sums ws ds k n joined w j) v e = absurd (let z : ◌≡◌ {A = ℕ} 0 1 = cc in omega arith)
  verdict_stands (accepts ws ds id n x y joined w j z) v e =
      let same : true ≡ v = cc in
      subst (Stands σ o _ id) same
      (awaits n x y (find_in pending_id id (changed pending_id id (accept_noted σ o) ws) (waitsEntry n x y)
      (changed_found pending_id id (accept_noted σ o) (accept_keeps_id σ o) ws (waitsTwo n x y) w))
      (found_id pending_id id ws (waitsTwo n x y) w))
  verdict_stands (decides ws ds id p d w (rejects n x y joined j z)) v e =
      let same : false ≡ v = cc in
      subst (Stands σ o _ id) same (was_rejected n (last_in ds (decided_as n rejected)) (found_id pending_id id ws (waitsTwo n x y) w))
  verdict_stands (closes ds q) v e = absurd (let z : ◌≡◌ {A = ℕ} 0 1 = cc in omega arith)

  -- ---- and so it stays
  -- the return that waits for entry is decided by an entry or a drop
  decided_so : {id : ℕ} {c : Call} {p : Pending} {d : Decision} {a : Answer} {h : List (List ℕ)} → Decides σ o id c p d a h
      → (n : Note) (x y : ℕ) → p ≡ waitsEntry n x y → (d ≡ entered) ⊎ (d ≡ dropped)
  decided_so (rejects m u v joined j z) n x y e = absurd (let z : ◌≡◌ {A = ℕ} 0 1 = cc in omega arith)
  decided_so (enters m u v) n x y e = inl refl
  decided_so (drops p) n x y e = inr refl

  awaits_still : {l l' : Ledger} {c : Call} {a : Answer} {h : List (List ℕ)} → Moves σ o l c a h l' → (n : Note) (x y : ℕ)
      → In (waitsEntry n x y) (waiting l.progress) → Stands σ o l' n.id true ⊎ Ended σ o l' n.id dropped
  awaits_still (stays l k) n x y q = inl (awaits n x y q refl)
  awaits_still (notes ws ds m t) n x y q = inl (awaits n x y (inr q) refl)
  awaits_still (sums ws ds id m joined w j) n x y q =
      ⊎_elim (λ k. inl (awaits n x y k refl))
      (λ (e : find pending_id id ws ≡ some (waitsEntry n x y)). absurd (let z : ◌≡◌ {A = ℕ} 0 1 = cc in omega arith))
      (changed_still pending_id id (sums_of σ o joined) ws (waitsEntry n x y) q)
  awaits_still (accepts ws ds id m u v joined w j z) n x y q =
      ⊎_elim (λ k. inl (awaits n x y k refl))
      (λ (e : find pending_id id ws ≡ some (waitsEntry n x y)). absurd (let z : ◌≡◌ {A = ℕ} 0 1 = cc in omega arith))
      (changed_still pending_id id (accept_noted σ o) ws (waitsEntry n x y) q)
  awaits_still (decides ws ds id p d w s) n x y q =
      ⊎_elim (λ k. inl (awaits n x y k refl))
      (λ (e : find pending_id id ws ≡ some (waitsEntry n x y)).
      let same : p ≡ waitsEntry n x y = cc in
      let note : note_in p ≡ n = ap note_in same in
      let last : (f : Decision) → d ≡ f → In (decided_as n f) (ds ++ (decided_as (note_in p) d ∷ [])) =
      λ f g. subst (λ (k : Decided). In k (ds ++ (decided_as (note_in p) d ∷ []))) (λ t. decided_as (note t) (g t)) (last_in ds _) in
      ⊎_elim (λ g. inl (was_entered n (last entered g) refl))
      (λ g. inr (record { note = n; is_in = last dropped g; has_id = refl })) (decided_so s n x y same))
      (without_still pending_id id ws (waitsEntry n x y) q)
  awaits_still (closes ds e) n x y q = absurd q

  -- it stands as it was judged, or was dropped after it was accepted
  abbrev pub Afterwards : ℕ → Bool → Ledger → Type 0
  Afterwards id v l = Stands σ o l id v ⊎ ((v ≡ true) × Ended σ o l id dropped)

  stands_still : {l l' : Ledger} {c : Call} {a : Answer} {h : List (List ℕ)} → Moves σ o l c a h l' → (id : ℕ) (v : Bool) → Stands σ o l id v
      → Afterwards id v l'
  stands_still {l' = l'} m id _ (awaits n x y q e) =
      subst (λ (k : ℕ). Afterwards k true l') e (⊎_elim (λ s. inl s) (λ g. inr (refl, g)) (awaits_still m n x y q))
  stands_still m id _ (was_entered n q e) = inl (was_entered n (decided_still σ o m _ q) e)
  stands_still m id _ (was_rejected n q e) = inl (was_rejected n (decided_still σ o m _ q) e)

  kept : {l l' : Ledger} {c : Call} {a : Answer} {h : List (List ℕ)} → Moves σ o l c a h l' → (id : ℕ) (v : Bool) → Afterwards id v l
      → Afterwards id v l'
  kept m id v s = ⊎_elim (λ k. stands_still m id v k) (λ k. inr (k.0, ended_still σ o m id dropped k.1)) s

  pub judged_stands : (l : Ledger) (cs : List Call) → All BytesIn cs → (id : ℕ) (v : Bool) → JudgedIn σ o l cs id v
      → Afterwards id v (run_ledger σ o l cs)
  judged_stands l cs bs id v q =
      made_so σ o (Afterwards id v) (λ l l' c a h m. kept m id v) (round_two id q.joined) (judged v)
      (λ l l' h m. inl (verdict_stands m v refl)) l cs bs q.by
