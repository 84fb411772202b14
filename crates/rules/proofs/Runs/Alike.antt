-- A return that one server accepted stands alike at every other: each noted a share under its id, verdicts agree, so where it does not
-- await a round any more it awaits entry, was entered or was dropped. Assumes that messages are unaltered.
use mathlib.Core.Path.{◌≡◌, refl, sym, ap, ◌∙◌, subst}
use mathlib.Core.Logic.{inl, inr, ◌⊎◌, ⊎_elim}
use mathlib.Core.Bool.{true, false, true≢false}
use mathlib.Core.List.{List, map}
use Prim.Native.Nat.{ℕ, ◌<◌}
use Rattle.algebra.specs.Lists.{In}
use Rattle.algebra.proofs.Members.{in_append, in_map, of_map}
use Rattle.rules.specs.Settings.{Setting, Facts}
use Rattle.rules.specs.Keyed.{those}
use Rattle.rules.specs.Ledger.{Note, Pending, note_in, pending_id, is_accepted, waiting, Decision, entered, rejected, dropped, Decided}
use Rattle.rules.specs.Ledger.{is_entered, is_rejected, is_dropped, notes_of}
use Rattle.rules.specs.Pools.{Pool, ledger_at, accepted_at, entered_at, dropped_at, notes_in, Unaltered, JudgedToEnd}
use Rattle.rules.proofs.Histories.Those.{in_those}
use Rattle.rules.proofs.Histories.Moves.{decided_as}
use Rattle.rules.proofs.Runs.Agreement.{share_at, Noted, agreed, judged_everywhere}
use Rattle.rules.proofs.Runs.VerdictFirst.{of_decided, verdict_first_lem}

module _ (σ : Setting) (𝓟 : Pool σ) (facts : Facts σ) (𝓤 : Unaltered σ 𝓟) (i j : ℕ) (l : i < 𝓟.servers) (b : j < 𝓟.servers)
    (id : ℕ) (k : JudgedToEnd σ 𝓟 i id true) where
  abbrev Ended : Type 0
  Ended = In id (accepted_at σ 𝓟 j) ⊎ (In id (entered_at σ 𝓟 j) ⊎ In id (dropped_at σ 𝓟 j))

  not_rejected : (n : Note) → In (decided_as n rejected) (ledger_at σ 𝓟 j).decided → n.id ≡ id → Ended
  not_rejected n h e =
      let no = (verdict_first_lem σ 𝓟 j b).rejected_judged id (of_decided σ 𝓟 j b is_rejected rejected refl id n h e) in
      absurd (true≢false (agreed σ 𝓟 facts 𝓤 i l id true k ∙ sym (agreed σ 𝓟 facts 𝓤 j b id false no)))

  by_decision : (d : Decision) (n : Note) → In (decided_as n d) (ledger_at σ 𝓟 j).decided → n.id ≡ id → Ended
  by_decision entered n h e = inr (inl (of_decided σ 𝓟 j b is_entered entered refl id n h e))
  by_decision rejected n h e = not_rejected n h e
  by_decision dropped n h e = inr (inr (of_decided σ 𝓟 j b is_dropped dropped refl id n h e))

  -- where what waits under the id is accepted
  pub stands_alike : ((p : Pending) → In p (waiting (ledger_at σ 𝓟 j).progress) → pending_id p ≡ id → is_accepted p ≡ true) → Ended
  unfolding notes_in
  stands_alike only =
      let at : Noted σ 𝓟 id j = (judged_everywhere σ 𝓟 facts 𝓤 i l id true k j b).0 in
      let n : Note = share_at σ 𝓟 id j in
      let ds : List Decided = (ledger_at σ 𝓟 j).decided in
      let ws : List Pending = waiting (ledger_at σ 𝓟 j).progress in
      ⊎_elim
      (λ (h : In n (notes_of ds)).
      let q = of_map (λ (v : Decided). v.note) n ds h in
      let same : q.0 ≡ decided_as n q.0.decision = λ t. decided_as (q.2 t) q.0.decision in
      by_decision q.0.decision n (subst (λ (v : Decided). In v ds) same q.1) at.has_id)
      (λ (h : In n (map note_in ws)).
      let q = of_map note_in n ws h in
      let named : pending_id q.0 ≡ id = ap (λ (v : Note). v.id) q.2 ∙ at.has_id in
      inl (subst (λ (v : ℕ). In v (accepted_at σ 𝓟 j)) named
      (in_map pending_id q.0 (those is_accepted ws) (in_those is_accepted ws q.0 q.1 (only q.0 q.1 named)))))
      (in_append n (notes_of ds) (map note_in ws) at.is_in)
