-- Where messages are unaltered, a server that took round one on an id saw there the pair of each server's share, and all of them are
-- one pair. So a return judged to the end has one pair; and where two servers noted different pairs no server took round one: the
-- return waits for it, or was dropped. Assumes that messages are unaltered.
use mathlib.Core.Path.{◌≡◌, refl, sym, ap, ◌∙◌, subst}
use mathlib.Core.Logic.{⊎_elim}
use mathlib.Core.Bool.{true, false}
use mathlib.Core.List.{List}
use Prim.Native.Nat.{ℕ, ◌<◌}
use native.Mathlib.Omega.{arith}
use lib.ListN.{get_or}
use Rattle.algebra.specs.Lists.{In, count_from}
use Rattle.algebra.proofs.Members.{of_map, in_count, count_in_lem}
use Rattle.algebra.proofs.Rearrangement.{rearranged_sym}
use Rattle.rules.specs.Settings.{Setting, Facts}
use Rattle.rules.specs.Messages.{place_in, server_at}
use Rattle.rules.specs.Ledger.{Call, Note, Pending, waits_one, waitsTwo, waitsEntry, note_in}
use Rattle.rules.specs.Ledger.{Decision, entered, rejected, dropped, is_entered, is_rejected, empty}
use Rattle.rules.specs.Pools.{Pool, opened_at, ledger_at, handed_in, notes_at, Unaltered, NoVerdict}
use Rattle.rules.proofs.Histories.Shuffled.{rearranged_in}
use Rattle.rules.proofs.Histories.Moves.{decided_as}
use Rattle.rules.proofs.Histories.Summing.{SummedOn, summed_on, none_was, summed_at}
use Rattle.rules.proofs.Runs.Agreement.{share_at, Summed, found, history_at, First, place_one, judged_everywhere}
use Rattle.rules.proofs.Runs.VerdictFirst.{of_decided, verdict_first_lem}

-- what waits waits for round one, or it does not
first_wait_lem : (p : Pending) → ((p ≡ waits_one (note_in p) → ⊥) → ⊥) → p ≡ waits_one (note_in p)
first_wait_lem (waits_one n) f = refl
first_wait_lem (waitsTwo n d e) f = absurd (f (λ q. (let z : ◌≡◌ {A = ℕ} 0 1 = cc in omega arith)))
first_wait_lem (waitsEntry n d e) f = absurd (f (λ q. (let z : ◌≡◌ {A = ℕ} 0 1 = cc in omega arith)))

module _ (σ : Setting) (𝓟 : Pool σ) (facts : Facts σ) (𝓤 : Unaltered σ 𝓟) where
  -- ---- server i took round one on the id
  module _ (id i : ℕ) (l : i < 𝓟.servers) (t : Summed σ 𝓟 id i) where
    abbrev Saw : ℕ → ℕ → Type 0
    Saw j q = First σ 𝓟 facts 𝓤 (place_in σ 34 t.joined j) id q

    -- each server is named at some place
    saw : (q : ℕ) → q < 𝓟.servers → (j : ℕ) × (j < 𝓟.servers) × Saw j q
    saw q b =
        let place = of_map (server_at σ 34 t.joined) q (count_from 0 𝓟.servers)
        (rearranged_in q (rearranged_sym t.sound.each.each_once) (count_in_lem 0 𝓟.servers q (omega arith) (omega arith))) in
        let within = in_count 0 𝓟.servers place.0 place.1 in
        let k : place.0 < 𝓟.servers = omega arith in (
          place.0,
          k,
          subst (Saw place.0) place.2
              (place_one σ 𝓟 facts 𝓤 i l id t.joined t.handed t.sound.each place.0 k),
        )

    pub one_pair : (q q' : ℕ) → q < 𝓟.servers → q' < 𝓟.servers
        → ((share_at σ 𝓟 id q).r ≡ (share_at σ 𝓟 id q').r) × ((share_at σ 𝓟 id q).s ≡ (share_at σ 𝓟 id q').s)
    one_pair q q' b b' =
        let a = saw q b in
        let c = saw q' b' in
        let same = t.sound.one_pair a.0 c.0 a.1 c.1 in
        let first : (k : ℕ) → List ℕ → ℕ = λ k v. get_or v k 0 in (
          sym (ap (first 2) a.2.says) ∙ same.0 ∙ ap (first 2) c.2.says,
          sym (ap (first 3) a.2.says) ∙ same.1 ∙ ap (first 3) c.2.says,
        )

  -- ---- different pairs
  module _ (id i j : ℕ) (l : i < 𝓟.servers) (b : j < 𝓟.servers) (m n : Note) (m-in : In m (notes_at σ 𝓟 i))
      (n-in : In n (notes_at σ 𝓟 j)) (m-id : m.id ≡ id) (n-id : n.id ≡ id) (differ : m.r ≡ n.r → m.s ≡ n.s → ⊥) where
    none_summed : (q : ℕ) → q < 𝓟.servers → Summed σ 𝓟 id q → ⊥
    none_summed q c t =
        let same = one_pair id q c t i j l b in
        let at_i : share_at σ 𝓟 id i ≡ m = found σ 𝓟 id i l m m-in m-id in
        let at_j : share_at σ 𝓟 id j ≡ n = found σ 𝓟 id j b n n-in n-id in
        differ (ap (λ (v : Note). v.r) (sym at_i) ∙ same.0 ∙ ap (λ (v : Note). v.r) at_j)
        (ap (λ (v : Note). v.s) (sym at_i) ∙ same.1 ∙ ap (λ (v : Note). v.s) at_j)

    -- a decision with a verdict would have had round one
    only_dropped : (q : ℕ) → q < 𝓟.servers → (d : Decision) (n : Note) → In (decided_as n d) (ledger_at σ 𝓟 q).decided → n.id ≡ id → d ≡ dropped
    only_dropped q c entered n h e =
        absurd (none_summed q c (judged_everywhere σ 𝓟 facts 𝓤 q c id true
        ((verdict_first_lem σ 𝓟 q c).entered_judged id (of_decided σ 𝓟 q c is_entered entered refl id n h e)) q c).1)
    only_dropped q c rejected n h e =
        absurd (none_summed q c (judged_everywhere σ 𝓟 facts 𝓤 q c id false
        ((verdict_first_lem σ 𝓟 q c).rejected_judged id (of_decided σ 𝓟 q c is_rejected rejected refl id n h e)) q c).1)
    only_dropped q c dropped n h e = refl

    -- 13
    pub unequal : (q : ℕ) → q < 𝓟.servers → NoVerdict σ 𝓟 id q
    unequal q c = record {
      refuses = λ before after joined room e z. none_summed q c
          (subst (λ (v : List Call). SummedOn σ (opened_at σ 𝓟 q) (handed_in σ (opened_at σ 𝓟 q) empty v) id) (sym e)
          (summed_at σ (opened_at σ 𝓟 q) id joined room empty before after z));
      waits = λ p h e. first_wait_lem p (λ f. none_summed q c (subst (λ (v : ℕ). Summed σ 𝓟 v q) e
          (⊎_elim (λ k. absurd (none_was σ (opened_at σ 𝓟 q) k)) (λ k. k) (summed_on σ (opened_at σ 𝓟 q) (history_at σ 𝓟 q c) p h f))));
      only_dropped = λ k h e. only_dropped q c k.decision k.note h e;
    }
