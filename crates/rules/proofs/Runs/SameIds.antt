-- When all servers have closed, the ids entered at one are entered at each: an id entered at one server was accepted there, so it
-- stands alike at every other, where nothing waits any more and it was not dropped. Assumes the conditions of whole runs.
use mathlib.Core.Path.{◌≡◌, sym, ap, ◌∙◌, subst}
use mathlib.Core.Logic.{⊎_elim}
use mathlib.Core.List.{List, ◌++◌, map, map-append, append-nil}
use Prim.Native.Nat.{ℕ, ◌≤◌, ◌<◌}
use native.Mathlib.Omega.{arith}
use lib.ListN.{length, get_or, length-map}
use Rattle.algebra.specs.Lists.{In, Distinct, Rearranged, sum_over}
use Rattle.algebra.proofs.Rearrangement.{same_members, sum_cong, sum_map}
use Rattle.rules.specs.Settings.{Setting, Facts}
use Rattle.rules.specs.Keyed.{those}
use Rattle.rules.specs.Ledger.{Note, note_in, pending_id, is_accepted, Progress, waiting, Decided, is_entered, notes_with, ids_of, notes_of}
use Rattle.rules.specs.Pools.{Pool, ledger_at, entered_at, notes_in, notes_at, return_of, Conditions, AllClosed}
use Rattle.rules.proofs.Histories.Shuffled.{distinct_left}
use Rattle.rules.proofs.Histories.Decisions.{with_notes, with_distinct, with_length}
use Rattle.rules.proofs.Runs.Agreement.{note_under_in, sound_at_lem}
use Rattle.rules.proofs.Runs.VerdictFirst.{verdict_first_lem}
use Rattle.rules.proofs.Runs.Alike.{stands_alike}

-- the ids that a server entered differ
pub entered_apart : (σ : Setting) (𝓟 : Pool σ) (i : ℕ) → i < 𝓟.servers → Distinct (entered_at σ 𝓟 i)
unfolding notes_in
entered_apart σ 𝓟 i l =
    let ds : List Decided = (ledger_at σ 𝓟 i).decided in
    with_distinct is_entered ds
    (distinct_left (ids_of (notes_of ds)) (ids_of (map note_in (waiting (ledger_at σ 𝓟 i).progress)))
    (subst Distinct (map-append (λ (n : Note). n.id) (notes_of ds) (map note_in (waiting (ledger_at σ 𝓟 i).progress)))
    (sound_at_lem σ 𝓟 i l).apart))

module _ (σ : Setting) (𝓟 : Pool σ) (closed : AllClosed σ 𝓟) where
  abbrev decided : ℕ → List Decided
  decided i = (ledger_at σ 𝓟 i).decided

  closed_notes : (i : ℕ) → i < 𝓟.servers → notes_at σ 𝓟 i ≡ notes_of (decided i)
  unfolding notes_in
  closed_notes i l =
      ap (λ (p : Progress). notes_of (decided i) ++ map note_in (waiting p)) (closed i l) ∙ append-nil (notes_of (decided i))

  pub few_entered : (i : ℕ) → i < 𝓟.servers → length (notes_with is_entered (decided i)) ≤ 𝓟.returns
  few_entered i l =
      let a : length (notes_at σ 𝓟 i) ≡ length (decided i) = ap length (closed_notes i l) ∙ length-map (decided i) (λ k. k.note) in
      omega (arith, (sound_at_lem σ 𝓟 i l).few, with_length is_entered (decided i))

  -- the server's shares of an entry, over the ids that it entered
  pub own_sum : (i : ℕ) → i < 𝓟.servers → (e : ℕ)
      → sum_over (λ n. get_or n.elements e 0) (notes_with is_entered (decided i))
      ≡ sum_over (λ id. return_of σ 𝓟 id i e) (entered_at σ 𝓟 i)
  own_sum i l e =
      let ns = notes_with is_entered (decided i) in
      let f : ℕ → ℕ = λ id. return_of σ 𝓟 id i e in
      let there : (n : Note) → In n ns → In n (notes_at σ 𝓟 i) =
      λ n h. subst (λ (v : List Note). In n v) (sym (closed_notes i l)) (with_notes is_entered n (decided i) h) in
      sum_cong (λ (n : Note). get_or n.elements e 0) (λ (n : Note). f n.id) ns
      (λ n h. ap (λ (v : Note). get_or v.elements e 0)
      (sym (note_under_in n (notes_at σ 𝓟 i) (sound_at_lem σ 𝓟 i l).apart (there n h))))
      ∙ sym (sum_map f (λ (n : Note). n.id) ns)

  module _ (facts : Facts σ) (𝓒 : Conditions σ 𝓟) where
    also : (i j : ℕ) → i < 𝓟.servers → j < 𝓟.servers → (id : ℕ) → In id (entered_at σ 𝓟 i) → In id (entered_at σ 𝓟 j)
    unfolding those
    also i j l b id h =
        ⊎_elim (λ (k : In id (map pending_id (those is_accepted (waiting (ledger_at σ 𝓟 j).progress)))).
        absurd (subst (λ (p : Progress). In id (map pending_id (those is_accepted (waiting p)))) (closed j b) k))
        (λ k. ⊎_elim (λ e. e) (λ e. absurd (𝓒.same_drops j i b l id e h)) k)
        (stands_alike σ 𝓟 facts 𝓒.unaltered i j l b id ((verdict_first_lem σ 𝓟 i l).entered_judged id h)
        (λ p k e. absurd (subst (λ (q : Progress). In p (waiting q)) (closed j b) k)))

    pub same_ids : (i j : ℕ) → i < 𝓟.servers → j < 𝓟.servers → Rearranged (entered_at σ 𝓟 i) (entered_at σ 𝓟 j)
    same_ids i j l b =
        same_members (entered_at σ 𝓟 i) (entered_at σ 𝓟 j) (entered_apart σ 𝓟 i l) (entered_apart σ 𝓟 j b)
        (also i j l b) (also j i b l)
