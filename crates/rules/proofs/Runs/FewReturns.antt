-- Field 7 of demand 3 put to a return: since every element noted is below p, few pairs let in a return that does not keep
-- its form. Shares past the last server count for nothing, so they may be taken as 0. Assumes nothing.
use mathlib.Core.Path.{◌≡◌, refl, ap, subst}
use mathlib.Core.Bool.{Bool, true, false, cond}
use mathlib.Core.List.{List, [], ◌∷◌}
use Prim.Native.Nat.{ℕ, zero, suc, ◌+◌, ◌-◌, ◌*◌, ◌≤◌, ◌<◌, max}
use borrow.Author.Tests.{ltb-true, lt-ltb}
use lib.Dec.{ltb}
use lib.ListN.{get_or}
use Rattle.algebra.specs.Lists.{All, all[], all∷, In}
use Rattle.algebra.specs.Modulo.{modulo}
use Rattle.algebra.specs.Count.{count_pairs}
use Rattle.algebra.proofs.Sums.{sum_ext}
use Rattle.rules.specs.Settings.{Setting, Facts}
use Rattle.rules.specs.Circuit.{gates_in, tests_in}
use Rattle.rules.specs.Run.{Valid}
use Rattle.rules.specs.Judging.{added_up, lets_in}
use Rattle.rules.specs.Ledger.{Note}
use Rattle.rules.specs.Pools.{Pool, columns, note_under, notes_at, return_of, added_entry, KeepsForm}
use Rattle.rules.proofs.Histories.Opening.{positive}
use Rattle.rules.proofs.Histories.Keyed.{under_has}
use Rattle.rules.proofs.Histories.PoolOpened.{is_read}
use Rattle.rules.proofs.Returns.OnSheets.{sheet_few_pairs}
use Rattle.rules.proofs.Runs.Agreement.{sound_at_lem}
use Rattle.rules.proofs.Runs.Verdicts.{lets_in_same}

-- what holds of the elements of each note holds of those under an id
note_under_has : (P : List ℕ → Type 0) (id : ℕ) (ns : List Note) → P [] → ((n : Note) → In n ns → P n.elements)
    → P (note_under id ns).elements
unfolding note_under
note_under_has P id ns z h = under_has (λ n. n.id) _ id (λ n. P n.elements) ns z h

get_d_below : (p : ℕ) → 0 < p → (xs : List ℕ) → All (λ x. x < p) xs → (e : ℕ) → get_or xs e 0 < p
get_d_below p h [] all[] e = h
get_d_below p h (x ∷ xs) (all∷ l ls) zero = l
get_d_below p h (x ∷ xs) (all∷ l ls) (suc e) = get_d_below p h xs ls e

module _ (σ : Setting) (facts : Facts σ) (𝓟 : Pool σ) (id : ℕ) where
  return_below : (i : ℕ) → i < 𝓟.servers → (e : ℕ) → return_of σ 𝓟 id i e < σ.modulus
  return_below i l =
      get_d_below σ.modulus (positive σ facts) (note_under id (notes_at σ 𝓟 i)).elements
      (note_under_has (All (λ x. x < σ.modulus)) id (notes_at σ 𝓟 i) all[] (sound_at_lem σ 𝓟 i l).below)

  -- the shares of the servers that there are
  abbrev shares : ℕ → ℕ → ℕ
  shares i e = cond (ltb i 𝓟.servers) (return_of σ 𝓟 id i e) 0

  shares_below : (i e : ℕ) → shares i e < σ.modulus
  shares_below i e = go (ltb i 𝓟.servers) refl
    where
      go : (b : Bool) → ltb i 𝓟.servers ≡ b → cond b (return_of σ 𝓟 id i e) 0 < σ.modulus
      go true q = return_below i (ltb-true i 𝓟.servers q) e
      go false q = positive σ facts

  same : (i : ℕ) → i < 𝓟.servers → shares i ≡ return_of σ 𝓟 id i
  same i l = λ t e. cond (lt-ltb i 𝓟.servers l t) (return_of σ 𝓟 id i e) 0

  added_same : added_up (modulo σ.modulus) σ (columns σ 𝓟) 𝓟.servers shares ≡ added_entry σ 𝓟 id
  unfolding added_up
  added_same = λ t e. sum_ext (modulo σ.modulus) 𝓟.servers _ _ (λ i l. ap (λ (f : ℕ → ℕ). f e) (same i l)) t

  pub few_for_return : (KeepsForm σ 𝓟 id → ⊥)
      → count_pairs σ.modulus σ.modulus (lets_in σ (columns σ 𝓟) 𝓟.servers (return_of σ 𝓟 id))
      ≤ σ.modulus * max (suc (gates_in (columns σ 𝓟) + gates_in (columns σ 𝓟))) (tests_in (columns σ 𝓟) - 1)
  few_for_return broken =
      let most : ℕ = σ.modulus * max (suc (gates_in (columns σ 𝓟) + gates_in (columns σ 𝓟))) (tests_in (columns σ 𝓟) - 1) in
      let equal : lets_in σ (columns σ 𝓟) 𝓟.servers shares ≡ lets_in σ (columns σ 𝓟) 𝓟.servers (return_of σ 𝓟 id) =
      λ t r s. lets_in_same σ (columns σ 𝓟) 𝓟.servers shares (return_of σ 𝓟 id) same r s t in
      subst (λ (f : ℕ → ℕ → Bool). count_pairs σ.modulus σ.modulus f ≤ most) equal
      (sheet_few_pairs σ facts 𝓟.sheet (columns σ 𝓟) (is_read σ 𝓟) 𝓟.servers 𝓟.some_server shares shares_below
      (λ v. broken (subst (Valid (modulo σ.modulus) σ (columns σ 𝓟)) added_same v)))
