-- What the seeds give, added up member by member: none give zeros, and one more is added to the sums of those before it.
-- Assumes nothing.
use mathlib.Core.Path.{◌≡◌, refl, sym, ap, ◌∙◌}
use mathlib.Core.List.{List, ◌∷◌, ◌++◌}
use Prim.Native.Nat.{ℕ, zero, suc, ◌+◌, ◌-◌, ◌*◌, ◌≤◌, ◌<◌}
use native.Mathlib.Numerals.{add-one}
use native.Mathlib.Omega.{arith}
use lib.ListN.{length, get_or, take, drop, replicate, length-replicate, get_or-replicate}
use Rattle.algebra.specs.Lists.{tabulate}
use Rattle.algebra.specs.Ops.{minus}
use Rattle.algebra.specs.Sums.{sum}
use Rattle.algebra.proofs.Tables.{length_tabulate, get_d_tabulate, tabulate_cong, tabulate_get_d}
use Rattle.words.proofs.Splice.{length_part}
use Rattle.field.specs.Residues.{residues, Elements}
use Rattle.field.proofs.Below.{sum_below, tabulate_below}
use Rattle.rules.specs.Settings.{document01}
use Rattle.rules.specs.Seeds.{seed_at, seed_elements}
use Rattle.rules.proofs.Computed.Facts.{document01_facts}
use Rattle.rules.proofs.Histories.ShareMessages.{length_seed, seed_below}
use Rattle.steps.proofs.Parts.{span}
use Rattle.steps.proofs.Words.{place_behind}
use Rattle.seeded.specs.Pieces.{added, seed_sums, Seeds}

-- ---- member by member
abbrev pub plus_at : List ℕ → List ℕ → ℕ → ℕ
plus_at s x e = residues.◌⊕◌ (get_or s e 0) (get_or x e 0)

abbrev pub minus_at : List ℕ → List ℕ → ℕ → ℕ
minus_at w x e = minus residues (get_or w e 0) (get_or x e 0)

-- ---- an array of zeros, and its first part
pub first_zeros : (n m : ℕ) → n ≤ m → take {A = ℕ} n (replicate m 0) ≡ replicate n 0
first_zeros zero m h = refl
first_zeros (suc n) zero h = absurd (omega arith)
first_zeros (suc n) (suc m) h = ap (λ (l : List ℕ). 0 ∷ l) (first_zeros n m (omega arith))

-- ---- the elements of a seed
pub length_given : (seed : List ℕ) (id n : ℕ) → length (seed_elements document01 seed id n) ≡ n
length_given = length_seed document01 document01_facts

pub given_elements : (seed : List ℕ) (id n : ℕ) → Elements (seed_elements document01 seed id n)
given_elements = seed_below document01 document01_facts

module _ (seeds : List ℕ) (id n : ℕ) where
  pub length_sums : (i : ℕ) → length (seed_sums seeds id n i) ≡ n
  unfolding seed_sums
  length_sums i = length_tabulate _ n

  pub sums_elements : (i : ℕ) → Elements (seed_sums seeds id n i)
  unfolding seed_sums
  sums_elements i = tabulate_below _ n (λ e. sum_below i _)

  pub sums_none : replicate n 0 ≡ seed_sums seeds id n 0
  unfolding seed_sums sum
  sums_none =
      sym (tabulate_get_d 0 (replicate n 0))
      ∙ ap (tabulate (λ i. get_or (replicate n 0) i 0)) (length-replicate n 0)
      ∙ tabulate_cong _ _ n (λ i h. get_or-replicate n i 0 0 h)

  pub sums_next : (i : ℕ) → added (seed_sums seeds id n i) (seed_elements document01 (seed_at seeds i) id n) ≡ seed_sums seeds id n (i + 1)
  unfolding added seed_sums sum
  sums_next i =
      let s : List ℕ = seed_sums seeds id n i in
      let x : List ℕ = seed_elements document01 (seed_at seeds i) id n in
      rw add-one
      (ap (tabulate (plus_at s x)) (length_tabulate _ n)
      ∙ tabulate_cong _ _ n (λ e h. ap (λ (y : ℕ). residues.◌⊕◌ y (get_or x e 0)) (get_d_tabulate _ n e 0 h)))

-- ---- one seed of them
module _ {seeds : List ℕ} {others : ℕ} (r : Seeds seeds others) (i : ℕ) (h : i < others) where
  pub seed_within : 32 * i + 32 ≤ length seeds
  seed_within = omega (arith, place_behind 32 i others h, r.long)

  pub seed_whole : length (take (32 * i + 32 - 32 * i) (drop (32 * i) seeds)) ≡ 32
  seed_whole = rw (span (32 * i) 32 seeds) (length_part (32 * i) 32 seeds seed_within)
