-- The table of the inverses of n, .., 1: its members, and its stretches, are inverses of numbers that go down.
-- Assumes nothing.
use mathlib.Core.Path.{◌≡◌, ap, ◌∙◌}
use mathlib.Core.List.{List}
use Prim.Native.Nat.{ℕ, suc, ◌+◌, ◌-◌, ◌<◌, ◌≤◌}
use native.Mathlib.Omega.{arith}
use lib.ListN.{length, take, drop, length-drop}
use lib.Seq.{get_or-take, get_or-drop, length-take-le}
use Rattle.algebra.specs.Lists.{tabulate}
use Rattle.algebra.specs.Sums.{inner}
use Rattle.algebra.proofs.Tables.{length_tabulate, get_d_tabulate}
use Rattle.algebra.proofs.Sums.{sum_ext}
use Rattle.words.proofs.Below.{all_take, all_drop}
use Rattle.field.specs.Residues.{prime, residues, Elements}
use Rattle.field.proofs.Below.{product_below, inverse_below, tabulate_below, member_below}
use Rattle.walk.specs.Walks.{members}
use Rattle.prover.specs.Curves.{fall_at, Ready}

-- from the inverses of 1, .., n
pub inverse_back : (invs : List ℕ) (n k i : ℕ) → invs ≡ tabulate (λ i. residues.inv (suc i)) n → k ≡ n → i < n
    → members invs (k - 1 - i) ≡ residues.inv (n - i)
inverse_back invs n k i e q h =
    let b : k - 1 - i < n = omega arith in
    let t : suc (k - 1 - i) ≡ n - i = omega arith in
    ap (λ (l : List ℕ). members l (k - 1 - i)) e
    ∙ get_d_tabulate (λ i. residues.inv (suc i)) n (k - 1 - i) 0 b
    ∙ ap residues.inv t

pub inverse_low : (invs : List ℕ) (n i : ℕ) → invs ≡ tabulate (λ i. residues.inv (suc i)) n → members invs i < prime
inverse_low invs n i e = rw e (member_below _ i (tabulate_below _ n (λ i. inverse_below (suc i))))

module _ {n : ℕ} {falls back : List ℕ} (r : Ready n falls back) where
  pub back_long : length back ≡ n + n
  back_long = ap length r.back_are ∙ length_tabulate _ (n + n)

  pub fall_at_lem : (i : ℕ) → i < n → members falls i ≡ fall_at n i
  fall_at_lem i h = ap (λ (l : List ℕ). members l i) r.falls_are ∙ get_d_tabulate (fall_at n) n i 0 h

  pub fall_low : (i : ℕ) → i < n → members falls i < prime
  fall_low i h = rw (fall_at_lem i h) (product_below (suc n) _)

  -- the inverse of a number from 1 to 2n
  pub inverse_at : (j : ℕ) → 0 < j → j ≤ n + n → members back (length back - j) ≡ residues.inv j
  inverse_at j h k =
      let b : length back - j < n + n = omega (arith, back_long) in
      let t : n + n - (length back - j) ≡ j = omega (arith, back_long) in
      ap (λ (l : List ℕ). members l (length back - j)) r.back_are
      ∙ get_d_tabulate (λ i. residues.inv (n + n - i)) (n + n) (length back - j) 0 b
      ∙ ap residues.inv t

  pub inverse_at_low : (j : ℕ) → 0 < j → j ≤ n + n → members back (length back - j) < prime
  inverse_at_low j h k = rw (inverse_at j h k) (inverse_below j)

  -- the stretch of the inverses of t - j, j = 0, .., n, for t = n + 1 + i
  stretch_at : (i j : ℕ) → i < n → j < suc n
      → members (take (n + n - i - (n - 1 - i)) (drop (n - 1 - i) back)) j ≡ residues.inv (suc n + i - j)
  stretch_at i j h k =
      let a : j < n + n - i - (n - 1 - i) = omega arith in
      let b : n - 1 - i + j < n + n = omega arith in
      let t : n + n - (n - 1 - i + j) ≡ suc n + i - j = omega arith in
      get_or-take (n + n - i - (n - 1 - i)) (drop (n - 1 - i) back) j 0 a
      ∙ get_or-drop (n - 1 - i) back j 0
      ∙ ap (λ (l : List ℕ). members l (n - 1 - i + j)) r.back_are
      ∙ get_d_tabulate (λ i. residues.inv (n + n - i)) (n + n) (n - 1 - i + j) 0 b
      ∙ ap residues.inv t

  pub stretch_long : (i : ℕ) → i < n → length (take (n + n - i - (n - 1 - i)) (drop (n - 1 - i) back)) ≡ suc n
  stretch_long i h =
      length-take-le (n + n - i - (n - 1 - i)) (drop (n - 1 - i) back) (rw (length-drop, back_long) (omega arith)) ∙ omega arith

  pub stretch_elements : (i : ℕ) → Elements (take (n + n - i - (n - 1 - i)) (drop (n - 1 - i) back))
  stretch_elements i =
      all_take _ (n + n - i - (n - 1 - i))
      (all_drop _ (n - 1 - i) (rw r.back_are (tabulate_below _ (n + n) (λ i. inverse_below (n + n - i)))))

  pub inner_stretch : (scaled part : List ℕ) (i : ℕ) → length scaled ≡ suc n → i < n
      → part ≡ take (n + n - i - (n - 1 - i)) (drop (n - 1 - i) back)
      → inner residues (length scaled) (members scaled) (members part)
      ≡ inner residues (suc n) (members scaled) (λ j. residues.inv (suc n + i - j))
  inner_stretch scaled part i q h e =
      ap (λ k. inner residues k (members scaled) (members part)) q
      ∙ sum_ext residues (suc n) _ _
      (λ j k. ap (residues.◌⊗◌ (members scaled j)) (ap (λ (l : List ℕ). members l j) e ∙ stretch_at i j h k))
