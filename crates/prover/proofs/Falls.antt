-- A loop that fills a buffer with the products of t - k at t = n + 1, n + 2, ..: after i turns acc is the product at
-- n + 1 + i. The first comes from a table of the shorter products. Assumes nothing.
use mathlib.Core.Path.{◌≡◌, sym, ap, ap₂, ◌∙◌}
use mathlib.Core.List.{List, ◌++◌}
use Prim.Native.Nat.{ℕ, suc, ◌+◌, ◌≤◌, ◌<◌}
use native.Mathlib.Nat.{add-zero}
use native.Mathlib.Numerals.{add-one}
use native.Mathlib.Omega.{arith}
use lib.ListN.{length, get_or, set, drop, get_or-append}
use Rattle.algebra.specs.Interpolation.{ascending}
use Rattle.algebra.specs.Lists.{tabulate}
use Rattle.algebra.proofs.Tables.{length_tabulate, get_d_tabulate}
use Rattle.field.specs.Residues.{prime, residues}
use Rattle.field.proofs.Below.{product_below}
use Rattle.walk.proofs.Filling.{Filling, start as fill_start, turn as fill_turn, finish as fill-finish}
use Rattle.prover.specs.Curves.{fall_at}
use Rattle.prover.proofs.Extrapolation.{fall_next}

-- the first, where a table of the products stands before other members
pub fall_first : (ps rest : List ℕ) (n k : ℕ) → ps ≡ tabulate (λ j. ascending residues 0 j (n + 1)) k → k ≡ n + 2
    → get_or (ps ++ rest) (n + 1) 0 ≡ fall_at n 0
fall_first ps rest n k e q =
    let l : length ps ≡ k = ap length e ∙ length_tabulate _ k in
    let h : n + 1 < length ps = omega arith in
    get_or-append ps rest 0 (n + 1) h
    ∙ ap (λ (l : List ℕ). get_or l (n + 1) 0) e
    ∙ get_d_tabulate (λ j. ascending residues 0 j (n + 1)) k (n + 1) 0 (omega arith)
    ∙ ap₂ (λ (a b : ℕ). ascending residues 0 a b) (add-one n) (add-one n ∙ sym (add-zero (suc n)))

-- ---- the loop
module _ (n : ℕ) where
  pub record Falling (before now : List ℕ) (acc i : ℕ) : Type 0 where
    pub within : i ≤ length before
    pub same : length now ≡ length before
    pub filled : now ≡ tabulate (fall_at n) i ++ drop i before
    pub is : acc ≡ fall_at n i

  filling : {d l : List ℕ} {acc i : ℕ} → Falling d l acc i → Filling (fall_at n) d l i
  filling w = record { within = w.within; same = w.same; filled = w.filled }

  pub fall_below : {d l : List ℕ} {acc i : ℕ} → Falling d l acc i → acc < prime
  fall_below w = rw w.is (product_below (suc n) _)

  pub start : (d : List ℕ) (acc : ℕ) → acc ≡ fall_at n 0 → Falling d d acc 0
  start d acc e = let w = fill_start (fall_at n) d in record { within = w.within; same = w.same; filled = w.filled; is = e }

  pub turn : {d l : List ℕ} {acc i : ℕ} (invs : List ℕ) (s t : ℕ) → Falling d l acc i → i < length d
      → suc (suc n + i) < prime → i < length invs → invs ≡ tabulate (λ i. residues.inv (suc i)) (length invs)
      → s ≡ residues.◌⊗◌ (n + 2 + i) (get_or invs i 0) → t ≡ residues.◌⊗◌ acc s → Falling d (set l i acc) t (i + 1)
  turn {d} {l} {acc} {i} invs s t w h small k e es et =
      let v = fill_turn (fall_at n) acc (filling w) h w.is in
      let q : n + 2 + i ≡ suc (suc n + i) = omega arith in
      let inverse : get_or invs i 0 ≡ residues.inv (suc i) =
      ap (λ (l : List ℕ). get_or l i 0) e ∙ get_d_tabulate (λ i. residues.inv (suc i)) (length invs) i 0 k
      in
      record {
        within = v.within;
        same = v.same;
        filled = v.filled;
        is =
            et
            ∙ ap₂ residues.◌⊗◌ w.is (es ∙ ap₂ residues.◌⊗◌ q inverse)
            ∙ sym (fall_next n i small)
            ∙ ap (fall_at n) (sym (add-one i));
      }

  pub finish : {d l : List ℕ} {acc i : ℕ} → Falling d l acc i → length d ≤ i → l ≡ tabulate (fall_at n) (length d)
  finish w h = fill-finish (fall_at n) (filling w) h
