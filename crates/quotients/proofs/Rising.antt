-- A loop that fills a buffer with the weights of the points s, s + 1, ..: where i are filled, acc is the weight of s + i. A
-- turn takes two steps, by the product of both quotients, and one or two places are filled last. Assumes nothing.
use mathlib.Core.Path.{◌≡◌, refl, sym, ap, ap₂, ◌∙◌}
use mathlib.Core.List.{List, ◌++◌}
use Prim.Native.Nat.{ℕ, suc, ◌+◌, ◌≤◌, ◌<◌}
use native.Mathlib.Nat.{add-zero}
use native.Mathlib.Omega.{arith}
use lib.ListN.{length, length-set, set, drop}
use Rattle.algebra.specs.Interpolation.{weight}
use Rattle.algebra.specs.Lists.{tabulate}
use Rattle.algebra.proofs.Tables.{fill_none, fill_next, fill_all}
use Rattle.field.specs.Residues.{prime, residues}
use Rattle.quotients.specs.Factorials.{next_over}
use Rattle.quotients.proofs.Numbers.{weight_step, weight_below}
use Rattle.quotients.proofs.Products.{times, times_times}

module _ (n s : ℕ) where
  abbrev at : ℕ → ℕ
  at i = weight residues n (s + i)

  pub record Rising (before now : List ℕ) (acc i : ℕ) : Type 0 where
    pub within : i < length before
    pub same : length now ≡ length before
    pub filled : now ≡ tabulate at i ++ drop i before
    pub is : acc ≡ at i

  pub rising_low : {d l : List ℕ} {acc i : ℕ} → Rising d l acc i → acc < prime
  rising_low {i = i} w = rw w.is (weight_below n (s + i))

  pub start : (d : List ℕ) (first : ℕ) → first ≡ weight residues n s → 0 < length d → Rising d d first 0
  start d first e h =
      record {
        within = h;
        same = refl;
        filled = fill_none at d;
        is = e ∙ ap (weight residues n) (sym (add-zero s));
      }

  -- one step
  step : (acc a i j k : ℕ) → acc ≡ at i → s + i ≡ j → i + 1 ≡ k → j < n → n < prime → a ≡ next_over n j → times acc a ≡ at k
  step acc a i j k e p q h l ea =
      let b : suc j ≡ s + k = omega arith in
      ap₂ times (e ∙ ap (weight residues n) p) ea ∙ sym (weight_step n j h l) ∙ ap (weight residues n) b

  module _ {d l : List ℕ} {acc i : ℕ} (w : Rising d l acc i) (all : s + length d ≡ suc n) (small : n < prime) where
    first_filled : set l i acc ≡ tabulate at (i + 1) ++ drop (i + 1) d
    first_filled = fill_next at d l i acc w.within w.filled w.is

    once : (a v : ℕ) → i + 1 < length d → a ≡ next_over n (s + i) → v ≡ times acc a
        → set (set l i acc) (i + 1) v ≡ tabulate at (i + 1 + 1) ++ drop (i + 1 + 1) d
    once a v h ea ev =
        fill_next at d (set l i acc) (i + 1) v h first_filled
        (ev ∙ step acc a i (s + i) (i + 1) w.is (omega arith) (omega arith) (omega arith) small ea)

    pub turn : (a b q v t : ℕ) → i + 2 < length d → a ≡ next_over n (s + i) → b ≡ next_over n (s + i + 1)
        → v ≡ times acc a → q ≡ times a b → t ≡ times acc q → Rising d (set (set l i acc) (i + 1) v) t (i + 2)
    turn a b q v t h ea eb ev eq et =
        let two : i + 1 + 1 ≡ i + 2 = omega arith in
        let first : times acc a ≡ at (i + 1) =
        step acc a i (s + i) (i + 1) w.is (omega arith) (omega arith) (omega arith) small ea in
        record {
          within = h;
          same = length-set (set l i acc) (i + 1) v ∙ length-set l i acc ∙ w.same;
          filled = once a v (omega arith) ea ev ∙ ap (λ (k : ℕ). tabulate at k ++ drop k d) two;
          is =
              et
              ∙ ap (times acc) eq
              ∙ times_times acc a b
              ∙ step (times acc a) b (i + 1) (s + i + 1) (i + 2) first (omega arith) (omega arith) (omega arith) small eb;
        }

    pub finish_two : (a v : ℕ) → i + 1 < length d → length d ≤ i + 2 → a ≡ next_over n (s + i) → v ≡ times acc a
        → set (set l i acc) (i + 1) v ≡ tabulate at (length d)
    finish_two a v h k ea ev =
        fill_all at d (set (set l i acc) (i + 1) v) (i + 1 + 1) (omega arith) (omega arith) (once a v h ea ev)

    pub finish_one : length d ≤ i + 1 → set l i acc ≡ tabulate at (length d)
    finish_one k = let h : i + 1 ≤ length d = omega (arith, w.within) in fill_all at d (set l i acc) (i + 1) k h first_filled
