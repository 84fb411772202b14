-- A loop that goes on with the powers of s where the first k are there. The power at k + i is that at i times that at k, and
-- i is below k + i, so it stands in the part that is filled. Assumes nothing.
use mathlib.Core.Path.{◌≡◌, sym, ap, ap₂, ◌∙◌}
use mathlib.Core.List.{List, ◌++◌}
use Prim.Native.Nat.{ℕ, zero, suc, ◌+◌, ◌-◌, ◌*◌, ◌%◌, ◌≤◌, ◌<◌}
use native.Mathlib.Nat.{add-zero, add-suc, mod-eq_of_lt}
use native.Mathlib.Numerals.{add-one}
use native.Mathlib.Omega.{arith}
use lib.ListN.{length, get_or, get_or-append, set, take, drop, take-append-drop}
use lib.Seq.{get_or-take, length-take-le, take_at}
use Rattle.algebra.specs.Sums.{product, power}
use Rattle.algebra.specs.Lists.{tabulate}
use Rattle.algebra.proofs.Remainders.{mod_mul_mod}
use Rattle.algebra.proofs.Tables.{length_tabulate, get_d_tabulate, fill_next, fill_all}
use Rattle.field.specs.Residues.{prime, residues}
use Rattle.field.proofs.Below.{product_below}

module _ (s : ℕ) where
  abbrev entry : ℕ → ℕ
  entry = power residues s

  pub power_next : (k : ℕ) → residues.◌⊗◌ (power residues s k) s ≡ power residues s (k + 1)
  unfolding product
  power_next k = ap entry (sym (add-one k))

  swap_last : (a b c : ℕ) → (a * b % prime * c) % prime ≡ (a * c % prime * b) % prime
  swap_last a b c =
      let e : a * b * c ≡ a * c * b = omega arith in
      mod_mul_mod (a * b) c prime ∙ ap (λ (t : ℕ). t % prime) e ∙ sym (mod_mul_mod (a * c) b prime)

  pub power_add : (k i : ℕ) → power residues s (k + i) ≡ residues.◌⊗◌ (power residues s i) (power residues s k)
  unfolding product
  power_add k zero =
      let e : 1 * entry k ≡ entry k = omega arith in
      ap entry (add-zero k) ∙ sym (ap (λ (t : ℕ). t % prime) e ∙ mod-eq_of_lt (product_below k (λ i. s)))
  power_add k (suc i) =
      ap entry (add-suc k i) ∙ ap (λ (t : ℕ). (t * s) % prime) (power_add k i) ∙ swap_last (entry i) (entry k) s

  -- the first k entries of a list are the powers
  pub first_at : (d : List ℕ) (k j : ℕ) → take k d ≡ tabulate (power residues s) k → j < k → get_or d j 0 ≡ power residues s j
  first_at d k j e h = sym (get_or-take k d j 0 h) ∙ ap (λ (t : List ℕ). get_or t j 0) e ∙ get_d_tabulate entry k j 0 h

  -- the first k places of d are lent, and p comes back with the powers
  pub lent_first : (d p : List ℕ) (k : ℕ) → k ≤ length d → p ≡ tabulate (power residues s) (length (take k d))
      → take k (p ++ drop k d) ≡ tabulate (power residues s) k
  lent_first d p k h e =
      let q : p ≡ tabulate entry k = e ∙ ap (tabulate entry) (length-take-le k d h) in
      take_at p (drop k d) k (ap length q ∙ length_tabulate entry k) ∙ q

  -- the powers up to i, then what was there before
  pub record Stretched (k by : ℕ) (before now : List ℕ) (i : ℕ) : Type 0 where
    pub factor : by ≡ power residues s k
    pub within : i ≤ length before
    pub filled : now ≡ tabulate (power residues s) i ++ drop i before

  pub factor_of : (d : List ℕ) (k r : ℕ) → 0 < k → take k d ≡ tabulate (power residues s) k
      → r ≡ residues.◌⊗◌ (get_or d (k - 1) 0) s → r ≡ power residues s k
  factor_of d k r h e q =
      let whole : k - 1 + 1 ≡ k = omega arith in
      q ∙ ap (λ (t : ℕ). (t * s) % prime) (first_at d k (k - 1) e (omega arith)) ∙ power_next (k - 1) ∙ ap entry whole

  pub start : (d : List ℕ) (k r : ℕ) → k ≤ length d → take k d ≡ tabulate (power residues s) k → r ≡ power residues s k
      → Stretched k r d d k
  start d k r l e q = record {
    factor = q;
    within = l;
    filled = sym (take-append-drop k d) ∙ ap (λ (t : List ℕ). t ++ drop k d) e;
  }

  module _ {k by : ℕ} {d l : List ℕ} {i : ℕ} (v : Stretched k by d l i) where
    -- the entry that is read
    pub entry_at : (j : ℕ) → j < i → get_or l j 0 ≡ power residues s j
    entry_at j h =
        ap (λ (t : List ℕ). get_or t j 0) v.filled
        ∙ get_or-append (tabulate entry i) (drop i d) 0 j (rw length_tabulate h)
        ∙ get_d_tabulate entry i j 0 h

    pub turn : (r : ℕ) → i < length d → 0 < k → k ≤ i → r ≡ residues.◌⊗◌ (get_or l (i - k) 0) by
        → Stretched k by d (set l i r) (i + 1)
    turn r h some m e =
        let back : k + (i - k) ≡ i = omega arith in
        record {
          factor = v.factor;
          within = omega arith;
          filled =
              fill_next entry d l i r h v.filled
              (e ∙ ap₂ residues.◌⊗◌ (entry_at (i - k) (omega arith)) v.factor ∙ sym (power_add k (i - k)) ∙ ap entry back);
        }

    pub finish : length d ≤ i → l ≡ tabulate entry (length d)
    finish h = fill_all entry d l i h v.within v.filled
