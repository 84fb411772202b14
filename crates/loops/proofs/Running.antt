-- A loop that fills a buffer with the running products of a rule g: after i turns the buffer holds the first i of them, then
-- what it held before, and acc is the next. One store and one product keep that. Assumes nothing.
use mathlib.Core.Path.{◌≡◌, refl, sym, ap, ◌∙◌}
use mathlib.Core.List.{List, ◌++◌}
use Prim.Native.Nat.{ℕ, ◌+◌, ◌≤◌, ◌<◌}
use native.Mathlib.Numerals.{add-one}
use native.Mathlib.Omega.{arith}
use lib.Dec.{lit<}
use lib.ListN.{length, length-set, set, drop}
use Rattle.algebra.specs.Sums.{product}
use Rattle.algebra.specs.Lists.{tabulate}
use Rattle.algebra.proofs.Tables.{fill_none, fill_next}
use Rattle.field.specs.Residues.{prime, residues}
use Rattle.field.proofs.Below.{product_below}

module _ (g : ℕ → ℕ) where
  abbrev run : ℕ → ℕ
  run j = product residues j g

  pub record Running (before now : List ℕ) (acc i : ℕ) : Type 0 where
    pub within : i ≤ length before
    pub same : length now ≡ length before
    pub element : acc < prime
    pub is : acc ≡ product residues i g
    pub filled : now ≡ tabulate (λ j. product residues j g) i ++ drop i before

  pub start : (d : List ℕ) → Running d d 1 0
  unfolding product
  start d = record {
    within = omega arith;
    same = refl;
    element = lit< tt;
    is = refl;
    filled = fill_none run d;
  }

  pub turn : {d l : List ℕ} {acc i : ℕ} (r : ℕ) → Running d l acc i → i < length d → r ≡ residues.◌⊗◌ acc (g i)
      → Running d (set l i acc) r (i + 1)
  unfolding product
  turn {d} {l} {acc} {i} r v h e = record {
    within = omega arith;
    same = length-set l i acc ∙ v.same;
    element = rw next (product_below (i + 1) g);
    is = next;
    filled = fill_next run d l i acc h v.filled v.is;
  }
    where
      next : r ≡ product residues (i + 1) g
      next = e ∙ ap (λ (t : ℕ). residues.◌⊗◌ t (g i)) v.is ∙ ap run (sym (add-one i))
