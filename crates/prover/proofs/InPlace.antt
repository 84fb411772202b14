-- A loop that fills a buffer by a rule of what stood there: what is not filled yet stands as it was, and a rule of values told by another
-- rule is one rule. Assumes nothing.
use mathlib.Core.Path.{◌≡◌, sym, ap, ◌∙◌}
use mathlib.Core.List.{List, ◌++◌}
use Prim.Native.Nat.{ℕ, ◌+◌}
use native.Mathlib.Nat.{add-zero}
use lib.ListN.{length, drop}
use lib.Seq.{get_or-append-add, get_or-drop}
use Rattle.algebra.specs.Lists.{tabulate}
use Rattle.algebra.proofs.Tables.{length_tabulate, get_d_tabulate, tabulate_cong}
use Rattle.walk.specs.Walks.{members}
use Rattle.walk.proofs.Filling.{Filling}

pub unfilled : (f : ℕ → ℕ) {d l : List ℕ} {i : ℕ} → Filling f d l i → members l i ≡ members d i
unfilled f {d} {l} {i} w =
    let here : i ≡ length (tabulate f i) + 0 = sym (add-zero _ ∙ length_tabulate f i) in
    ap (λ (s : List ℕ). members s i) w.filled
    ∙ ap (members (tabulate f i ++ drop i d)) here
    ∙ get_or-append-add (tabulate f i) (drop i d) 0 0
    ∙ get_or-drop i d 0 0
    ∙ ap (members d) (add-zero i)

-- a rule of values that another rule told
pub told : (g : ℕ → ℕ → ℕ) (f : ℕ → ℕ) (n : ℕ) {l : List ℕ} → l ≡ tabulate f n
    → tabulate (λ j. g (members l j) j) n ≡ tabulate (λ j. g (f j) j) n
told g f n e =
    ap (λ (s : List ℕ). tabulate (λ j. g (members s j) j) n) e
    ∙ tabulate_cong _ _ n (λ j h. ap (λ a. g a j) (get_d_tabulate f n j 0 h))

pub told_all : (g : ℕ → ℕ → ℕ) (f : ℕ → ℕ) (n : ℕ) {l : List ℕ} → l ≡ tabulate f n
    → tabulate (λ j. g (members l j) j) (length l) ≡ tabulate (λ j. g (f j) j) n
told_all g f n {l} e = ap (tabulate (λ j. g (members l j) j)) (ap length e ∙ length_tabulate f n) ∙ told g f n e

-- and of two such values
pub told_both : (g : ℕ → ℕ → ℕ → ℕ) (f h : ℕ → ℕ) (n : ℕ) {l k : List ℕ} → l ≡ tabulate f n → k ≡ tabulate h n
    → tabulate (λ j. g (members l j) (members k j) j) (length l) ≡ tabulate (λ j. g (f j) (h j) j) n
told_both g f h n {l} {k} e q =
    told_all (λ a j. g a (members k j) j) f n e ∙ told (λ b j. g (f j) b j) h n q
