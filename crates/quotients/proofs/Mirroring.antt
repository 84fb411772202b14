-- A buffer whose last places hold the weights of the last points is filled at its front from these: while the first j are
-- filled, the places behind the middle are as they were. Assumes nothing.
use mathlib.Core.Path.{◌≡◌, sym, ap, ◌∙◌}
use mathlib.Core.List.{List, ◌++◌}
use Prim.Native.Nat.{ℕ, ◌+◌, ◌-◌, ◌≤◌, ◌<◌}
use native.Mathlib.Omega.{arith}
use lib.ListN.{length, get_or, drop}
use lib.Seq.{drop_at, get_or-drop}
use Rattle.algebra.specs.Interpolation.{weight, sign}
use Rattle.algebra.specs.Lists.{tabulate}
use Rattle.algebra.proofs.Tables.{length_tabulate, get_d_tabulate, tabulate_append}
use Rattle.field.specs.Residues.{prime, residues}
use Rattle.quotients.proofs.Numbers.{weight_across, weight_below}
use Rattle.quotients.proofs.Products.{times}

module _ (s : ℕ) (d : List ℕ) where
  abbrev weigh : ℕ → ℕ
  weigh = weight residues (length d - 1)

  module _ (room : s + s ≤ length d) (small : length d ≤ 513)
      (last : drop s d ≡ tabulate (λ i. weigh (s + i)) (length d - s)) where
    pub across : (l : List ℕ) (j : ℕ) → j < s → l ≡ tabulate weigh j ++ drop j d
        → get_or l (length d - 1 - j) 0 ≡ weigh (length d - 1 - j)
    across l j h e =
        let a : j + (length d - 1 - j - j) ≡ length d - 1 - j = omega arith in
        let b : s + (length d - 1 - j - s) ≡ length d - 1 - j = omega arith in
        let m : length d - 1 - j - s < length d - s = omega arith in
        ap (λ (k : ℕ). get_or l k 0) (sym a)
        ∙ sym (get_or-drop j l (length d - 1 - j - j) 0)
        ∙ ap (λ (t : List ℕ). get_or t (length d - 1 - j - j) 0)
        (ap (drop j) e ∙ drop_at (tabulate weigh j) (drop j d) j (length_tabulate weigh j))
        ∙ get_or-drop j d (length d - 1 - j - j) 0
        ∙ ap (λ (k : ℕ). get_or d k 0) (a ∙ sym b)
        ∙ sym (get_or-drop s d (length d - 1 - j - s) 0)
        ∙ ap (λ (t : List ℕ). get_or t (length d - 1 - j - s) 0) last
        ∙ get_d_tabulate (λ i. weigh (s + i)) (length d - s) (length d - 1 - j - s) 0 m
        ∙ ap weigh b

    pub across_low : (l : List ℕ) (j : ℕ) → j < s → l ≡ tabulate weigh j ++ drop j d → get_or l (length d - 1 - j) 0 < prime
    across_low l j h e = rw (across l j h e) (weight_below (length d - 1) (length d - 1 - j))

    pub across_is : (j v x : ℕ) → j < s → x ≡ weigh (length d - 1 - j) → v ≡ times (sign residues (length d - 1)) x → v ≡ weigh j
    across_is j v x h ex ev =
        ev ∙ ap (times (sign residues (length d - 1))) ex ∙ sym (weight_across (length d - 1) j (omega arith) (omega arith))

    pub joined : (l : List ℕ) (j : ℕ) → j ≡ s → l ≡ tabulate weigh j ++ drop j d → l ≡ tabulate weigh (length d)
    joined l j q e =
        let t : s + (length d - s) ≡ length d = omega arith in
        e
        ∙ ap (λ (k : ℕ). tabulate weigh k ++ drop k d) q
        ∙ ap (tabulate weigh s ++◌) last
        ∙ sym (tabulate_append weigh s (length d - s))
        ∙ ap (tabulate weigh) t
