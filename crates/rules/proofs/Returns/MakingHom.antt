-- Making under a map that keeps the operations: what is proved in a field holds of the numbers modulo p. Each definition
-- of Making is taken apart once. Assumes nothing.
use mathlib.Core.Path.{◌≡◌, refl, ◌∙◌, ap, ap₂}
use mathlib.Core.List.{List, [], ◌∷◌, ◌++◌, map, map-append}
use Prim.Native.Nat.{ℕ, zero, suc, ◌+◌, ◌-◌}
use Rattle.algebra.specs.Lists.{tabulate}
use Rattle.algebra.specs.Ops.{Ops, Hom, minus}
use Rattle.algebra.specs.Interpolation.{interpolate}
use Rattle.algebra.proofs.Tables.{map_tabulate, tabulate_cong}
use Rattle.algebra.proofs.Homs.{sum_hom, interpolate_hom}
use Rattle.rules.specs.Settings.{Setting}
use Rattle.rules.specs.Columns.{Column, entries_in}
use Rattle.rules.specs.Circuit.{gates_in, circuit_of}
use Rattle.rules.specs.Run.{Trace, run, on_list}
use Rattle.rules.specs.Judging.{zero_then}
use Rattle.rules.specs.Making.{f_of, g_of, whole, share_of}
use Rattle.rules.proofs.Circuits.Natural.{run_map, list_keeps}
use Rattle.rules.proofs.Returns.JudgingHom.{zero_then_hom, minus_hom}

module _ {A B : Ops} (h : Hom A B) where
  open h use {φ, mul, num}

  module _ (σ : Setting) (cs : List Column) (x : ℕ → A.F) where
    abbrev y : ℕ → B.F
    y e = φ (x e)

    pub f_of_hom : (u r : A.F) → φ (f_of A σ cs x u r) ≡ f_of B σ cs y (φ u) (φ r)
    unfolding f_of
    f_of_hom u r = interpolate_hom h (gates_in cs) _ r ∙ λ t. interpolate B (gates_in cs) (λ j. value j t) (φ r)
      where
        value : (j : ℕ)
            → φ (zero_then A u (run (on_list A x) (circuit_of σ cs)).lefts j)
            ≡ zero_then B (φ u) (run (on_list B (λ e. φ (x e))) (circuit_of σ cs)).lefts j
        value j =
            zero_then_hom h u (run (on_list A x) (circuit_of σ cs)).lefts j
            ∙ ap (λ (z : Trace B.F). zero_then B (φ u) z.lefts j) (run_map (list_keeps h x) (circuit_of σ cs))

    pub g_of_hom : (u r : A.F) → φ (g_of A σ cs x u r) ≡ g_of B σ cs y (φ u) (φ r)
    unfolding g_of
    g_of_hom u r = interpolate_hom h (gates_in cs) _ r ∙ λ t. interpolate B (gates_in cs) (λ j. value j t) (φ r)
      where
        value : (j : ℕ)
            → φ (zero_then A u (run (on_list A x) (circuit_of σ cs)).rights j)
            ≡ zero_then B (φ u) (run (on_list B (λ e. φ (x e))) (circuit_of σ cs)).rights j
        value j =
            zero_then_hom h u (run (on_list A x) (circuit_of σ cs)).rights j
            ∙ ap (λ (z : Trace B.F). zero_then B (φ u) z.rights j) (run_map (list_keeps h x) (circuit_of σ cs))

    pub whole_hom : (u v a b : A.F) → map φ (whole A σ cs x u v a b) ≡ whole B σ cs y (φ u) (φ v) (φ a) (φ b)
    unfolding whole
    whole_hom u v a b =
        map-append φ (tabulate x (entries_in cs)) _
        ∙ ap₂ (λ s t. s ++ (φ u ∷ φ v ∷ t)) (map_tabulate φ x (entries_in cs))
        (map-append φ (tabulate _ (suc (gates_in cs + gates_in cs))) (a ∷ b ∷ A.◌⊗◌ a b ∷ [])
        ∙ ap₂ (λ s t. s ++ (φ a ∷ φ b ∷ t ∷ []))
        (map_tabulate φ _ (suc (gates_in cs + gates_in cs)) ∙ tabulate_cong _ _ (suc (gates_in cs + gates_in cs)) (λ j l. product j))
        (mul a b))
      where
        product : (j : ℕ)
            → φ (A.◌⊗◌ (f_of A σ cs x u (A.ι j)) (g_of A σ cs x v (A.ι j)))
            ≡ B.◌⊗◌ (f_of B σ cs y (φ u) (B.ι j)) (g_of B σ cs y (φ v) (B.ι j))
        product j =
            mul _ _
            ∙ ap₂ B.◌⊗◌ (f_of_hom u (A.ι j) ∙ ap (f_of B σ cs y (φ u)) (num j))
            (g_of_hom v (A.ι j) ∙ ap (g_of B σ cs y (φ v)) (num j))

  pub share_of_hom : (servers : ℕ) (w : ℕ → A.F) (z : ℕ → ℕ → A.F) (i e : ℕ)
      → φ (share_of A servers w z i e) ≡ share_of B servers (λ e. φ (w e)) (λ i e. φ (z i e)) i e
  unfolding share_of
  share_of_hom servers w z zero e =
      minus_hom h _ _ ∙ ap (minus B (φ (w e))) (sum_hom h (servers - 1) (λ i. z i e))
  share_of_hom servers w z (suc i) e = refl
