-- The correction of g under a map that keeps the operations, and so for the numbers modulo p with which code computes: at a
-- client, and at a server with the factor k on constants. Assumes nothing.
use mathlib.Core.Path.{◌≡◌, refl, sym, ◌∙◌, ap, ap₂}
use mathlib.Core.List.{List, [], ◌∷◌, ◌++◌, map, map-append}
use Prim.Native.Nat.{ℕ, suc, ◌+◌, ◌-◌, ◌<◌, ◌≤◌}
use native.Mathlib.Omega.{arith}
use Rattle.algebra.specs.Lists.{tabulate}
use Rattle.algebra.specs.Ops.{Ops, Field, Hom, minus}
use Rattle.algebra.specs.Modulo.{modulo}
use Rattle.algebra.specs.Claims.{Apart}
use Rattle.algebra.specs.Interpolation.{interpolate}
use Rattle.algebra.proofs.Homs.{basis_hom, interpolate_hom}
use Rattle.algebra.proofs.Residues.{residues, to_numbers, value_of}
use Rattle.algebra.proofs.Tables.{map_tabulate}
use Rattle.rules.specs.Settings.{Setting, Facts}
use Rattle.rules.specs.Columns.{Column, entries_of, entries_in}
use Rattle.rules.specs.Circuit.{bits_of, Product, products_at, gates_in}
use Rattle.rules.specs.Judging.{zero_then, f_at, g_at}
use Rattle.rules.specs.Making.{f_of, g_of}
use Rattle.rules.specs.Products.{product_extra, column_extras, walk_extras, extra_at, corrected}
use Rattle.rules.proofs.Returns.JudgingHom.{minus_hom, zero_then_hom, f_at_hom, g_at_hom}
use Rattle.rules.proofs.Returns.MakingHom.{f_of_hom, g_of_hom}
use Rattle.rules.proofs.Returns.Elements.{elements_apart}
use Rattle.rules.proofs.Returns.Products.{g_made, g_judged}

module _ {A B : Ops} (h : Hom A B) (c : A.F) (x : ℕ → A.F) where
  open h use {φ, add, mul, nil}

  abbrev y : ℕ → B.F
  y i = φ (x i)

  twice_minus : (v u k : A.F) → φ (minus A (minus A v u) k) ≡ minus B (minus B (φ v) (φ u)) (φ k)
  twice_minus v u k = minus_hom h _ k ∙ ap (λ t. minus B t (φ k)) (minus_hom h v u)

  products_hom : (ps : List Product) → map φ (map (product_extra A c x) ps) ≡ map (product_extra B (φ c) y) ps
  unfolding product_extra
  products_hom [] = refl
  products_hom (p ∷ ps) = ap₂ ◌∷◌ (twice_minus (x p.right) (x p.left) c) (products_hom ps)

  column_hom : (e : ℕ) (k : Column) → map φ (column_extras A c x e k) ≡ column_extras B (φ c) y e k
  unfolding column_extras
  column_hom e k =
      map-append φ (tabulate (λ i. A.𝟘) (bits_of k)) _
      ∙ ap₂ ◌++◌ (map_tabulate φ (λ i. A.𝟘) (bits_of k) ∙ ap (λ z. tabulate (λ i. z) (bits_of k)) nil)
      (products_hom (products_at e k))

  walk_hom : (e : ℕ) (cs : List Column) → map φ (walk_extras A c x e cs) ≡ walk_extras B (φ c) y e cs
  unfolding walk_extras
  walk_hom e [] = refl
  walk_hom e (k ∷ cs) =
      map-append φ (column_extras A c x e k) _ ∙ ap₂ ◌++◌ (column_hom e k) (walk_hom (e + entries_of k) cs)

  extra_at_hom : (cs : List Column) (r : A.F) → φ (extra_at A c x cs r) ≡ extra_at B (φ c) y cs (φ r)
  extra_at_hom cs r = interpolate_hom h (gates_in cs) _ r ∙ λ t. interpolate B (gates_in cs) (λ j. value j t) (φ r)
    where
      value : (j : ℕ)
          → φ (zero_then A A.𝟘 (walk_extras A c x 0 cs) j) ≡ zero_then B B.𝟘 (walk_extras B (φ c) (λ i. φ (x i)) 0 cs) j
      value j =
          zero_then_hom h A.𝟘 (walk_extras A c x 0 cs) j ∙ λ t. zero_then B (nil t) (walk_hom 0 cs t) j

  corrected_hom : (cs : List Column) (f u v r : A.F)
      → φ (corrected A c x cs f u v r) ≡ corrected B (φ c) y cs (φ f) (φ u) (φ v) (φ r)
  corrected_hom cs f u v r =
      add _ _
      ∙ ap₂ B.◌⊕◌
      (add _ _ ∙ ap (B.◌⊕◌ (φ f))
      (add _ _ ∙ ap (B.◌⊕◌ (φ c)) (mul _ _ ∙ ap₂ B.◌⊗◌ (twice_minus v u c) (basis_hom h (gates_in cs) 0 r))))
      (extra_at_hom cs r)

-- ---- numbers modulo p
module _ (σ : Setting) (facts : Facts σ) (cs : List Column) (few : gates_in cs ≤ 256) where
  abbrev p : ℕ
  p = σ.modulus

  abbrev N : Ops
  N = modulo p

  abbrev E : Field
  E = residues p facts.prime

  abbrev values : Hom E.ops N
  values = to_numbers p facts.prime

  abbrev up : ℕ → E.ops.F
  up = E.ops.ι

  back : (a : ℕ) → a < p → values.φ (up a) ≡ a
  back a l = value_of p facts.prime a l

  apart : Apart E (suc (gates_in cs)) up
  apart = elements_apart σ facts (suc (gates_in cs)) (omega (arith, facts.large))

  module _ (x : ℕ → ℕ) (below : (i : ℕ) → x i < p) where
    entries_back : (λ i. values.φ (up (x i))) ≡ x
    entries_back = λ t i. back (x i) (below i) t

    -- a client: the constant comes to p - 1
    pub made_right : (u v r : ℕ) → u < p → v < p → r < p
        → g_of N σ cs x v r ≡ corrected N (N.ι (p - 1)) x cs (f_of N σ cs x u r) u v r
    made_right u v r hu hv hr =
        (λ t. g_of N σ cs (sym entries_back t) (sym (back v hv) t) (sym (back r hr) t))
        ∙ sym (g_of_hom values σ cs (λ i. up (x i)) (up v) (up r))
        ∙ ap values.φ (g_made E σ cs apart (λ i. up (x i)) (up u) (up v) (up r))
        ∙ corrected_hom values (up (p - 1)) (λ i. up (x i)) cs _ (up u) (up v) (up r)
        ∙ ap (λ f. corrected N (values.φ (up (p - 1))) (λ i. values.φ (up (x i))) cs f (values.φ (up u)) (values.φ (up v))
        (values.φ (up r)))
        (f_of_hom values σ cs (λ i. up (x i)) (up u) (up r))
        ∙ λ t. corrected N (values.num (p - 1) t) (entries_back t) cs (f_of N σ cs (entries_back t) (back u hu t) (back r hr t))
        (back u hu t) (back v hv t) (back r hr t)

    -- a server: the constant comes to k times p - 1
    pub judged_right : (k r : ℕ) → k < p → r < p
        → g_at N σ cs k x r
        ≡ corrected N (N.◌⊗◌ k (N.ι (p - 1))) x cs (f_at N σ cs k x r) (x (entries_in cs)) (x (entries_in cs + 1)) r
    judged_right k r hk hr =
        (λ t. g_at N σ cs (sym (back k hk) t) (sym entries_back t) (sym (back r hr) t))
        ∙ sym (g_at_hom values σ cs (up k) (λ i. up (x i)) (up r))
        ∙ ap values.φ (g_judged E σ cs apart (up k) (λ i. up (x i)) (up r))
        ∙ corrected_hom values (E.ops.◌⊗◌ (up k) (up (p - 1))) (λ i. up (x i)) cs _ _ _ (up r)
        ∙ ap₂ (λ c f. corrected N c (λ i. values.φ (up (x i))) cs f (values.φ (up (x (entries_in cs))))
        (values.φ (up (x (entries_in cs + 1)))) (values.φ (up r)))
        (values.mul (up k) (up (p - 1)) ∙ ap (N.◌⊗◌ (values.φ (up k))) (values.num (p - 1)))
        (f_at_hom values σ cs (up k) (λ i. up (x i)) (up r))
        ∙ λ t. corrected N (N.◌⊗◌ (back k hk t) (N.ι (p - 1))) (entries_back t) cs
        (f_at N σ cs (back k hk t) (entries_back t) (back r hr t)) (entries_back t (entries_in cs))
        (entries_back t (entries_in cs + 1)) (back r hr t)
