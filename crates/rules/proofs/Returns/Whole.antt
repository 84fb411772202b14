-- What stands where in the list that the shares add up to: the entries, u_0, v_0, f(j) g(j) for j from 0 to 2M, a, b and
-- a b. The parts of a list that is joined of four are read off. Assumes nothing.
use mathlib.Core.Path.{◌≡◌, refl, sym, ◌∙◌, ap}
use mathlib.Core.List.{List, [], ◌∷◌, ◌++◌}
use Prim.Native.Nat.{ℕ, suc, ◌+◌, ◌≤◌, ◌<◌}
use native.Mathlib.Nat.{add-zero}
use native.Mathlib.Omega.{arith}
use lib.ListN.{length, get_or, length-append, get_or-append}
use lib.Seq.{get_or-append-add}
use Rattle.algebra.specs.Lists.{tabulate}
use Rattle.algebra.specs.Ops.{Ops}
use Rattle.algebra.proofs.Tables.{length_tabulate, get_d_tabulate}
use Rattle.rules.specs.Settings.{Setting}
use Rattle.rules.specs.Columns.{Column, entries_in}
use Rattle.rules.specs.Circuit.{gates_in}
use Rattle.rules.specs.Judging.{share_size, h_of, a_of, b_of, c_of}
use Rattle.rules.specs.Making.{f_of, g_of, whole}

module _ (O : Ops) (σ : Setting) (cs : List Column) (x : ℕ → O.F) (u₀ v₀ a b : O.F) where
  open O use {F, ◌⊗◌, 𝟘, ι}

  infixl 70 ◌⊗◌
  abbrev L : ℕ
  L = entries_in cs

  abbrev M : ℕ
  M = gates_in cs

  -- element e of the list
  abbrev pub whole_at : ℕ → F
  whole_at e = get_or (whole O σ cs x u₀ v₀ a b) e 𝟘

  pub record WholeParts : Type 0 where
    pub entry_is : (e : ℕ) → e < entries_in cs → whole_at e ≡ x e
    pub f_zero_is : whole_at (entries_in cs) ≡ u₀
    pub g_zero_is : whole_at (entries_in cs + 1) ≡ v₀
    pub h_is : (j : ℕ) → j ≤ gates_in cs + gates_in cs
        → h_of O σ cs whole_at j ≡ f_of O σ cs x u₀ (ι j) ⊗ g_of O σ cs x v₀ (ι j)
    pub a_is : a_of O σ cs whole_at ≡ a
    pub b_is : b_of O σ cs whole_at ≡ b
    pub c_is : c_of O σ cs whole_at ≡ a ⊗ b

  product : ℕ → F
  product j = f_of O σ cs x u₀ (ι j) ⊗ g_of O σ cs x v₀ (ι j)

  products : List F
  products = tabulate product (suc (M + M))

  length_products : length products ≡ suc (M + M)
  unfolding products
  length_products = length_tabulate product (suc (M + M))

  split : whole O σ cs x u₀ v₀ a b ≡ tabulate x L ++ (u₀ ∷ v₀ ∷ (products ++ (a ∷ b ∷ a ⊗ b ∷ [])))
  unfolding whole products product
  split = refl

  -- past the entries
  past : (k : ℕ) → whole_at (L + k) ≡ get_or (u₀ ∷ v₀ ∷ (products ++ (a ∷ b ∷ a ⊗ b ∷ []))) k 𝟘
  past k =
      ap (λ l. get_or l (L + k) 𝟘) split
      ∙ ap (λ n. get_or (tabulate x L ++ (u₀ ∷ v₀ ∷ (products ++ (a ∷ b ∷ a ⊗ b ∷ [])))) (n + k) 𝟘) (sym (length_tabulate x L))
      ∙ get_or-append-add (tabulate x L) _ k 𝟘

  -- past the products
  last : (k : ℕ) → whole_at (L + suc (suc (suc (M + M) + k))) ≡ get_or (a ∷ b ∷ a ⊗ b ∷ []) k 𝟘
  last k =
      past (suc (suc (suc (M + M) + k)))
      ∙ ap (λ n. get_or (products ++ (a ∷ b ∷ a ⊗ b ∷ [])) (n + k) 𝟘) (sym length_products)
      ∙ get_or-append-add products _ k 𝟘

  pub whole_parts : WholeParts
  unfolding h_of a_of b_of c_of
  whole_parts = record {
    entry_is = λ e l. first e l;
    f_zero_is = ap whole_at (sym (add-zero L)) ∙ past 0;
    g_zero_is = past 1;
    h_is = λ j l. middle j l;
    a_is = ap whole_at (let e : L + 3 + (M + M) ≡ L + suc (suc (suc (M + M) + 0)) = omega arith in e) ∙ last 0;
    b_is = ap whole_at (let e : L + 4 + (M + M) ≡ L + suc (suc (suc (M + M) + 1)) = omega arith in e) ∙ last 1;
    c_is = ap whole_at (let e : L + 5 + (M + M) ≡ L + suc (suc (suc (M + M) + 2)) = omega arith in e) ∙ last 2;
  }
    where
      first : (e : ℕ) → e < L → whole_at e ≡ x e
      first e l =
          ap (λ t. get_or t e 𝟘) split
          ∙ get_or-append (tabulate x L) _ 𝟘 e (rw length_tabulate l)
          ∙ get_d_tabulate x L e 𝟘 l

      middle : (j : ℕ) → j ≤ M + M → whole_at (L + 2 + j) ≡ f_of O σ cs x u₀ (ι j) ⊗ g_of O σ cs x v₀ (ι j)
      middle j l =
          ap whole_at (let e : L + 2 + j ≡ L + suc (suc j) = omega arith in e)
          ∙ past (suc (suc j))
          ∙ get_or-append products _ 𝟘 j (omega (arith, length_products))
          ∙ unfold products product in get_d_tabulate product (suc (M + M)) j 𝟘 (omega arith)

  pub length_whole : length (whole O σ cs x u₀ v₀ a b) ≡ share_size cs
  unfolding share_size
  length_whole =
      ap length split
      ∙ length-append (tabulate x L) _
      ∙ omega (arith, length_tabulate x L, length-append products (a ∷ b ∷ a ⊗ b ∷ []), length_products)
