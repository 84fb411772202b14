-- The right inputs of a sheet's multiplications: the left ones and the constant, and at the products what these have past that.
-- So g is f, the polynomial of the difference at the point 0 and the constant at the others, and the one through the extras:
-- interpolation adds up. For a list and for a server alike. Assumes nothing.
use mathlib.Core.Path.{◌≡◌, refl, sym, ◌∙◌, ap, ap₂}
use mathlib.Core.List.{List, [], ◌∷◌, ◌++◌, map}
use Prim.Native.Nat.{ℕ, zero, suc, ◌+◌, ◌-◌, ◌<◌, ◌≤◌}
use native.Mathlib.Omega.{arith}
use lib.ListN.{length, get_or, length-append, length-map}
use Rattle.algebra.specs.Lists.{tabulate}
use Rattle.algebra.specs.Ops.{Ops, Field, minus}
use Rattle.algebra.specs.Claims.{Apart}
use Rattle.algebra.specs.Interpolation.{interpolate}
use Rattle.algebra.proofs.Ring.{ring, add-zero}
use Rattle.algebra.proofs.Tables.{length_tabulate}
use Rattle.algebra.proofs.Interpolation.{interpolate_add, interpolate_ext}
use Rattle.algebra.proofs.Shifts.{interpolate_shifted}
use Rattle.rules.specs.Settings.{Setting}
use Rattle.rules.specs.Columns.{Column, entries_of, entries_in}
use Rattle.rules.specs.Circuit.{gates_of, bits_of, products_at, circuit_of, gates_in}
use Rattle.rules.specs.Run.{Meaning, run, on_list, at_server}
use Rattle.rules.specs.Walk.{less_one, bits_at, column_lefts, column_rights, walk_lefts, walk_rights}
use Rattle.rules.specs.Judging.{zero_then, h_of, share_run, f_at, g_at}
use Rattle.rules.specs.Making.{f_of, g_of}
use Rattle.rules.specs.Products.{product_extra, column_extras, walk_extras, extra_at, corrected}
use Rattle.rules.proofs.Circuits.Limits.{products_many}
use Rattle.rules.proofs.Circuits.Walk.{walk_is_run, length_lefts}

-- as many as multiplications
module _ (O : Ops) (c : O.F) (x : ℕ → O.F) where
  pub column_extras_lem : (k : Column) (e : ℕ) → length (column_extras O c x e k) ≡ gates_of k
  unfolding column_extras
  column_extras_lem k e =
      length-append (tabulate (λ i. O.𝟘) (bits_of k)) _
      ∙ ap₂ ◌+◌ (length_tabulate (λ i. O.𝟘) (bits_of k)) (length-map (products_at e k) (product_extra O c x))
      ∙ products_many k e

  pub length_extras : (cs : List Column) (e : ℕ) → length (walk_extras O c x e cs) ≡ gates_in cs
  unfolding walk_extras gates_in
  length_extras [] e = refl
  length_extras (k ∷ cs) e =
      length-append (column_extras O c x e k) _ ∙ ap₂ ◌+◌ (column_extras_lem k e) (length_extras cs (e + entries_of k))

module _ (𝓕 : Field) where
  open 𝓕.ops use {F, ◌⊕◌, neg, 𝟘, ι}

  infixl 65 ◌⊕◌
  abbrev O : Ops
  O = 𝓕.ops

  -- ---- member by member: each of rs is that of ls, c and that of ks
  data Past (c : F) : List F → List F → List F → Type 0 where
    past[] : Past c [] [] []
    past∷ : {u k v : F} {ls ks rs : List F} → v ≡ u ⊕ c ⊕ k → Past c ls ks rs → Past c (u ∷ ls) (k ∷ ks) (v ∷ rs)

  module _ {c : F} where
    past++ : {ls ks rs ls' ks' rs' : List F} → Past c ls ks rs → Past c ls' ks' rs'
        → Past c (ls ++ ls') (ks ++ ks') (rs ++ rs')
    past++ past[] q = q
    past++ (past∷ e p) q = past∷ e (past++ p q)

    past_row : (f g : ℕ → F) (n : ℕ) → ((i : ℕ) → g i ≡ f i ⊕ c) → Past c (tabulate f n) (tabulate (λ i. 𝟘) n) (tabulate g n)
    unfolding tabulate
    past_row f g zero h = past[]
    past_row f g (suc n) h = past++ (past_row f g n h) (past∷ (h n ∙ sym (add-zero 𝓕 _)) past[])

    past_map : {A : Type 0} (f k g : A → F) → ((a : A) → g a ≡ f a ⊕ c ⊕ k a) → (l : List A) → Past c (map f l) (map k l) (map g l)
    past_map f k g h [] = past[]
    past_map f k g h (a ∷ l) = past∷ (h a) (past_map f k g h l)

    past_at : {ls ks rs : List F} → Past c ls ks rs → (j : ℕ) → j < length ls
        → get_or rs j 𝟘 ≡ get_or ls j 𝟘 ⊕ c ⊕ get_or ks j 𝟘
    past_at past[] j h = absurd (omega arith)
    past_at (past∷ e p) zero h = e
    past_at (past∷ e p) (suc j) h = past_at p j (omega arith)

  id_past : (u v c : F) → v ≡ u ⊕ c ⊕ (v ⊕ neg u ⊕ neg c)
  id_past u v c = simp ring

  id_first : (u v : F) → v ≡ u ⊕ (v ⊕ neg u)
  id_first u v = simp ring

  -- ---- where wires add as elements do
  module _ (σ : Setting) (μ : Meaning F) (adds : (a b : F) → μ.plus a b ≡ a ⊕ b) where
    abbrev c : F
    c = μ.constant_of (σ.modulus - 1)

    abbrev x : ℕ → F
    x = μ.entry_at

    walk_past : (cs : List Column) (e : ℕ) → Past c (walk_lefts σ μ e cs) (walk_extras O c x e cs) (walk_rights σ μ e cs)
    unfolding walk_lefts walk_rights walk_extras column_lefts column_rights column_extras less_one product_extra
    walk_past [] e = past[]
    walk_past (k ∷ cs) e =
        past++
        (past++ (past_row (λ i. x (bits_at e k + i)) (λ i. less_one σ μ (bits_at e k + i)) (bits_of k) (λ i. adds _ _))
        (past_map (λ p. x p.left) (product_extra O c x) (λ p. x p.right) (λ p. id_past (x p.left) (x p.right) c)
        (products_at e k)))
        (walk_past cs (e + entries_of k))

    module _ (cs : List Column) (apart : Apart 𝓕 (suc (gates_in cs)) ι) (u₀ v₀ r : F) where
      abbrev M : ℕ
      M = gates_in cs

      abbrev ls : List F
      ls = walk_lefts σ μ 0 cs

      abbrev ks : List F
      ks = walk_extras O c x 0 cs

      abbrev rs : List F
      rs = walk_rights σ μ 0 cs

      -- v₀, then the left inputs and the constant
      shifted : ℕ → F
      shifted zero = v₀
      shifted (suc j) = get_or ls j 𝟘 ⊕ c

      walk_corrected : interpolate O M (zero_then O v₀ rs) r
          ≡ corrected O c x cs (interpolate O M (zero_then O u₀ ls) r) u₀ v₀ r
      unfolding zero_then shifted
      walk_corrected =
          interpolate_ext 𝓕 M (zero_then O v₀ rs) (λ j. shifted j ⊕ zero_then O 𝟘 ks j) r each
          ∙ interpolate_add 𝓕 M shifted (zero_then O 𝟘 ks) r
          ∙ ap (◌⊕ extra_at O c x cs r)
          (interpolate_shifted 𝓕 M apart (zero_then O u₀ ls) shifted (minus O v₀ u₀) c r (id_first u₀ v₀) (λ j h. refl))
        where
          each : (j : ℕ) → j ≤ M → zero_then O v₀ rs j ≡ shifted j ⊕ zero_then O 𝟘 ks j
          each zero h = sym (add-zero 𝓕 v₀)
          each (suc j) h = past_at (walk_past cs 0) j (omega (arith, length_lefts σ μ cs 0))

      pub right_corrected : interpolate O M (zero_then O v₀ (run μ (circuit_of σ cs)).rights) r
          ≡ corrected O c x cs (interpolate O M (zero_then O u₀ (run μ (circuit_of σ cs)).lefts) r) u₀ v₀ r
      right_corrected =
          ap (λ l. interpolate O M (zero_then O v₀ l) r) (walk_is_run σ μ cs).rights_are
          ∙ walk_corrected
          ∙ ap (λ l. corrected O c x cs (interpolate O M (zero_then O u₀ l) r) u₀ v₀ r) (sym (walk_is_run σ μ cs).lefts_are)

  -- ---- making and judging
  module _ (σ : Setting) (cs : List Column) (apart : Apart 𝓕 (suc (gates_in cs)) ι) where
    pub g_made : (x : ℕ → F) (u₀ v₀ r : F)
        → g_of O σ cs x v₀ r ≡ corrected O (ι (σ.modulus - 1)) x cs (f_of O σ cs x u₀ r) u₀ v₀ r
    unfolding f_of g_of
    g_made x u₀ v₀ r = right_corrected σ (on_list O x) (λ a b. refl) cs apart u₀ v₀ r

    pub g_judged : (k : F) (x : ℕ → F) (r : F)
        → g_at O σ cs k x r
        ≡ corrected O (O.◌⊗◌ k (ι (σ.modulus - 1))) x cs (f_at O σ cs k x r) (x (entries_in cs)) (x (entries_in cs + 1)) r
    unfolding f_at g_at share_run
    g_judged k x r =
        right_corrected σ (at_server O k x (h_of O σ cs x)) (λ a b. refl) cs apart (x (entries_in cs)) (x (entries_in cs + 1)) r
