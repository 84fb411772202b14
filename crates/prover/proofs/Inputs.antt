-- The values of f and of the extras' polynomial, and with them h: the walk over the columns is the run of the circuit, in which the
-- constant p - 1 is itself, and g is f, corrected. Where all multiplications check bits the extras add nothing. Assumes nothing.
use mathlib.Core.Path.{◌≡◌, refl, sym, ap, ap₂, ◌∙◌}
use mathlib.Core.List.{List, ◌∷◌}
use Prim.Native.Nat.{ℕ, zero, suc, ◌+◌, ◌-◌, ◌<◌, ◌≤◌}
use native.Mathlib.Nat.{add-zero, mod-lt, mod-mod}
use lib.Dec.{lit<}
use Rattle.algebra.specs.Lists.{all∷, tabulate}
use Rattle.algebra.specs.Ops.{minus}
use Rattle.algebra.specs.Interpolation.{interpolate}
use Rattle.algebra.proofs.Tables.{tabulate_cong}
use Rattle.field.specs.Residues.{prime, residues, Elements}
use Rattle.field.proofs.Below.{member_below}
use Rattle.rules.specs.Settings.{document01}
use Rattle.rules.specs.Columns.{Column}
use Rattle.rules.specs.Circuit.{gates_in, products_in}
use Rattle.rules.specs.Run.{on_list}
use Rattle.rules.specs.Walk.{walk_lefts}
use Rattle.rules.specs.Judging.{zero_then}
use Rattle.rules.specs.Making.{f_of, g_of}
use Rattle.rules.specs.Products.{walk_extras, extra_at}
use Rattle.rules.proofs.Computed.Facts.{document01_facts}
use Rattle.rules.proofs.Circuits.Walk.{walk_is_run}
use Rattle.rules.proofs.Returns.ProductsHom.{made_right}
use Rattle.walk.specs.Walks.{plain, members}
use Rattle.walk.proofs.Meanings.{list_lefts}
use Rattle.walk.proofs.InputElements.{lefts_elements, extras_elements}
use Rattle.walk.proofs.BitsOnly.{no_extra}
use Rattle.prover.specs.Curves.{value_at, shift_at, product_at, corrected_at}

zero_then_at : (z : ℕ) (ls : List ℕ) (j : ℕ) → members (z ∷ ls) j ≡ zero_then residues z ls j
unfolding zero_then
zero_then_at z ls zero = refl
zero_then_at z ls (suc j) = refl

module _ (xs : List ℕ) where
  abbrev lefts : List Column → List ℕ
  lefts cs = walk_lefts document01 (plain 0 (members xs)) 0 cs

  abbrev extras : List Column → List ℕ
  extras cs = walk_extras residues (prime - 1) (members xs) 0 cs

  -- ---- elements
  pub f_elements : (cs : List Column) {u : ℕ} → u < prime → Elements xs → Elements (u ∷ lefts cs)
  f_elements cs h k = all∷ h (lefts_elements xs k cs 0)

  pub e_elements : (cs : List Column) → Elements (0 ∷ extras cs)
  e_elements cs = all∷ (lit< tt) (extras_elements (prime - 1) (members xs) cs 0)

  -- ---- the values of f and g
  module _ (cs : List Column) where
    f_value : (u j : ℕ)
        → value_at (gates_in cs) (u ∷ lefts cs) j ≡ f_of residues document01 cs (members xs) u (residues.ι j)
    unfolding f_of
    f_value u j =
        (λ t. interpolate residues (gates_in cs) (λ i. zero_then_at u (lefts cs) i t) (residues.ι j))
        ∙ ap (λ (l : List ℕ). interpolate residues (gates_in cs) (zero_then residues u l) (residues.ι j))
        (sym ((walk_is_run document01 (on_list residues (members xs)) cs).lefts_are ∙ list_lefts (members xs) cs))

    e_value : (j : ℕ)
        → value_at (gates_in cs) (0 ∷ extras cs) j ≡ extra_at residues (prime - 1) (members xs) cs (residues.ι j)
    e_value j = λ t. interpolate residues (gates_in cs) (λ i. zero_then_at 0 (extras cs) i t) (residues.ι j)

    product_is : (u v j : ℕ) → gates_in cs ≤ 256 → u < prime → v < prime → Elements xs
        → corrected_at (gates_in cs) (u ∷ lefts cs) (0 ∷ extras cs) (minus residues v u) j
        ≡ residues.◌⊗◌ (f_of residues document01 cs (members xs) u (residues.ι j))
        (g_of residues document01 cs (members xs) v (residues.ι j))
    product_is u v j few hu hv h =
        ap₂
        (λ y e. residues.◌⊗◌ y (residues.◌⊕◌ (residues.◌⊕◌ y (shift_at (gates_in cs) (minus residues v u) j)) e))
        (f_value u j) (e_value j)
        ∙ ap (residues.◌⊗◌ (f_of residues document01 cs (members xs) u (residues.ι j)))
        (sym
        (made_right document01 document01_facts cs few (members xs) (λ i. member_below xs i h) u v (residues.ι j) hu hv
        (mod-lt j (lit< tt))))

    -- their products, at n = M: fs are what stands in the buffer ft
    pub h_from : {out fs ft : List ℕ} {n m d : ℕ} (u v : ℕ) → gates_in cs ≤ 256 → u < prime → v < prime → Elements xs
        → out ≡ tabulate (corrected_at n ft (0 ∷ extras cs) d) m
        → n ≡ gates_in cs → m ≡ suc (n + n) → ft ≡ fs → fs ≡ u ∷ lefts cs → d ≡ minus residues v u
        → out
        ≡ tabulate
        (λ j. residues.◌⊗◌ (f_of residues document01 cs (members xs) u (residues.ι j))
        (g_of residues document01 cs (members xs) v (residues.ι j)))
        (suc (gates_in cs + gates_in cs))
    h_from {out} {fs} {ft} {n} {m} {d} u v few hu hv h e q r pf ef ed =
        e
        ∙ ap (tabulate (corrected_at n ft (0 ∷ extras cs) d)) r
        ∙ ap (λ k. tabulate (corrected_at k ft (0 ∷ extras cs) d) (suc (k + k))) q
        ∙ ap₂ (λ l d. tabulate (corrected_at (gates_in cs) l (0 ∷ extras cs) d) (suc (gates_in cs + gates_in cs))) (pf ∙ ef) ed
        ∙ tabulate_cong _ _ (suc (gates_in cs + gates_in cs)) (λ j l. product_is u v j few hu hv h)

    -- without products
    none_added : (f d j : ℕ) → products_in cs ≡ 0
        → residues.◌⊕◌ f (shift_at (gates_in cs) d j)
        ≡ residues.◌⊕◌ (residues.◌⊕◌ f (shift_at (gates_in cs) d j)) (value_at (gates_in cs) (0 ∷ extras cs) j)
    none_added f d j none =
        sym
        (ap (residues.◌⊕◌ (residues.◌⊕◌ f (shift_at (gates_in cs) d j)))
        (e_value j ∙ no_extra (prime - 1) (members xs) cs (residues.ι j) none)
        ∙ ap residues.ι (add-zero _)
        ∙ mod-mod _ prime)

    pub same_products : (n m d : ℕ) (fs : List ℕ) → n ≡ gates_in cs → products_in cs ≡ 0
        → tabulate (product_at n fs d) m ≡ tabulate (corrected_at n fs (0 ∷ extras cs) d) m
    same_products n m d fs q none =
        let at : (k : ℕ) → k ≡ gates_in cs → (j : ℕ) → product_at k fs d j ≡ corrected_at k fs (0 ∷ extras cs) d j
        = λ k e j. rw e (ap (residues.◌⊗◌ (value_at (gates_in cs) fs j)) (none_added (value_at (gates_in cs) fs j) d j none)) in
        tabulate_cong _ _ m (λ j l. at n q j)
