-- In a field, a return whose shares add up to a whole made of a valid list is let in by every pair. h is f g, being a
-- polynomial with those values at 2M + 1 points, so that sigma is 0; the gate outputs are then products, so that the tests
-- are those of the list, and 0. Assumes nothing.
use mathlib.Core.Path.{◌≡◌, sym, ◌∙◌, ap, ap₂}
use mathlib.Core.List.{List}
use Prim.Native.Nat.{ℕ, suc, ◌+◌, ◌-◌, ◌≤◌, ◌<◌}
use native.Mathlib.Omega.{arith}
use lib.ListN.{length, get_or}
use Rattle.algebra.specs.Lists.{All}
use Rattle.algebra.specs.Ops.{Ops, Field, minus}
use Rattle.algebra.specs.Sums.{power}
use Rattle.algebra.specs.Polynomial.{PolyFn}
use Rattle.algebra.specs.Interpolation.{interpolate}
use Rattle.algebra.specs.Claims.{Apart}
use Rattle.algebra.proofs.Members.{all_get_d}
use Rattle.algebra.proofs.Ring.{ring, one-mul, mul-zero}
use Rattle.algebra.proofs.Sums.{sum_zero}
use Rattle.algebra.proofs.Polynomial.{poly_mul}
use Rattle.algebra.proofs.Interpolation.{interpolate_poly, interpolate_at, interpolate_of, interpolate_ext}
use Rattle.rules.specs.Settings.{Setting}
use Rattle.rules.specs.Columns.{Column}
use Rattle.rules.specs.Circuit.{gates_in, circuit_of}
use Rattle.rules.specs.Run.{Meaning, Trace, run, at_server, on_list, Valid}
use Rattle.rules.specs.Walk.{less_one}
use Rattle.rules.specs.Judging.{zero_then, folded, h_of, a_of, b_of, c_of, share_run, f_at, g_at, h_at, tau_of}
use Rattle.rules.specs.Judging.{added_up, sigma_sum, tau_sum}
use Rattle.rules.specs.Making.{f_of, g_of}
use Rattle.rules.proofs.Circuits.Walk.{walk_is_run}
use Rattle.rules.proofs.Returns.EntriesRead.{inputs_left, inputs_right, list_tests}
use Rattle.rules.proofs.Returns.Truth.{Products, true_run}
use Rattle.rules.proofs.Returns.Adding.{sigma_is, tau_sum_lem}
use Rattle.rules.proofs.Returns.Whole.{WholeParts, whole_at, whole_parts}

module _ (𝓕 : Field) where
  open 𝓕.ops use {F, ◌⊕◌, ◌⊗◌, neg, 𝟘, 𝟙, ι}

  infixl 65 ◌⊕◌
  infixl 70 ◌⊗◌
  abbrev O : Ops
  O = 𝓕.ops

  folded_none : (ts : List F) (s : F) → All (λ y. y ≡ 𝟘) ts → folded O ts s ≡ 𝟘
  unfolding folded
  folded_none ts s z =
      sum_zero 𝓕 (length ts) _ (λ k l. ap (power O s k ⊗◌) (all_get_d 𝟘 z k l) ∙ mul-zero 𝓕 (power O s k))

  id_none : (c r w : F) → c ⊕ neg c ⊕ r ⊗ (w ⊕ neg w) ≡ 𝟘
  id_none c r w = simp ring

  module _ (σ : Setting) (cs : List Column) (apart : Apart 𝓕 (suc (gates_in cs + gates_in cs)) ι)
      (x : ℕ → F) (u₀ v₀ a b : F) where
    abbrev M : ℕ
    M = gates_in cs

    abbrev w : ℕ → F
    w = whole_at O σ cs x u₀ v₀ a b

    abbrev parts : WholeParts O σ cs x u₀ v₀ a b
    parts = whole_parts O σ cs x u₀ v₀ a b

    abbrev server : Meaning F
    server = at_server O 𝟙 w (h_of O σ cs w)

    abbrev list : Trace F
    list = run (on_list O x) (circuit_of σ cs)

    -- the inputs are those on the entries
    lefts_are : (share_run O σ cs 𝟙 w).lefts ≡ list.lefts
    unfolding share_run
    lefts_are = inputs_left σ server (on_list O x) cs (λ k l u. parts.entry_is k u)

    rights_are : (share_run O σ cs 𝟙 w).rights ≡ list.rights
    unfolding share_run less_one
    rights_are =
        inputs_right σ server (on_list O x) cs (λ k l u. parts.entry_is k u)
        (λ k l u. ap₂ ◌⊕◌ (parts.entry_is k u) (one-mul 𝓕 (ι (σ.modulus - 1))))

    -- so f and g are those of making, and h is their product
    pub f_is : (r : F) → f_at O σ cs 𝟙 w r ≡ f_of O σ cs x u₀ r
    unfolding f_at f_of
    f_is r = ap₂ (λ z l. interpolate O M (zero_then O z l) r) parts.f_zero_is lefts_are

    pub g_is : (r : F) → g_at O σ cs 𝟙 w r ≡ g_of O σ cs x v₀ r
    unfolding g_at g_of
    g_is r = ap₂ (λ z l. interpolate O M (zero_then O z l) r) parts.g_zero_is rights_are

    fg_poly : PolyFn 𝓕 (M + M) (λ r. f_of O σ cs x u₀ r ⊗ g_of O σ cs x v₀ r)
    unfolding f_of g_of
    fg_poly = poly_mul 𝓕 (interpolate_poly 𝓕 M _) (interpolate_poly 𝓕 M _)

    h_is : (r : F) → h_at O σ cs w r ≡ f_of O σ cs x u₀ r ⊗ g_of O σ cs x v₀ r
    unfolding h_at
    h_is r =
        interpolate_ext 𝓕 (M + M) (h_of O σ cs w) _ r parts.h_is
        ∙ interpolate_of 𝓕 (M + M) apart fg_poly r

    -- the gate outputs are the products of the inputs, and the tests those of the list
    products : Products 𝓕 w (h_of O σ cs w) (share_run O σ cs 𝟙 w)
    unfolding share_run f_of g_of zero_then
    products t l =
        let count : length (run server (circuit_of σ cs)).lefts ≡ M = (walk_is_run σ server cs).lefts_count in
        let below : suc t ≤ M = omega arith in
        parts.h_is (suc t) (omega arith)
        ∙ ap₂ ◌⊗◌
        (interpolate_at 𝓕 M (λ i j c d. apart i j (omega arith) (omega arith)) (zero_then O u₀ list.lefts) (suc t) below)
        (interpolate_at 𝓕 M (λ i j c d. apart i j (omega arith) (omega arith)) (zero_then O v₀ list.rights) (suc t) below)
        ∙ ap₂ (λ y z. get_or y t 𝟘 ⊗ get_or z t 𝟘) (sym lefts_are) (sym rights_are)

    tests_are : (share_run O σ cs 𝟙 w).tests ≡ list.tests
    unfolding share_run
    tests_are =
        ap (λ (z : Trace F). z.tests) (true_run 𝓕 w (h_of O σ cs w) (circuit_of σ cs) products)
        ∙ list_tests O σ w x cs (λ k l u. parts.entry_is k u)

    -- shares that add up to the whole
    module _ (valid : Valid O σ cs x) (servers : ℕ) (some : 0 < servers) (share : ℕ → ℕ → F)
        (adds : added_up O σ cs servers share ≡ w) where
      pub honest_sigma : (r : F) → sigma_sum O σ cs servers share r ≡ 𝟘
      honest_sigma r =
          sigma_is 𝓕 σ cs servers some share r
          ∙ (λ t. minus O (c_of O σ cs (adds t)) (a_of O σ cs (adds t) ⊗ b_of O σ cs (adds t))
          ⊕ r ⊗ minus O (f_at O σ cs 𝟙 (adds t) r ⊗ g_at O σ cs 𝟙 (adds t) r) (h_at O σ cs (adds t) r))
          ∙ (λ t. minus O (parts.c_is t) (parts.a_is t ⊗ parts.b_is t)
          ⊕ r ⊗ minus O (f_is r t ⊗ g_is r t) (h_is r t))
          ∙ id_none (a ⊗ b) r _

      pub honest_tau : (s : F) → tau_sum O σ cs servers share s ≡ 𝟘
      unfolding tau_of
      honest_tau s =
          tau_sum_lem 𝓕 σ cs servers some share s
          ∙ (λ t. folded O (share_run O σ cs 𝟙 (adds t)).tests s)
          ∙ ap (λ l. folded O l s) tests_are
          ∙ folded_none list.tests s valid
