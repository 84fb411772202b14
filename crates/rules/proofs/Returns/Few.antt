-- In a field, few pairs let in a return whose added-up entries are no valid list. Sigma is a polynomial of degree at most
-- 2M + 1 in r, tau one of degree at most K - 1 in s; where both are 0 everywhere, h = f g and all tests are 0, so that the
-- gate outputs are products and the list is valid. Assumes nothing.
use mathlib.Core.Path.{◌≡◌, refl, sym, ◌∙◌, ap₂, subst}
use mathlib.Core.Bool.{Bool, true}
use mathlib.Core.List.{List, [], ◌∷◌}
use Prim.Native.Nat.{ℕ, suc, ◌+◌, ◌-◌, ◌*◌, ◌≤◌, ◌<◌, max}
use native.Mathlib.Omega.{arith}
use lib.ListN.{length}
use Rattle.algebra.specs.Lists.{All, Distinct, tabulate}
use Rattle.algebra.specs.Ops.{Ops, Field, minus}
use Rattle.algebra.specs.Polynomial.{PolyFn, step, horner}
use Rattle.algebra.specs.Count.{count_pairs}
use Rattle.algebra.specs.Claims.{Vanishes, Apart}
use Rattle.algebra.proofs.Tables.{length_tabulate}
use Rattle.algebra.proofs.Members.{all_tabulate}
use Rattle.algebra.proofs.Ring.{sub_zero}
use Rattle.algebra.proofs.Polynomial.{poly_zero, poly_ext, poly_add, poly_neg, poly_mul, poly_horner, horner_powers}
use Rattle.algebra.proofs.Roots.{strip, coefficients_zero}
use Rattle.algebra.proofs.Interpolation.{interpolate_poly, interpolate_at, points_distinct}
use Rattle.algebra.proofs.Pairs.{pair_bound}
use Rattle.rules.specs.Settings.{Setting}
use Rattle.rules.specs.Columns.{Column, entries_in}
use Rattle.rules.specs.Circuit.{gates_in, tests_in, circuit_of}
use Rattle.rules.specs.Run.{Trace, run, at_server, Valid}
use Rattle.rules.specs.Judging.{zero_then, folded, h_of, share_run, f_at, g_at, h_at, tau_of}
use Rattle.rules.specs.Judging.{added_up, sigma_sum, tau_sum}
use Rattle.rules.proofs.Circuits.Walk.{walk_is_run}
use Rattle.rules.proofs.Returns.Truth.{Products, true_run}
use Rattle.rules.proofs.Returns.Adding.{sigma_is, tau_sum_lem}

module _ (𝓕 : Field) where
  open 𝓕.ops use {F, ◌⊗◌, 𝟘, 𝟙, ι}

  infixl 70 ◌⊗◌
  abbrev O : Ops
  O = 𝓕.ops

  -- the points 1, .., m
  abbrev points : ℕ → List F
  points m = tabulate (λ i. ι (suc i)) m

  module _ (m : ℕ) (apart : Apart 𝓕 (suc m) ι) where
    gates_distinct : Distinct (points m)
    gates_distinct =
        points_distinct 𝓕 m (λ i. ι (suc i)) (λ i j k l ne. apart (suc i) (suc j) (omega arith) (omega arith) (omega arith))

    points_nonzero : All (λ r. r ≡ 𝟘 → ⊥) (points m)
    points_nonzero =
        all_tabulate (λ i. ι (suc i)) m
        (λ i l e. apart (suc i) 0 (omega arith) (omega arith) (omega arith) (e ∙ sym 𝓕.law_ι_zero))

  -- the folded tests are a polynomial with the tests as coefficients
  folded_horner : (ts : List F) (s : F) → folded O ts s ≡ horner O ts s
  unfolding folded
  folded_horner ts s = sym (horner_powers 𝓕 ts s)

  folded_poly : (ts : List F) → PolyFn 𝓕 (length ts - 1) (folded O ts)
  folded_poly [] = poly_ext 𝓕 (poly_zero 𝓕 0) none
    where
      none : (s : F) → folded O [] s ≡ 𝟘
      none s = folded_horner [] s ∙ unfold horner in refl
  folded_poly (t ∷ ts) =
      subst (λ n. PolyFn 𝓕 n (folded O (t ∷ ts))) (omega arith) (poly_ext 𝓕 (poly_horner 𝓕 t ts) (folded_horner (t ∷ ts)))

  folded_zero : (ts : List F) (m : ℕ) → Apart 𝓕 (suc m) ι → length ts ≤ suc m → Vanishes 𝓕 (folded O ts)
      → All (λ y. y ≡ 𝟘) ts
  folded_zero ts m apart le z =
      coefficients_zero 𝓕 (points m) (gates_distinct m apart) (points_nonzero m apart) ts
      (omega (arith, length_tabulate (λ i. ι (suc i)) m)) (λ s. sym (folded_horner ts s) ∙ z s)

  module _ (σ : Setting) (cs : List Column) (servers : ℕ) (some : 0 < servers) (x : ℕ → ℕ → F) where
    abbrev M : ℕ
    M = gates_in cs

    -- the added-up share, and its f, g and h
    abbrev whole : ℕ → F
    whole = added_up O σ cs servers x

    abbrev f : F → F
    f = f_at O σ cs 𝟙 whole

    abbrev g : F → F
    g = g_at O σ cs 𝟙 whole

    abbrev h : F → F
    h = h_at O σ cs whole

    gap_poly : PolyFn 𝓕 (M + M) (λ r. minus O (f r ⊗ g r) (h r))
    unfolding f_at g_at h_at
    gap_poly =
        poly_add 𝓕 (poly_mul 𝓕 (interpolate_poly 𝓕 M _) (interpolate_poly 𝓕 M _)) (poly_neg 𝓕 (interpolate_poly 𝓕 (M + M) _))

    sigma_poly : PolyFn 𝓕 (suc (M + M)) (sigma_sum O σ cs servers x)
    sigma_poly = step _ gap_poly (sigma_is 𝓕 σ cs servers some x)

    tests_count : length (share_run O σ cs 𝟙 whole).tests ≡ tests_in cs
    unfolding share_run
    tests_count = (walk_is_run σ (at_server O 𝟙 whole (h_of O σ cs whole)) cs).tests_count

    tau_is : (s : F) → tau_sum O σ cs servers x s ≡ folded O (share_run O σ cs 𝟙 whole).tests s
    unfolding tau_of
    tau_is s = tau_sum_lem 𝓕 σ cs servers some x s

    tau_poly : PolyFn 𝓕 (tests_in cs - 1) (tau_sum O σ cs servers x)
    tau_poly =
        subst (λ n. PolyFn 𝓕 (n - 1) (tau_sum O σ cs servers x)) tests_count (poly_ext 𝓕 (folded_poly _) tau_is)

    -- points 0, .., 2M + 1, and as many points as tests
    module _ (apart : Apart 𝓕 (suc (suc (M + M))) ι) (apart-tests : Apart 𝓕 (suc (tests_in cs)) ι) where
      sigma_zero : Vanishes 𝓕 (sigma_sum O σ cs servers x) → (r : F) → f r ⊗ g r ≡ h r
      sigma_zero z r =
          sub_zero 𝓕
          (strip 𝓕 (points (suc (M + M))) gap_poly (omega (arith, length_tabulate (λ i. ι (suc i)) (suc (M + M))))
          (gates_distinct (suc (M + M)) apart) (points_nonzero (suc (M + M)) apart)
          (λ t. sym (sigma_is 𝓕 σ cs servers some x t) ∙ z t) r)

      tau_zero : Vanishes 𝓕 (tau_sum O σ cs servers x) → All (λ y. y ≡ 𝟘) (share_run O σ cs 𝟙 whole).tests
      tau_zero z =
          folded_zero _ (tests_in cs) apart-tests (omega (arith, tests_count)) (λ s. sym (tau_is s) ∙ z s)

      -- where h = f g, the gate outputs are the products of the inputs
      products : ((r : F) → f r ⊗ g r ≡ h r) → Products 𝓕 whole (h_of O σ cs whole) (share_run O σ cs 𝟙 whole)
      unfolding share_run f_at g_at h_at zero_then
      products e t l =
          let count : length (run (at_server O 𝟙 whole (h_of O σ cs whole)) (circuit_of σ cs)).lefts ≡ M =
          (walk_is_run σ (at_server O 𝟙 whole (h_of O σ cs whole)) cs).lefts_count in
          let below : suc t ≤ M = omega arith in
          sym (interpolate_at 𝓕 (M + M) (λ i j a b. apart i j (omega arith) (omega arith)) _ (suc t) (omega arith))
          ∙ sym (e (ι (suc t)))
          ∙ ap₂ ◌⊗◌
          (interpolate_at 𝓕 M (λ i j a b. apart i j (omega arith) (omega arith))
          (zero_then O (whole (entries_in cs)) (share_run O σ cs 𝟙 whole).lefts) (suc t) below)
          (interpolate_at 𝓕 M (λ i j a b. apart i j (omega arith) (omega arith))
          (zero_then O (whole (entries_in cs + 1)) (share_run O σ cs 𝟙 whole).rights) (suc t) below)

      valid_where_zero : Vanishes 𝓕 (sigma_sum O σ cs servers x) → Vanishes 𝓕 (tau_sum O σ cs servers x) → Valid O σ cs whole
      unfolding share_run
      valid_where_zero z w =
          subst (λ (t : Trace F). All (λ y. y ≡ 𝟘) t.tests)
          (true_run 𝓕 whole (h_of O σ cs whole) (circuit_of σ cs) (products (sigma_zero z))) (tau_zero w)

      pub few_in_field : (Valid O σ cs whole → ⊥) → (n m : ℕ) (rr ss : ℕ → F) → Apart 𝓕 n rr → Apart 𝓕 m ss
          → (t : ℕ → ℕ → Bool)
          → ((i j : ℕ) → t i j ≡ true → (sigma_sum O σ cs servers x (rr i) ≡ 𝟘) × (tau_sum O σ cs servers x (ss j) ≡ 𝟘))
          → count_pairs n m t ≤ max (suc (M + M) * m) (n * (tests_in cs - 1))
      few_in_field invalid =
          pair_bound 𝓕 (suc (M + M)) (tests_in cs - 1) (sigma_sum O σ cs servers x) (tau_sum O σ cs servers x)
          sigma_poly tau_poly (λ z w. invalid (valid_where_zero z w))
