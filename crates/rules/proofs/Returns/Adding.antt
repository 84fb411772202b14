-- What the servers work out adds up to what is worked out on the added-up share with factor 1: d, e, sigma and tau are
-- linear in the share and the factor, and the factors add up to 1. Sigma is then c - a b + r (f g - h). Assumes nothing.
use mathlib.Core.Path.{◌≡◌, refl, sym, ◌∙◌, ap, ap₂}
use mathlib.Core.List.{List, map}
use Prim.Native.Nat.{ℕ, zero, suc, ◌+◌, ◌<◌}
use lib.ListN.{length, get_or, length-map}
use Rattle.algebra.specs.Ops.{Ops, Field, minus}
use Rattle.algebra.specs.Sums.{sum, power}
use Rattle.algebra.specs.Interpolation.{interpolate}
use Rattle.algebra.proofs.Ring.{ring}
use Rattle.algebra.proofs.Sums.{sum_ext, sum_add, sum_neg, sum_swap, sum_first, times_sum}
use Rattle.algebra.proofs.Interpolation.{interpolate_sum}
use Rattle.rules.specs.Settings.{Setting}
use Rattle.rules.specs.Columns.{Column, entries_in}
use Rattle.rules.specs.Circuit.{gates_in, circuit_of}
use Rattle.rules.specs.Run.{run}
use Rattle.rules.specs.Judging.{first_only, zero_then, folded, sigma_from, h_of, a_of, b_of, c_of, share_run, f_at, g_at, h_at}
use Rattle.rules.specs.Judging.{d_of, e_of, sigma_of, tau_of, added_up, d_sum, e_sum, sigma_sum, tau_sum}
use Rattle.rules.proofs.Circuits.Natural.{run_map}
use Rattle.rules.proofs.Returns.Linear.{together, at_server_lem, adding, list_add, lefts_add, rights_add}

module _ (𝓕 : Field) where
  open 𝓕.ops use {F, ◌⊕◌, ◌⊗◌, neg, 𝟘, 𝟙}

  infixl 65 ◌⊕◌
  infixl 70 ◌⊗◌
  abbrev O : Ops
  O = 𝓕.ops

  -- the identities of sigma
  none_from : (d e : F) → 𝟘 ≡ sigma_from O 𝟘 d e 𝟘 𝟘 𝟘 𝟘
  unfolding sigma_from
  none_from d e = simp ring

  two_from : (d e k a b c h l u v w g : F)
      → sigma_from O k d e a b c h ⊕ sigma_from O l d e u v w g
      ≡ sigma_from O (k ⊕ l) d e (a ⊕ u) (b ⊕ v) (c ⊕ w) (h ⊕ g)
  unfolding sigma_from
  two_from d e k a b c h l u v w g = simp ring

  id_sigma : (a b c r f g h : F)
      → (f ⊕ neg a) ⊗ b ⊕ (r ⊗ g ⊕ neg b) ⊗ a ⊕ c ⊕ neg (r ⊗ h) ⊕ 𝟙 ⊗ ((f ⊕ neg a) ⊗ (r ⊗ g ⊕ neg b))
      ≡ c ⊕ neg (a ⊗ b) ⊕ r ⊗ (f ⊗ g ⊕ neg h)
  id_sigma a b c r f g h = simp ring

  sigma_form : (a b c r f g h : F)
      → sigma_from O 𝟙 (minus O f a) (minus O (r ⊗ g) b) a b c (r ⊗ h) ≡ minus O c (a ⊗ b) ⊕ r ⊗ minus O (f ⊗ g) h
  unfolding sigma_from
  sigma_form a b c r f g h = id_sigma a b c r f g h

  -- any factors k
  module _ (servers : ℕ) (k : ℕ → F) where
    abbrev total : (ℕ → F) → F
    total g = sum O servers g

    folded_add : (l : List (ℕ → F)) (s : F) (x h : ℕ → ℕ → F)
        → folded O (map total l) s ≡ total (λ i. folded O (map (λ a. a i) l) s)
    unfolding folded
    folded_add l s x h =
        ap (λ n. sum O n (λ j. power O s j ⊗ get_or (map total l) j 𝟘)) (length-map l total)
        ∙ sum_ext O (length l) _ _ term
        ∙ sum_swap 𝓕 (length l) servers (λ j i. power O s j ⊗ get_or (map (λ a. a i) l) j 𝟘)
        ∙ λ t. total (λ i. sum O (sym (length-map l (λ (a : ℕ → F). a i)) t) (λ j. power O s j ⊗ get_or (map (λ a. a i) l) j 𝟘))
      where
        term : (j : ℕ) → j < length l
            → power O s j ⊗ get_or (map total l) j 𝟘 ≡ total (λ i. power O s j ⊗ get_or (map (λ a. a i) l) j 𝟘)
        term j m = ap (power O s j ⊗◌) (list_add 𝓕 servers k x h l j) ∙ sym (times_sum 𝓕 servers (power O s j) _)

    sigma_from_add : (d e : F) (a b c h : ℕ → F) (n : ℕ)
        → sum O n (λ i. sigma_from O (k i) d e (a i) (b i) (c i) (h i))
        ≡ sigma_from O (sum O n k) d e (sum O n a) (sum O n b) (sum O n c) (sum O n h)
    unfolding sum
    sigma_from_add d e a b c h zero = none_from d e
    sigma_from_add d e a b c h (suc n) =
        ap (◌⊕ sigma_from O (k n) d e (a n) (b n) (c n) (h n)) (sigma_from_add d e a b c h n)
        ∙ two_from d e _ _ _ _ _ _ _ _ _ _

    module _ (σ : Setting) (cs : List Column) (x : ℕ → ℕ → F) where
      -- the added-up share
      abbrev y : ℕ → F
      y e = total (λ i. x i e)

      lefts_through : (z : ℕ → F) (j : ℕ)
          → zero_then O (total z) (share_run O σ cs (total k) y).lefts j
          ≡ total (λ i. zero_then O (z i) (share_run O σ cs (k i) (x i)).lefts j)
      unfolding zero_then share_run h_of
      lefts_through z zero = refl
      lefts_through z (suc j) = lefts_add 𝓕 servers k x (λ i. h_of O σ cs (x i)) (circuit_of σ cs) j

      rights_through : (z : ℕ → F) (j : ℕ)
          → zero_then O (total z) (share_run O σ cs (total k) y).rights j
          ≡ total (λ i. zero_then O (z i) (share_run O σ cs (k i) (x i)).rights j)
      unfolding zero_then share_run h_of
      rights_through z zero = refl
      rights_through z (suc j) = rights_add 𝓕 servers k x (λ i. h_of O σ cs (x i)) (circuit_of σ cs) j

      f_add : (r : F) → f_at O σ cs (total k) y r ≡ total (λ i. f_at O σ cs (k i) (x i) r)
      unfolding f_at
      f_add r =
          (λ t. interpolate O (gates_in cs) (λ j. lefts_through (λ i. x i (entries_in cs)) j t) r)
          ∙ interpolate_sum 𝓕 servers (gates_in cs) _ r

      g_add : (r : F) → g_at O σ cs (total k) y r ≡ total (λ i. g_at O σ cs (k i) (x i) r)
      unfolding g_at
      g_add r =
          (λ t. interpolate O (gates_in cs) (λ j. rights_through (λ i. x i (entries_in cs + 1)) j t) r)
          ∙ interpolate_sum 𝓕 servers (gates_in cs) _ r

      h_add : (r : F) → h_at O σ cs y r ≡ total (λ i. h_at O σ cs (x i) r)
      unfolding h_at h_of
      h_add r = interpolate_sum 𝓕 servers (gates_in cs + gates_in cs) (λ i. h_of O σ cs (x i)) r

      minus_add : (u v : ℕ → F) → minus O (total u) (total v) ≡ total (λ i. minus O (u i) (v i))
      minus_add u v = ap (total u ⊕◌) (sym (sum_neg 𝓕 servers v)) ∙ sym (sum_add 𝓕 servers u (λ i. neg (v i)))

      d_add : (r : F) → d_of O σ cs (total k) y r ≡ total (λ i. d_of O σ cs (k i) (x i) r)
      unfolding d_of a_of
      d_add r = ap (λ t. minus O t (a_of O σ cs y)) (f_add r) ∙ minus_add _ (λ i. a_of O σ cs (x i))

      e_add : (r : F) → e_of O σ cs (total k) y r ≡ total (λ i. e_of O σ cs (k i) (x i) r)
      unfolding e_of b_of
      e_add r =
          ap (λ t. minus O t (b_of O σ cs y)) (ap (r ⊗◌) (g_add r) ∙ sym (times_sum 𝓕 servers r _))
          ∙ minus_add _ (λ i. b_of O σ cs (x i))

      sigma_add : (r d e : F) → sigma_of O σ cs (total k) y r d e ≡ total (λ i. sigma_of O σ cs (k i) (x i) r d e)
      unfolding sigma_of a_of b_of c_of
      sigma_add r d e =
          ap (sigma_from O (total k) d e (a_of O σ cs y) (b_of O σ cs y) (c_of O σ cs y))
          (ap (r ⊗◌) (h_add r) ∙ sym (times_sum 𝓕 servers r _))
          ∙ sym (sigma_from_add d e (λ i. a_of O σ cs (x i)) (λ i. b_of O σ cs (x i)) (λ i. c_of O σ cs (x i)) _ servers)

      tau_add : (s : F) → tau_of O σ cs (total k) y s ≡ total (λ i. tau_of O σ cs (k i) (x i) s)
      unfolding tau_of share_run h_of
      tau_add s =
          ap (λ z. folded O z.tests s) (sym (run_map (adding 𝓕 servers k x outputs) (circuit_of σ cs)))
          ∙ folded_add (run (together 𝓕 servers k x outputs) (circuit_of σ cs)).tests s x outputs
          ∙ ap total (λ t i. folded O (run_map (at_server_lem 𝓕 servers k x outputs i) (circuit_of σ cs) t).tests s)
        where
          outputs : ℕ → ℕ → F
          outputs i = h_of O σ cs (x i)

  -- the factors 1, 0, 0, .. of the servers
  factors_add : (servers : ℕ) → 0 < servers → sum O servers (first_only O) ≡ 𝟙
  unfolding first_only
  factors_add servers some = sum_first 𝓕 servers (first_only O) some (λ i. refl)

  module _ (σ : Setting) (cs : List Column) (servers : ℕ) (some : 0 < servers) (x : ℕ → ℕ → F) where
    abbrev whole : ℕ → F
    whole = added_up O σ cs servers x

    pub d_sum_lem : (r : F) → d_sum O σ cs servers x r ≡ d_of O σ cs 𝟙 whole r
    unfolding d_sum added_up
    d_sum_lem r =
        sym (d_add servers (first_only O) σ cs x r)
        ∙ ap (λ k. d_of O σ cs k (λ e. sum O servers (λ i. x i e)) r) (factors_add servers some)

    pub e_sum_lem : (r : F) → e_sum O σ cs servers x r ≡ e_of O σ cs 𝟙 whole r
    unfolding e_sum added_up
    e_sum_lem r =
        sym (e_add servers (first_only O) σ cs x r)
        ∙ ap (λ k. e_of O σ cs k (λ e. sum O servers (λ i. x i e)) r) (factors_add servers some)

    pub tau_sum_lem : (s : F) → tau_sum O σ cs servers x s ≡ tau_of O σ cs 𝟙 whole s
    unfolding tau_sum added_up
    tau_sum_lem s =
        sym (tau_add servers (first_only O) σ cs x s)
        ∙ ap (λ k. tau_of O σ cs k (λ e. sum O servers (λ i. x i e)) s) (factors_add servers some)

    pub sigma_sum_lem : (r : F)
        → sigma_sum O σ cs servers x r ≡ sigma_of O σ cs 𝟙 whole r (d_of O σ cs 𝟙 whole r) (e_of O σ cs 𝟙 whole r)
    unfolding sigma_sum added_up
    sigma_sum_lem r =
        sym (sigma_add servers (first_only O) σ cs x r (d_sum O σ cs servers x r) (e_sum O σ cs servers x r))
        ∙ ap (λ k. sigma_of O σ cs k (λ e. sum O servers (λ i. x i e)) r (d_sum O σ cs servers x r) (e_sum O σ cs servers x r))
        (factors_add servers some)
        ∙ ap₂ (sigma_of O σ cs 𝟙 (λ e. sum O servers (λ i. x i e)) r) (d_sum_lem r) (e_sum_lem r)

    -- sigma's polynomial
    pub sigma_is : (r : F)
        → sigma_sum O σ cs servers x r
        ≡ minus O (c_of O σ cs whole) (a_of O σ cs whole ⊗ b_of O σ cs whole)
        ⊕ r ⊗ minus O (f_at O σ cs 𝟙 whole r ⊗ g_at O σ cs 𝟙 whole r) (h_at O σ cs whole r)
    unfolding sigma_of d_of e_of
    sigma_is r = sigma_sum_lem r ∙ sigma_form _ _ _ r _ _ _
