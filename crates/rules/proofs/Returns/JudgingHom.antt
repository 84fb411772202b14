-- Judging under a map that keeps the operations: what is proved in a field holds of the numbers modulo p. Each definition
-- of Judging is taken apart once. Assumes nothing.
use mathlib.Core.Path.{◌≡◌, refl, sym, ◌∙◌, ap, ap₂}
use mathlib.Core.List.{List, map}
use Prim.Native.Nat.{ℕ, zero, suc, ◌+◌}
use lib.ListN.{length, get_or, length-map, get_or-map}
use Rattle.algebra.specs.Ops.{Ops, Hom, minus}
use Rattle.algebra.specs.Sums.{sum, power}
use Rattle.algebra.specs.Interpolation.{interpolate}
use Rattle.algebra.proofs.Sums.{sum_ext}
use Rattle.algebra.proofs.Homs.{sum_hom, power_hom, interpolate_hom}
use Rattle.rules.specs.Settings.{Setting}
use Rattle.rules.specs.Columns.{Column, entries_in}
use Rattle.rules.specs.Circuit.{gates_in, circuit_of}
use Rattle.rules.specs.Run.{Trace}
use Rattle.rules.specs.Judging.{first_only, zero_then, folded, sigma_from, h_of, a_of, b_of, c_of, share_run, f_at, g_at, h_at}
use Rattle.rules.specs.Judging.{d_of, e_of, sigma_of, tau_of, added_up, d_sum, e_sum, sigma_sum, tau_sum}
use Rattle.rules.proofs.Circuits.Natural.{map_trace, run_map, server_keeps}

module _ {A B : Ops} (h : Hom A B) where
  open h use {φ, add, mul, opp, nil, one}

  first_only_hom : (i : ℕ) → φ (first_only A i) ≡ first_only B i
  unfolding first_only
  first_only_hom zero = one
  first_only_hom (suc i) = nil

  pub get_d_hom : (l : List A.F) (j : ℕ) → φ (get_or l j A.𝟘) ≡ get_or (map φ l) j B.𝟘
  get_d_hom l j = sym (get_or-map φ l j A.𝟘) ∙ ap (get_or (map φ l) j) nil

  pub zero_then_hom : (z : A.F) (l : List A.F) (j : ℕ) → φ (zero_then A z l j) ≡ zero_then B (φ z) (map φ l) j
  unfolding zero_then
  zero_then_hom z l zero = refl
  zero_then_hom z l (suc j) = get_d_hom l j

  pub folded_hom : (l : List A.F) (s : A.F) → φ (folded A l s) ≡ folded B (map φ l) (φ s)
  unfolding folded
  folded_hom l s =
      sum_hom h (length l) _
      ∙ sum_ext B (length l) _ _ (λ k m. mul _ _ ∙ ap₂ B.◌⊗◌ (power_hom h s k) (get_d_hom l k))
      ∙ ap (λ n. sum B n (λ k. B.◌⊗◌ (power B (φ s) k) (get_or (map φ l) k B.𝟘))) (sym (length-map l φ))

  pub minus_hom : (a b : A.F) → φ (minus A a b) ≡ minus B (φ a) (φ b)
  minus_hom a b = add _ _ ∙ ap (B.◌⊕◌ (φ a)) (opp b)

  pub sigma_from_hom : (k d e a b c rh : A.F)
      → φ (sigma_from A k d e a b c rh) ≡ sigma_from B (φ k) (φ d) (φ e) (φ a) (φ b) (φ c) (φ rh)
  unfolding sigma_from
  sigma_from_hom k d e a b c rh =
      add _ _
      ∙ ap₂ B.◌⊕◌ (minus_hom _ rh ∙ ap (λ t. minus B t (φ rh)) three) (mul _ _ ∙ ap (B.◌⊗◌ (φ k)) (mul d e))
    where
      three : φ (A.◌⊕◌ (A.◌⊕◌ (A.◌⊗◌ d b) (A.◌⊗◌ e a)) c)
          ≡ B.◌⊕◌ (B.◌⊕◌ (B.◌⊗◌ (φ d) (φ b)) (B.◌⊗◌ (φ e) (φ a))) (φ c)
      three = add _ _ ∙ ap (λ t. B.◌⊕◌ t (φ c)) (add _ _ ∙ ap₂ B.◌⊕◌ (mul d b) (mul e a))

  module _ (σ : Setting) (cs : List Column) where
    -- a share x, and what it is mapped to
    module _ (k : A.F) (x : ℕ → A.F) where
      abbrev y : ℕ → B.F
      y e = φ (x e)

      pub share_run_hom : map_trace φ (share_run A σ cs k x) ≡ share_run B σ cs (φ k) y
      unfolding share_run h_of
      share_run_hom = run_map (server_keeps h k x (h_of A σ cs x)) (circuit_of σ cs)

      pub f_at_hom : (r : A.F) → φ (f_at A σ cs k x r) ≡ f_at B σ cs (φ k) y (φ r)
      unfolding f_at
      f_at_hom r = interpolate_hom h (gates_in cs) _ r ∙ λ t. interpolate B (gates_in cs) (λ j. value j t) (φ r)
        where
          value : (j : ℕ)
              → φ (zero_then A (x (entries_in cs)) (share_run A σ cs k x).lefts j)
              ≡ zero_then B (φ (x (entries_in cs))) (share_run B σ cs (φ k) (λ e. φ (x e))).lefts j
          value j =
              zero_then_hom (x (entries_in cs)) (share_run A σ cs k x).lefts j
              ∙ ap (λ (z : Trace B.F). zero_then B (φ (x (entries_in cs))) z.lefts j) share_run_hom

      pub g_at_hom : (r : A.F) → φ (g_at A σ cs k x r) ≡ g_at B σ cs (φ k) y (φ r)
      unfolding g_at
      g_at_hom r = interpolate_hom h (gates_in cs) _ r ∙ λ t. interpolate B (gates_in cs) (λ j. value j t) (φ r)
        where
          value : (j : ℕ)
              → φ (zero_then A (x (entries_in cs + 1)) (share_run A σ cs k x).rights j)
              ≡ zero_then B (φ (x (entries_in cs + 1))) (share_run B σ cs (φ k) (λ e. φ (x e))).rights j
          value j =
              zero_then_hom (x (entries_in cs + 1)) (share_run A σ cs k x).rights j
              ∙ ap (λ (z : Trace B.F). zero_then B (φ (x (entries_in cs + 1))) z.rights j) share_run_hom

      pub h_at_hom : (r : A.F) → φ (h_at A σ cs x r) ≡ h_at B σ cs y (φ r)
      unfolding h_at h_of
      h_at_hom r = interpolate_hom h (gates_in cs + gates_in cs) _ r

      pub d_of_hom : (r : A.F) → φ (d_of A σ cs k x r) ≡ d_of B σ cs (φ k) y (φ r)
      unfolding d_of a_of
      d_of_hom r = minus_hom _ _ ∙ ap (λ t. minus B t (φ (a_of A σ cs x))) (f_at_hom r)

      pub e_of_hom : (r : A.F) → φ (e_of A σ cs k x r) ≡ e_of B σ cs (φ k) y (φ r)
      unfolding e_of b_of
      e_of_hom r = minus_hom _ _ ∙ ap (λ t. minus B t (φ (b_of A σ cs x))) (mul _ _ ∙ ap (B.◌⊗◌ (φ r)) (g_at_hom r))

      pub sigma_of_hom : (r d e : A.F) → φ (sigma_of A σ cs k x r d e) ≡ sigma_of B σ cs (φ k) y (φ r) (φ d) (φ e)
      unfolding sigma_of a_of b_of c_of
      sigma_of_hom r d e =
          sigma_from_hom k d e (a_of A σ cs x) (b_of A σ cs x) (c_of A σ cs x) _
          ∙ ap (sigma_from B (φ k) (φ d) (φ e) (φ (a_of A σ cs x)) (φ (b_of A σ cs x)) (φ (c_of A σ cs x)))
          (mul _ _ ∙ ap (B.◌⊗◌ (φ r)) (h_at_hom r))

      pub tau_of_hom : (s : A.F) → φ (tau_of A σ cs k x s) ≡ tau_of B σ cs (φ k) y (φ s)
      unfolding tau_of
      tau_of_hom s =
          folded_hom (share_run A σ cs k x).tests s
          ∙ ap (λ (z : Trace B.F). folded B z.tests (φ s)) share_run_hom

    -- the shares of all servers
    module _ (servers : ℕ) (x : ℕ → ℕ → A.F) where
      abbrev w : ℕ → ℕ → B.F
      w i e = φ (x i e)

      pub added_up_hom : (e : ℕ) → φ (added_up A σ cs servers x e) ≡ added_up B σ cs servers w e
      unfolding added_up
      added_up_hom e = sum_hom h servers (λ i. x i e)

      pub d_sum_hom : (r : A.F) → φ (d_sum A σ cs servers x r) ≡ d_sum B σ cs servers w (φ r)
      unfolding d_sum
      d_sum_hom r =
          sum_hom h servers _
          ∙ sum_ext B servers _ _
          (λ i l. d_of_hom (first_only A i) (x i) r ∙ ap (λ k. d_of B σ cs k (w i) (φ r)) (first_only_hom i))

      pub e_sum_hom : (r : A.F) → φ (e_sum A σ cs servers x r) ≡ e_sum B σ cs servers w (φ r)
      unfolding e_sum
      e_sum_hom r =
          sum_hom h servers _
          ∙ sum_ext B servers _ _
          (λ i l. e_of_hom (first_only A i) (x i) r ∙ ap (λ k. e_of B σ cs k (w i) (φ r)) (first_only_hom i))

      pub sigma_sum_hom : (r : A.F) → φ (sigma_sum A σ cs servers x r) ≡ sigma_sum B σ cs servers w (φ r)
      unfolding sigma_sum
      sigma_sum_hom r =
          sum_hom h servers _
          ∙ sum_ext B servers _ _
          (λ i l. sigma_of_hom (first_only A i) (x i) r (d_sum A σ cs servers x r) (e_sum A σ cs servers x r)
          ∙ λ t. sigma_of B σ cs (first_only_hom i t) (w i) (φ r) (d_sum_hom r t) (e_sum_hom r t))

      pub tau_sum_hom : (s : A.F) → φ (tau_sum A σ cs servers x s) ≡ tau_sum B σ cs servers w (φ s)
      unfolding tau_sum
      tau_sum_hom s =
          sum_hom h servers _
          ∙ sum_ext B servers _ _
          (λ i l. tau_of_hom (first_only A i) (x i) s ∙ ap (λ k. tau_of B σ cs k (w i) (φ s)) (first_only_hom i))
