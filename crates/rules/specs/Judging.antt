-- Document 01, "A return" and "Judging": what a server works out from its share, and the pair that lets a return in.
-- Assumes nothing.
use Rattle.std.specs.Prelude.{Bool, ◌&&◌, List, ℕ, zero, suc, ◌+◌, eqb, ltb, length, get_or}
use Rattle.algebra.specs.Ops.{Ops, minus}
use Rattle.algebra.specs.Modulo.{modulo}
use Rattle.algebra.specs.Sums.{sum, power}
use Rattle.algebra.specs.Interpolation.{interpolate}
use Rattle.rules.specs.Settings.{Setting}
use Rattle.rules.specs.Columns.{Column, entries_in}
use Rattle.rules.specs.Circuit.{gates_in, circuit_of}
use Rattle.rules.specs.Run.{Trace, run, at_server}

-- "A share has L + 2M + 6 elements: the entries, f(0), g(0), h(0)..h(2M), a, b, c."
unfoldable pub share_size : List Column → ℕ
share_size cs = entries_in cs + (gates_in cs + gates_in cs) + 6

module _ (O : Ops) where
  open O use {F, ◌⊕◌, ◌⊗◌, 𝟘, 𝟙}

  infixl 65 ◌⊕◌
  infixl 70 ◌⊗◌
  -- "Only server 0 adds constants."
  unfoldable pub first_only : ℕ → F
  first_only zero = 𝟙
  first_only (suc i) = 𝟘

  -- z at 0, then the members of a list at 1, 2, ..
  unfoldable pub zero_then : F → List F → ℕ → F
  zero_then z l zero = z
  zero_then z l (suc t) = get_or l t 𝟘

  -- "tau is the sum of s^k times test wire k, k from 0, with s^0 = 1 also for s = 0."
  unfoldable pub folded : List F → F → F
  folded ts s = sum O (length ts) (λ k. power O s k ⊗ get_or ts k 𝟘)

  -- "sigma_i = d × b_i + e × a_i + c_i - r × h_i(r), plus d × e at server 0." k is 1 at server 0, and rh is r × h_i(r)
  unfoldable pub sigma_from : F → F → F → F → F → F → F → F
  sigma_from k d e a b c rh = minus O (d ⊗ b ⊕ e ⊗ a ⊕ c) rh ⊕ k ⊗ (d ⊗ e)

  -- A share as a rule that gives its elements x; k is the server's factor on constants
  module _ (σ : Setting) (cs : List Column) where
    unfoldable pub h_of : (ℕ → F) → ℕ → F
    h_of x j = x (entries_in cs + 2 + j)

    unfoldable pub a_of : (ℕ → F) → F
    a_of x = x (entries_in cs + 3 + (gates_in cs + gates_in cs))

    unfoldable pub b_of : (ℕ → F) → F
    b_of x = x (entries_in cs + 4 + (gates_in cs + gates_in cs))

    unfoldable pub c_of : (ℕ → F) → F
    c_of x = x (entries_in cs + 5 + (gates_in cs + gates_in cs))

    -- "gate outputs are its shares of h(1)..h(M)"
    unfoldable pub share_run : F → (ℕ → F) → Trace F
    share_run k x = run (at_server O k x (h_of x)) (circuit_of σ cs)

    -- "it finds its shares of f, g and h at r": f and g of degree at most M, h of degree at most 2M
    unfoldable pub f_at : F → (ℕ → F) → F → F
    f_at k x r = interpolate O (gates_in cs) (zero_then (x (entries_in cs)) (share_run k x).lefts) r

    unfoldable pub g_at : F → (ℕ → F) → F → F
    g_at k x r = interpolate O (gates_in cs) (zero_then (x (entries_in cs + 1)) (share_run k x).rights) r

    unfoldable pub h_at : (ℕ → F) → F → F
    h_at x r = interpolate O (gates_in cs + gates_in cs) (h_of x) r

    -- "Round one: d_i = f_i(r) - a_i, e_i = r × g_i(r) - b_i."
    unfoldable pub d_of : F → (ℕ → F) → F → F
    d_of k x r = minus O (f_at k x r) (a_of x)

    unfoldable pub e_of : F → (ℕ → F) → F → F
    e_of k x r = minus O (r ⊗ g_at k x r) (b_of x)

    -- round two, with the sums d and e
    unfoldable pub sigma_of : F → (ℕ → F) → F → F → F → F
    sigma_of k x r d e = sigma_from k d e (a_of x) (b_of x) (c_of x) (r ⊗ h_at x r)

    unfoldable pub tau_of : F → (ℕ → F) → F → F
    tau_of k x s = folded (share_run k x).tests s

    -- S servers, server i with the share x i: "shares add up modulo p"
    module _ (servers : ℕ) (x : ℕ → ℕ → F) where
      unfoldable pub added_up : ℕ → F
      added_up e = sum O servers (λ i. x i e)

      unfoldable pub d_sum : F → F
      d_sum r = sum O servers (λ i. d_of (first_only i) (x i) r)

      unfoldable pub e_sum : F → F
      e_sum r = sum O servers (λ i. e_of (first_only i) (x i) r)

      unfoldable pub sigma_sum : F → F
      sigma_sum r = sum O servers (λ i. sigma_of (first_only i) (x i) r (d_sum r) (e_sum r))

      unfoldable pub tau_sum : F → F
      tau_sum s = sum O servers (λ i. tau_of (first_only i) (x i) s)

-- "Challenges: r from M + 1 to p - 1, s from 0 to p - 1."
unfoldable pub allowed_pair : Setting → List Column → ℕ → ℕ → Bool
allowed_pair σ cs r s = ltb (gates_in cs) r && (ltb r σ.modulus && ltb s σ.modulus)

-- "An allowed pair lets it in when both sums are 0."
unfoldable pub lets_in : Setting → List Column → ℕ → (ℕ → ℕ → ℕ) → ℕ → ℕ → Bool
lets_in σ cs servers x r s =
    allowed_pair σ cs r s
    && (eqb (sigma_sum (modulo σ.modulus) σ cs servers x r) 0 && eqb (tau_sum (modulo σ.modulus) σ cs servers x s) 0)
