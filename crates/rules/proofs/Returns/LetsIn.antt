-- What the tests `allowed_pair` and `lets_in` say, as facts. Both are tests joined by "and". Assumes nothing.
use mathlib.Core.Path.{◌≡◌}
use mathlib.Core.Bool.{true}
use mathlib.Core.List.{List}
use Prim.Native.Nat.{ℕ, ◌<◌}
use borrow.Author.Tests.{eqb-true, ltb-true, eq-eqb}
use lib.Dec.{eqb, ltb}
use Rattle.algebra.specs.Modulo.{modulo}
use Rattle.algebra.proofs.Members.{and-true, and_left, and_right}
use Rattle.rules.specs.Settings.{Setting}
use Rattle.rules.specs.Columns.{Column}
use Rattle.rules.specs.Circuit.{gates_in}
use Rattle.rules.specs.Judging.{sigma_sum, tau_sum, allowed_pair, lets_in}

module _ (σ : Setting) (cs : List Column) where
  pub record Allowed (r s : ℕ) : Type 0 where
    pub r_above : gates_in cs < r
    pub r_below : r < σ.modulus
    pub s_below : s < σ.modulus

  pub allowed_says : (r s : ℕ) → allowed_pair σ cs r s ≡ true → Allowed r s
  unfolding allowed_pair
  allowed_says r s h =
      let below = and_right (ltb (gates_in cs) r) _ h in
      record {
        r_above = ltb-true _ _ (and_left _ _ h);
        r_below = ltb-true _ _ (and_left _ _ below);
        s_below = ltb-true _ _ (and_right (ltb r σ.modulus) _ below);
      }

  module _ (servers : ℕ) (x : ℕ → ℕ → ℕ) where
    pub record BothZero (r s : ℕ) : Type 0 where
      pub sigma_none : sigma_sum (modulo σ.modulus) σ cs servers x r ≡ 0
      pub tau_none : tau_sum (modulo σ.modulus) σ cs servers x s ≡ 0

    pub let_in_allowed : (r s : ℕ) → lets_in σ cs servers x r s ≡ true → allowed_pair σ cs r s ≡ true
    unfolding lets_in
    let_in_allowed r s h = and_left _ _ h

    pub let_in_zero : (r s : ℕ) → lets_in σ cs servers x r s ≡ true → BothZero r s
    unfolding lets_in
    let_in_zero r s h =
        let sums = and_right (allowed_pair σ cs r s) _ h in
        record {
          sigma_none = eqb-true _ 0 (and_left _ _ sums);
          tau_none = eqb-true _ 0 (and_right (eqb (sigma_sum (modulo σ.modulus) σ cs servers x r) 0) _ sums);
        }

    pub zero_lets_in : (r s : ℕ) → allowed_pair σ cs r s ≡ true → BothZero r s → lets_in σ cs servers x r s ≡ true
    unfolding lets_in
    zero_lets_in r s h z =
        and-true _ _ h (and-true _ _ (eq-eqb _ 0 z.sigma_none) (eq-eqb _ 0 z.tau_none))
