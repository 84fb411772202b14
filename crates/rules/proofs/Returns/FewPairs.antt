-- Few pairs let a false return in, for numbers modulo p: at most p times the larger of 2M + 1 and K - 1 of all p times p
-- pairs. The bound in the field comes down, since a sum is 0 where its element is. Assumes nothing.
use mathlib.Core.Path.{◌≡◌, ◌∙◌}
use mathlib.Core.Bool.{true}
use mathlib.Core.List.{List}
use Prim.Native.Nat.{ℕ, suc, ◌+◌, ◌-◌, ◌*◌, ◌≤◌, ◌<◌, max}
use native.Mathlib.Nat.{mul-le-mul_left}
use native.Mathlib.Omega.{arith}
use Rattle.algebra.specs.Modulo.{modulo}
use Rattle.algebra.specs.Count.{count_pairs}
use Rattle.algebra.proofs.Residues.{points_apart}
use Rattle.rules.specs.Settings.{Setting, Facts}
use Rattle.rules.specs.Columns.{Column}
use Rattle.rules.specs.Circuit.{gates_in, tests_in}
use Rattle.rules.specs.Run.{Valid}
use Rattle.rules.specs.Judging.{added_up, sigma_sum, tau_sum, lets_in}
use Rattle.rules.proofs.Returns.LetsIn.{allowed_says, let_in_allowed, let_in_zero}
use Rattle.rules.proofs.Returns.Few.{few_in_field}
use Rattle.rules.proofs.Returns.Elements.{field, R, elements_apart, lifted, zero_from, valid_down, sigma_value, tau_value}

-- the theorem, for shares x of which each element is below p
abbrev pub FewPairs : Setting → List Column → Type 0
FewPairs σ cs = (servers : ℕ) → 0 < servers → (x : ℕ → ℕ → ℕ) → ((i e : ℕ) → x i e < σ.modulus)
    → (Valid (modulo σ.modulus) σ cs (added_up (modulo σ.modulus) σ cs servers x) → ⊥)
    → count_pairs σ.modulus σ.modulus (lets_in σ cs servers x)
    ≤ σ.modulus * max (suc (gates_in cs + gates_in cs)) (tests_in cs - 1)

module _ (σ : Setting) (facts : Facts σ) (cs : List Column) (gates : gates_in cs ≤ 256) (tests : tests_in cs ≤ 512)
    (servers : ℕ) (some : 0 < servers) (x : ℕ → ℕ → ℕ) (below : (i e : ℕ) → x i e < σ.modulus) where
  abbrev p : ℕ
  p = σ.modulus

  both : (r s : ℕ) → lets_in σ cs servers x r s ≡ true
      → (sigma_sum (R σ facts) σ cs servers (lifted σ facts cs servers x below) ((R σ facts).ι r) ≡ (R σ facts).𝟘)
      × (tau_sum (R σ facts) σ cs servers (lifted σ facts cs servers x below) ((R σ facts).ι s) ≡ (R σ facts).𝟘)
  both r s h =
      let a = allowed_says σ cs r s (let_in_allowed σ cs servers x r s h) in
      let z = let_in_zero σ cs servers x r s h in (
        zero_from σ facts _ (sigma_value σ facts cs servers x below r a.r_below ∙ z.sigma_none),
        zero_from σ facts _ (tau_value σ facts cs servers x below s a.s_below ∙ z.tau_none),
      )

  bound : (Valid (modulo p) σ cs (added_up (modulo p) σ cs servers x) → ⊥)
      → count_pairs p p (lets_in σ cs servers x) ≤ p * max (suc (gates_in cs + gates_in cs)) (tests_in cs - 1)
  bound invalid =
      let most : count_pairs p p (lets_in σ cs servers x)
      ≤ max (suc (gates_in cs + gates_in cs) * p) (p * (tests_in cs - 1)) =
      few_in_field (field σ facts) σ cs servers some (lifted σ facts cs servers x below)
      (elements_apart σ facts _ (omega (arith, facts.large))) (elements_apart σ facts _ (omega (arith, facts.large)))
      (λ z. invalid (valid_down σ facts cs servers x below z))
      p p (R σ facts).ι (R σ facts).ι (points_apart p facts.prime) (points_apart p facts.prime)
      (lets_in σ cs servers x) both in
      let by-sigma : p * suc (gates_in cs + gates_in cs) ≤ p * max (suc (gates_in cs + gates_in cs)) (tests_in cs - 1) =
      mul-le-mul_left p (omega arith) in
      let by-tau : p * (tests_in cs - 1) ≤ p * max (suc (gates_in cs + gates_in cs)) (tests_in cs - 1) =
      mul-le-mul_left p (omega arith) in
      omega arith

pub few_pairs : (σ : Setting) → Facts σ → (cs : List Column) → gates_in cs ≤ 256 → tests_in cs ≤ 512 → FewPairs σ cs
few_pairs = bound
