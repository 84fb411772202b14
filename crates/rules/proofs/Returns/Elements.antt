-- Numbers below p as elements of the field of residues: what Judging gives on them is the value of what it gives on the
-- elements, and a list is valid where its elements are. By the laws of a map that keeps the operations. Assumes nothing.
use mathlib.Core.Path.{◌≡◌, sym, ◌∙◌, ap, subst}
use mathlib.Core.List.{List}
use Prim.Native.Nat.{ℕ, ◌≤◌, ◌<◌}
use native.Mathlib.Omega.{arith}
use Rattle.algebra.specs.Ops.{Ops, Field}
use Rattle.algebra.specs.Modulo.{modulo}
use Rattle.algebra.specs.Claims.{Apart}
use Rattle.algebra.proofs.Residues.{residues, to_numbers, value_of, value_below, of_value, value_zero, points_apart}
use Rattle.rules.specs.Settings.{Setting, Facts}
use Rattle.rules.specs.Columns.{Column}
use Rattle.rules.specs.Run.{Valid}
use Rattle.rules.specs.Judging.{added_up, d_sum, e_sum, sigma_sum, tau_sum}
use Rattle.rules.proofs.Circuits.Legal.{valid_lifts}
use Rattle.rules.proofs.Returns.JudgingHom.{added_up_hom, d_sum_hom, e_sum_hom, sigma_sum_hom, tau_sum_hom}

module _ (σ : Setting) (facts : Facts σ) where
  abbrev pub p : ℕ
  p = σ.modulus

  -- the field, its operations, and the value of an element
  abbrev pub field : Field
  field = residues p facts.prime

  abbrev pub R : Ops
  R = field.ops

  abbrev pub value : R.F → ℕ
  value = (to_numbers p facts.prime).φ

  -- the elements of numbers below p have these as values
  back : (n : ℕ) → n < p → value (R.ι n) ≡ n
  back = value_of p facts.prime

  pub zero_value : value R.𝟘 ≡ 0
  zero_value = (to_numbers p facts.prime).nil

  pub zero_from : (y : R.F) → value y ≡ 0 → y ≡ R.𝟘
  zero_from = value_zero p facts.prime

  -- numbers up to p leave elements that differ
  pub elements_apart : (m : ℕ) → m ≤ p → Apart field m R.ι
  elements_apart m h i j k l = points_apart p facts.prime i j (omega arith) (omega arith)

  -- shares of numbers below p
  module _ (cs : List Column) (servers : ℕ) (x : ℕ → ℕ → ℕ) (below : (i e : ℕ) → x i e < p) where
    abbrev pub lifted : ℕ → ℕ → R.F
    lifted i e = R.ι (x i e)

    shares_back : (λ i e. value (lifted i e)) ≡ x
    shares_back = λ t i e. back (x i e) (below i e) t

    added_value : (e : ℕ) → value (added_up R σ cs servers lifted e) ≡ added_up (modulo p) σ cs servers x e
    added_value e =
        added_up_hom (to_numbers p facts.prime) σ cs servers lifted e
        ∙ λ t. added_up (modulo p) σ cs servers (shares_back t) e

    pub added_below : (e : ℕ) → added_up (modulo p) σ cs servers x e < p
    added_below e = subst (λ n. n < p) (added_value e) (value_below p facts.prime _)

    pub added_lifts : (λ e. R.ι (added_up (modulo p) σ cs servers x e)) ≡ added_up R σ cs servers lifted
    added_lifts = λ t e. (ap R.ι (sym (added_value e)) ∙ of_value p facts.prime (added_up R σ cs servers lifted e)) t

    pub valid_down : Valid R σ cs (added_up R σ cs servers lifted) → Valid (modulo p) σ cs (added_up (modulo p) σ cs servers x)
    valid_down z =
        (valid_lifts σ facts cs (added_up (modulo p) σ cs servers x) added_below).1 (subst (Valid R σ cs) (sym added_lifts) z)

    pub d_value : (r : ℕ) → r < p → value (d_sum R σ cs servers lifted (R.ι r)) ≡ d_sum (modulo p) σ cs servers x r
    d_value r l =
        d_sum_hom (to_numbers p facts.prime) σ cs servers lifted (R.ι r)
        ∙ λ t. d_sum (modulo p) σ cs servers (shares_back t) (back r l t)

    pub e_value : (r : ℕ) → r < p → value (e_sum R σ cs servers lifted (R.ι r)) ≡ e_sum (modulo p) σ cs servers x r
    e_value r l =
        e_sum_hom (to_numbers p facts.prime) σ cs servers lifted (R.ι r)
        ∙ λ t. e_sum (modulo p) σ cs servers (shares_back t) (back r l t)

    pub sigma_value : (r : ℕ) → r < p
        → value (sigma_sum R σ cs servers lifted (R.ι r)) ≡ sigma_sum (modulo p) σ cs servers x r
    sigma_value r l =
        sigma_sum_hom (to_numbers p facts.prime) σ cs servers lifted (R.ι r)
        ∙ λ t. sigma_sum (modulo p) σ cs servers (shares_back t) (back r l t)

    pub tau_value : (s : ℕ) → s < p → value (tau_sum R σ cs servers lifted (R.ι s)) ≡ tau_sum (modulo p) σ cs servers x s
    tau_value s l =
        tau_sum_hom (to_numbers p facts.prime) σ cs servers lifted (R.ι s)
        ∙ λ t. tau_sum (modulo p) σ cs servers (shares_back t) (back s l t)
