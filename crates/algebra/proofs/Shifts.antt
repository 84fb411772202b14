-- Values that differ by d at the point 0 and by c at the points 1, .., n: their polynomials differ by the one through
-- these differences, which is the constant c and d - c times the basis of the point 0. Interpolation adds up, and the
-- one of a constant is that constant. Assumes nothing.
use mathlib.Core.Path.{◌≡◌, sym, ◌∙◌, ap, ap₂}
use mathlib.Core.Logic.{◌≢◌}
use Prim.Native.Nat.{ℕ, zero, suc, ◌<◌, ◌≤◌}
use native.Mathlib.Omega.{arith}
use Rattle.algebra.specs.Ops.{Ops, Field, Hom, minus}
use Rattle.algebra.specs.Modulo.{modulo}
use Rattle.algebra.specs.Prime.{Prime}
use Rattle.algebra.specs.Interpolation.{ascending, others, weight, basis, interpolate}
use Rattle.algebra.specs.Claims.{Apart}
use Rattle.algebra.proofs.Ring.{ring, mul-one, zero-mul}
use Rattle.algebra.proofs.Residues.{residues, to_numbers, value_of, points_apart}
use Rattle.algebra.proofs.Sums.{sum_first}
use Rattle.algebra.proofs.Polynomial.{poly_const}
use Rattle.algebra.proofs.Homs.{ascending_hom, weight_hom, basis_hom}
use Rattle.algebra.proofs.Interpolation.{interpolate_add, interpolate_at, interpolate_ext, interpolate_of}
use Rattle.algebra.proofs.Weights.{others_whole}

-- the polynomial of degree at most n that is d at 0 and c at 1, .., n, at x
abbrev pub shift : (O : Ops) → ℕ → O.F → O.F → O.F → O.F
shift O n d c x = O.◌⊕◌ c (O.◌⊗◌ (minus O d c) (basis O n 0 x))

-- ---- in a field
module _ (𝓕 : Field) where
  open 𝓕.ops use {F, ◌⊕◌, ◌⊗◌, neg, 𝟘, 𝟙, inv, ι}

  infixl 65 ◌⊕◌
  infixl 70 ◌⊗◌
  abbrev O : Ops
  O = 𝓕.ops

  id_difference : (c d : F) → c ⊕ (d ⊕ neg c) ≡ d
  id_difference c d = simp ring

  id_no_difference : (c : F) → c ⊕ 𝟘 ≡ c
  id_no_difference c = simp ring

  id_beyond : (c k w o t i : F) → c ⊕ k ⊗ (w ⊗ o) ⊗ (t ⊗ i) ≡ k ⊗ w ⊗ (o ⊗ t ⊗ i) ⊕ c
  id_beyond c k w o t i = simp ring

  id_minus_zero : (x : F) → x ⊕ neg 𝟘 ≡ x
  id_minus_zero x = simp ring

  -- a at the point 0, b at the others
  abbrev apart_from : F → F → ℕ → F
  apart_from a b zero = a
  apart_from a b (suc j) = b

  first_only_lem : (n : ℕ) (a x : F) → interpolate O n (apart_from a 𝟘) x ≡ a ⊗ basis O n 0 x
  unfolding interpolate
  first_only_lem n a x = sum_first 𝓕 (suc n) _ (omega arith) (λ i. zero-mul 𝓕 _)

  module _ (n : ℕ) (apart : Apart 𝓕 (suc n) ι) where
    pub interpolate_constant : (c x : F) → interpolate O n (λ j. c) x ≡ c
    interpolate_constant c = interpolate_of 𝓕 n apart (poly_const 𝓕 n c)

    shift_is : (d c x : F) → interpolate O n (apart_from d c) x ≡ shift O n d c x
    shift_is d c x =
        interpolate_ext 𝓕 n (apart_from d c) (λ j. c ⊕ apart_from (minus O d c) 𝟘 j) x each
        ∙ interpolate_add 𝓕 n (λ j. c) (apart_from (minus O d c) 𝟘) x
        ∙ ap₂ ◌⊕◌ (interpolate_constant c x) (first_only_lem n (minus O d c) x)
      where
        each : (j : ℕ) → j ≤ n → apart_from d c j ≡ c ⊕ apart_from (minus O d c) 𝟘 j
        each zero h = sym (id_difference c d)
        each (suc j) h = sym (id_no_difference c)

    -- the values z are the values y with d added at 0 and c at the other points
    pub interpolate_shifted : (y z : ℕ → F) (d c x : F) → z 0 ≡ y 0 ⊕ d → ((j : ℕ) → j < n → z (suc j) ≡ y (suc j) ⊕ c)
        → interpolate O n z x ≡ interpolate O n y x ⊕ shift O n d c x
    interpolate_shifted y z d c x e q =
        interpolate_ext 𝓕 n z (λ j. y j ⊕ apart_from d c j) x each
        ∙ interpolate_add 𝓕 n y (apart_from d c) x
        ∙ ap (interpolate O n y x ⊕◌) (shift_is d c x)
      where
        each : (j : ℕ) → j ≤ n → z j ≡ y j ⊕ apart_from d c j
        each zero h = e
        each (suc j) h = q j (omega arith)

    -- at the points, and at t beyond them by the inverse of t
    pub shift_first : (d c : F) → shift O n d c (ι 0) ≡ d
    shift_first d c = sym (shift_is d c (ι 0)) ∙ interpolate_at 𝓕 n apart (apart_from d c) 0 (omega arith)

    pub shift_other : (d c : F) (j : ℕ) → j < n → shift O n d c (ι (suc j)) ≡ c
    shift_other d c j h =
        sym (shift_is d c (ι (suc j))) ∙ interpolate_at 𝓕 n apart (apart_from d c) (suc j) (omega arith)

  pub shift_beyond : (n : ℕ) (d c x : F) → x ≢ 𝟘
      → shift O n d c x ≡ minus O d c ⊗ weight O n 0 ⊗ (ascending O 0 (suc n) x ⊗ inv x) ⊕ c
  unfolding basis
  shift_beyond n d c x nz =
      ap (c ⊕◌) (sym (mul-one 𝓕 _) ∙ ap (minus O d c ⊗ basis O n 0 x ⊗◌) (sym (𝓕.mul_inv x nz)))
      ∙ id_beyond c (minus O d c) (weight O n 0) (others O n 0 x) x (inv x)
      ∙ ap (λ t. minus O d c ⊗ weight O n 0 ⊗ (t ⊗ inv x) ⊕ c)
      (ap (others O n 0 x ⊗◌) (sym (id_minus_zero x) ∙ ap (λ t. x ⊕ neg t) (sym 𝓕.law_ι_zero))
      ∙ others_whole 𝓕 n 0 x (omega arith))

-- ---- with numbers modulo p
module _ (p : ℕ) (prime : Prime p) (n : ℕ) (few : n < p) where
  abbrev N : Ops
  N = modulo p

  abbrev E : Field
  E = residues p prime

  abbrev values : Hom E.ops N
  values = to_numbers p prime

  abbrev up : ℕ → E.ops.F
  up = E.ops.ι

  apart : Apart E (suc n) up
  apart i j hi hj ne = points_apart p prime i j (omega arith) (omega arith) ne

  back : {a : ℕ} → a < p → values.φ (up a) ≡ a
  back {a} h = value_of p prime a h

  minus_back : {a b : ℕ} → a < p → b < p → values.φ (minus E.ops (up a) (up b)) ≡ minus N a b
  minus_back h k = values.add _ _ ∙ ap₂ N.◌⊕◌ (back h) (values.opp _ ∙ ap N.neg (back k))

  shift_back : (d : E.ops.F) (e c t : ℕ) → values.φ d ≡ e → c < p → t < p
      → values.φ (shift E.ops n d (up c) (up t)) ≡ shift N n e c t
  shift_back d e c t q hc ht =
      values.add _ _
      ∙ ap₂ N.◌⊕◌ (back hc)
      (values.mul _ _
      ∙ ap₂ N.◌⊗◌ (values.add _ _ ∙ ap₂ N.◌⊕◌ q (values.opp _ ∙ ap N.neg (back hc)))
      (basis_hom values n 0 (up t) ∙ ap (basis N n 0) (back ht)))

  -- at the points
  pub number_first : (d c : ℕ) → d < p → c < p → shift N n d c 0 ≡ d
  number_first d c hd hc =
      sym (shift_back (up d) d c 0 (back hd) hc (omega arith)) ∙ ap values.φ (shift_first E n apart (up d) (up c)) ∙ back hd

  pub number_other : (d c j : ℕ) → d < p → c < p → j < n → shift N n d c (suc j) ≡ c
  number_other d c j hd hc h =
      sym (shift_back (up d) d c (suc j) (back hd) hc (omega arith))
      ∙ ap values.φ (shift_other E n apart (up d) (up c) j h)
      ∙ back hc

  -- away from 0
  pub number_beyond : (d c t : ℕ) → d < p → c < p → t < p → 0 < t
      → N.◌⊕◌ (N.◌⊗◌ (N.◌⊗◌ (minus N d c) (weight N n 0)) (N.◌⊗◌ (ascending N 0 (suc n) t) (N.inv t))) c
      ≡ shift N n d c t
  number_beyond d c t hd hc ht some =
      sym
      (sym (shift_back (up d) d c t (back hd) hc ht)
      ∙ ap values.φ (shift_beyond E n (up d) (up c) (up t) not_zero)
      ∙ values.add _ _
      ∙ ap₂ N.◌⊕◌
      (values.mul _ _
      ∙ ap₂ N.◌⊗◌
      (values.mul _ _ ∙ ap₂ N.◌⊗◌ (minus_back hd hc) (weight_hom values n 0))
      (values.mul _ _
      ∙ ap₂ N.◌⊗◌
      (ascending_hom values 0 (suc n) (up t) ∙ ap (ascending N 0 (suc n)) (back ht))
      (values.rec _ ∙ ap N.inv (back ht))))
      (back hc))
    where
      not_zero : up t ≢ E.ops.𝟘
      not_zero e = points_apart p prime t 0 ht (omega arith) (omega arith) (e ∙ sym E.law_ι_zero)
