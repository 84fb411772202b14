-- The greatest N that opens. No total can reach p exactly where N times the largest value of all columns is below p, so what
-- fits N fits fewer; a search from above then finds the greatest, which is also a quotient. Assumes nothing.
use mathlib.Core.Path.{◌≡◌, refl}
use mathlib.Core.Bool.{Bool, true, false, cond}
use mathlib.Core.List.{List, [], ◌∷◌}
use Prim.Native.Nat.{ℕ, zero, suc, ◌-◌, ◌*◌, ◌/◌, ◌≤◌, ◌<◌, min}
use native.Mathlib.Nat.{mul-le-mul_left, mul-le-mul_right, le-max_left, le-max_right, le-div_iff_mul-le}
use native.Mathlib.Omega.{arith, max_cases}
use borrow.Author.Tests.{lt-ltb, ltb-true}
use lib.Dec.{ltb}
use Rattle.algebra.specs.Lists.{every}
use Rattle.algebra.proofs.Members.{and_left, and_right, and-true}
use Rattle.rules.specs.Settings.{Setting}
use Rattle.rules.specs.Columns.{Column, largest_of, largest_in, totals_fit}
use Rattle.rules.specs.Sizes.{greatest_up_to}

module _ (σ : Setting) (some : 0 < σ.modulus) where
  -- ---- N by the largest value of all columns
  abbrev Fits : ℕ → List Column → Type 0
  Fits n cs = n * largest_in cs < σ.modulus

  pub fits_largest : (n : ℕ) (cs : List Column) → totals_fit σ n cs ≡ true → Fits n cs
  unfolding totals_fit every largest_in
  fits_largest n [] f = omega arith
  fits_largest n (c ∷ cs) f =
      let one : n * largest_of c < σ.modulus
      = ltb-true _ _ (and_left (ltb (n * largest_of c) σ.modulus) (totals_fit σ n cs) f) in
      let rest : Fits n cs = fits_largest n cs (and_right (ltb (n * largest_of c) σ.modulus) (totals_fit σ n cs) f) in
      max_cases (largest_of c) (largest_in cs) _ (λ l e. rw e rest) (λ l e. rw e one)

  pub largest_fits : (n : ℕ) (cs : List Column) → Fits n cs → totals_fit σ n cs ≡ true
  unfolding totals_fit every largest_in
  largest_fits n [] f = refl
  largest_fits n (c ∷ cs) f =
      let one = mul-le-mul_left n (le-max_left (largest_of c) (largest_in cs)) in
      let rest = mul-le-mul_left n (le-max_right (largest_of c) (largest_in cs)) in
      and-true (ltb (n * largest_of c) σ.modulus) (totals_fit σ n cs)
      (lt-ltb (n * largest_of c) σ.modulus (omega arith)) (largest_fits n cs (omega arith))

  -- ---- the search from above
  module _ (cs : List Column) where
    abbrev greatest : ℕ → ℕ
    greatest = greatest_up_to σ cs

    pub greatest_most : (m : ℕ) → greatest m ≤ m
    unfolding greatest_up_to
    greatest_most zero = omega arith
    greatest_most (suc m) = go (totals_fit σ (suc m) cs) (greatest_most m)
      where
        go : (b : Bool) → greatest m ≤ m → cond b (suc m) (greatest m) ≤ suc m
        go true h = omega arith
        go false h = omega arith

    pub greatest_fits : (m : ℕ) → Fits (greatest m) cs
    unfolding greatest_up_to
    greatest_fits zero = omega arith
    greatest_fits (suc m) = go (totals_fit σ (suc m) cs) refl (greatest_fits m)
      where
        go : (b : Bool) → totals_fit σ (suc m) cs ≡ b → Fits (greatest m) cs → Fits (cond b (suc m) (greatest m)) cs
        go true e f = fits_largest (suc m) cs e
        go false e f = f

    pub greatest_reached : (m n : ℕ) → n ≤ m → Fits n cs → n ≤ greatest m
    unfolding greatest_up_to
    greatest_reached zero n h f = h
    greatest_reached (suc m) n h f = go (totals_fit σ (suc m) cs) refl (λ l. greatest_reached m n l f)
      where
        other : totals_fit σ (suc m) cs ≡ false → n ≡ suc m → ⊥
        other e q =
            let t : totals_fit σ n cs ≡ true = largest_fits n cs f in
            let z : ◌≡◌ {A = ℕ} 0 1 = cc in
            omega arith

        go : (b : Bool) → totals_fit σ (suc m) cs ≡ b → (n ≤ m → n ≤ greatest m) → n ≤ cond b (suc m) (greatest m)
        go true e r = h
        go false e r = let o = other e in r (omega arith)

    -- fewer fit too
    pub fewer_fit : (m n : ℕ) → n ≤ greatest m → Fits n cs
    fewer_fit m n h =
        let f : Fits (greatest m) cs = greatest_fits m in
        let l = mul-le-mul_right (largest_in cs) h in
        omega arith

    -- as a quotient
    pub greatest_is : (m : ℕ) → 0 < largest_in cs → greatest m ≡ min m ((σ.modulus - 1) / largest_in cs)
    greatest_is m h =
        let q : ℕ = (σ.modulus - 1) / largest_in cs in
        let f : Fits (greatest m) cs = greatest_fits m in
        let upper : greatest m ≤ q = (le-div_iff_mul-le h).1 (omega arith) in
        let at : min m q * largest_in cs ≤ σ.modulus - 1 = (le-div_iff_mul-le h).0 (omega arith) in
        let lower : min m q ≤ greatest m = greatest_reached m (min m q) (omega arith) (omega arith) in
        omega (arith, greatest_most m)
