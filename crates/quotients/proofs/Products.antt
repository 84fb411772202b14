-- The members of a list of inverses, and products of several of them: what is multiplied first does not matter.
-- Assumes nothing.
use mathlib.Core.Path.{◌≡◌, refl, sym, ap, ◌∙◌}
use mathlib.Core.List.{List}
use Prim.Native.Nat.{ℕ, suc, ◌+◌, ◌-◌, ◌*◌, ◌/◌, ◌%◌, ◌<◌}
use native.Mathlib.Nat.{mod-eq_of_lt}
use native.Mathlib.Omega.{arith}
use lib.ListN.{length, get_or}
use Rattle.algebra.specs.Sums.{product}
use Rattle.algebra.proofs.Remainders.{mul_mod_mod, mod_mul_mod}
use Rattle.algebra.proofs.Tables.{get_d_tabulate}
use Rattle.field.specs.Residues.{prime, residues}
use Rattle.field.proofs.Below.{product_below, inverse_below}
use Rattle.quotients.specs.Factorials.{Inverses, inverse_factorial}

abbrev pub times : ℕ → ℕ → ℕ
times = residues.◌⊗◌

module _ (s : List ℕ) (are : Inverses s) where
  pub member_is : (i k : ℕ) → i < length s → suc i ≡ k → get_or s i 0 ≡ residues.inv k
  member_is i k h e =
      ap (λ (l : List ℕ). get_or l i 0) are
      ∙ get_d_tabulate (λ i. residues.inv (suc i)) (length s) i 0 h
      ∙ ap residues.inv e

  pub member_low : (i : ℕ) → i < length s → get_or s i 0 < prime
  member_low i h = rw (member_is i (suc i) h refl) (inverse_below (suc i))

pub times_times : (a b c : ℕ) → times a (times b c) ≡ times (times a b) c
times_times a b c =
    let e : a * (b * c) ≡ a * b * c = omega arith in
    mul_mod_mod a (b * c) prime ∙ ap (λ (z : ℕ). z % prime) e ∙ sym (mod_mul_mod (a * b) c prime)

-- 1 over a factorial, and the next
pub over_none : 1 ≡ inverse_factorial 0
unfolding product
over_none = refl

pub over_next : (j k : ℕ) → suc j ≡ k → times (inverse_factorial j) (residues.inv k) ≡ inverse_factorial k
unfolding product
over_next j k e = ap (λ (t : ℕ). times (inverse_factorial j) (residues.inv t)) (sym e) ∙ ap inverse_factorial e

pub over_low : {x : ℕ} (j : ℕ) → x ≡ inverse_factorial j → x < prime
over_low j e = rw e (product_below j (λ i. residues.inv (suc i)))

-- 1 over (i + 1) (i + 2) (i + 3) (i + 4)
abbrev inverse_of_four : ℕ → ℕ
inverse_of_four i =
    residues.◌⊗◌
    (residues.◌⊗◌ (residues.inv (i + 1)) (residues.inv (i + 2)))
    (residues.◌⊗◌ (residues.inv (i + 3)) (residues.inv (i + 4)))

pub over_four : (i : ℕ) → times (inverse_factorial i) (inverse_of_four i) ≡ inverse_factorial (i + 4)
over_four i =
    let o = inverse_factorial i in
    let a = residues.inv (i + 1) in
    let b = residues.inv (i + 2) in
    let c = residues.inv (i + 3) in
    let d = residues.inv (i + 4) in
    times_times o (times a b) (times c d)
    ∙ times_times (times o (times a b)) c d
    ∙ ap (λ (t : ℕ). times (times t c) d) (times_times o a b)
    ∙ ap (λ (t : ℕ). times (times (times t b) c) d) (over_next i (i + 1) (omega arith))
    ∙ ap (λ (t : ℕ). times (times t c) d) (over_next (i + 1) (i + 2) (omega arith))
    ∙ ap (λ (t : ℕ). times t d) (over_next (i + 2) (i + 3) (omega arith))
    ∙ over_next (i + 3) (i + 4) (omega arith)

-- the two halves of an odd n
pub odd_halves : (n : ℕ) → (n % 2 ≡ 0 → ⊥) → suc (n / 2) ≡ n - n / 2
odd_halves n h = omega arith

pub negative : (x : ℕ) → 0 < x → prime - x ≡ residues.neg x
negative x h =
    let l : prime - x < prime = omega arith in
    sym (mod-eq_of_lt l)
