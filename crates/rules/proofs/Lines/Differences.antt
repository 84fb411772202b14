-- The difference of two numbers as a signed number: it is the number that is left, or one below 0, by the order of the two. So it is 0
-- for equal numbers and for these only, and it is no larger than the larger of the two. Assumes nothing.
use mathlib.Core.Path.{◌≡◌, refl, sym, ap, ◌∙◌}
use mathlib.Core.Bool.{Bool, true, false}
use Prim.Native.Nat.{ℕ, zero, suc, ◌+◌, ◌-◌, ◌≤◌, ◌<◌}
use native.Mathlib.Omega.{arith}
use borrow.Author.Tests.{ltb-true, ltb-false, lt-ltb, le-ltb, eqb-true, eqb-false, eq-eqb, ne_eqb}
use lib.Dec.{eqb, ltb}
use lib.IntN.{pos, negsuc, ◌-ℤ◌, sub_ℕ, nat_abs, pos-ne-negsuc}
use lib.Signed.{mag}
use Rattle.rules.specs.Line.{is_zero}

pub minus_is : (a b : ℕ) → pos a -ℤ pos b ≡ sub_ℕ a b
minus_is a zero = rw (le-ltb a 0 (omega arith)) (ap pos (let e : a + 0 ≡ a - 0 = omega arith in e))
minus_is a (suc b) = refl

pub minus_le : (a b : ℕ) → b ≤ a → pos a -ℤ pos b ≡ pos (a - b)
minus_le a b h = minus_is a b ∙ rw (le-ltb a b h)

pub minus_lt : (a b : ℕ) → a < b → pos a -ℤ pos b ≡ negsuc (b - suc a)
minus_lt a b h = minus_is a b ∙ rw (lt-ltb a b h)

-- it is 0 for equal numbers, and for these only
pub minus_same : (a b : ℕ) → a ≡ b → pos a -ℤ pos b ≡ pos 0
minus_same a b e = minus_le a b (omega arith) ∙ ap pos (let z : a - b ≡ 0 = omega arith in z)

pub minus_zero : (a b : ℕ) → pos a -ℤ pos b ≡ pos 0 → a ≡ b
minus_zero a b e = go (ltb a b) refl (sym (minus_is a b) ∙ e)
  where
    go : (t : Bool) → ltb a b ≡ t → sub_ℕ a b ≡ pos 0 → a ≡ b
    go true l z = absurd (pos-ne-negsuc 0 (b - suc a) (sym (rw l at z)))
    go false l z =
        let d : a - b ≡ 0 = ap mag (rw l at z) in
        omega (arith, ltb-false a b l)

pub is_zero_lem : (a b : ℕ) → is_zero (pos a -ℤ pos b) ≡ eqb a b
unfolding is_zero
is_zero_lem a b = rw (minus_is a b) (go (ltb a b) refl (eqb a b) refl)
  where
    go : (t : Bool) → ltb a b ≡ t → (u : Bool) → eqb a b ≡ u → is_zero (sub_ℕ a b) ≡ u
    go true l u e = rw l (sym (ne_eqb a b (λ s. omega (arith, ltb-true a b l))) ∙ e)
    go false l true e = rw l (eq-eqb (a - b) 0 (omega (arith, eqb-true a b e)))
    go false l false e = rw l (ne_eqb (a - b) 0 (λ z. eqb-false a b e (omega (arith, ltb-false a b l))))

-- it is no larger than the larger of the two
pub minus_small : (a b m : ℕ) → a < m → b < m → nat_abs (pos a -ℤ pos b) < m
minus_small a b m h k = rw (minus_is a b) (go (ltb a b) refl)
  where
    go : (t : Bool) → ltb a b ≡ t → nat_abs (sub_ℕ a b) < m
    go true l = rw l (omega (arith, ltb-true a b l))
    go false l = rw l (omega (arith, ltb-false a b l))
