-- The difference of two numbers below 2^62 in the bits of an i64: it fits, so that what is stored is read back. Assumes nothing.
use mathlib.Core.Path.{◌≡◌, refl, sym, ap, ◌∙◌}
use mathlib.Core.Bool.{Bool, true, false}
use Prim.Native.Nat.{ℕ, ◌<◌, ◌^◌}
use native.Mathlib.Omega.{arith}
use borrow.Author.Tests.{ltb-true, ltb-false, lt-ltb, ne_eqb}
use lib.Dec.{ltb}
use lib.IntN.{ℤ, pos, ◌-ℤ◌, sub_ℕ}
use lib.Signed.{mag}
use mir.Syntax.{w64}
use mir.Val.{SFits, to_z, of_z}
use mir.Facts.{to_z-of_z}
use Rattle.rules.specs.Line.{is_zero}
use Rattle.rules.proofs.Lines.Differences.{minus_is, minus_same, is_zero_lem}

pub low_bits : (a : ℕ) → a < 2 ^ 62 → to_z w64 a ≡ pos a
low_bits a h = rw (lt-ltb a (2 ^ 63) (omega arith))

pub minus_fits : (a b : ℕ) → a < 2 ^ 62 → b < 2 ^ 62 → SFits w64 (pos a -ℤ pos b)
minus_fits a b h k = rw (minus_is a b) (record { sfits = go (ltb a b) refl })
  where
    go : (t : Bool) → ltb a b ≡ t → mag (sub_ℕ a b) < 2 ^ 63
    go true l = rw l (omega (arith, ltb-true a b l))
    go false l = rw l (omega (arith, ltb-false a b l))

-- what is stored is read back
pub read_back : (a b : ℕ) → a < 2 ^ 62 → b < 2 ^ 62 → {z : ℤ} → z ≡ pos a -ℤ pos b → to_z w64 (of_z w64 z) ≡ pos a -ℤ pos b
read_back a b h k e = rw e (to_z-of_z (minus_fits a b h k))

-- its bits are 0 exactly where it is 0
pub bits_none : (a b : ℕ) → a < 2 ^ 62 → b < 2 ^ 62 → of_z w64 (pos a -ℤ pos b) ≡ 0 → is_zero (pos a -ℤ pos b) ≡ true
unfolding is_zero
bits_none a b h k e =
    let z : pos a -ℤ pos b ≡ pos 0 = sym (to_z-of_z (minus_fits a b h k)) ∙ ap (to_z w64) e ∙ low_bits 0 (omega arith) in
    rw z

pub bits_some : (a b : ℕ) → (of_z w64 (pos a -ℤ pos b) ≡ 0 → ⊥) → is_zero (pos a -ℤ pos b) ≡ false
bits_some a b n = is_zero_lem a b ∙ ne_eqb a b (λ e. n (ap (of_z w64) (minus_same a b e)))
