-- The bit length of a number below 2^24: the least n with the number below 2^n. Assumes nothing.
use mathlib.Core.Path.{◌≡◌, refl}
use mathlib.Core.Bool.{Bool, true, false, cond}
use Prim.Native.Nat.{ℕ, zero, suc, ◌*◌, ◌^◌, ◌≤◌, ◌<◌}
use native.Mathlib.Nat.{pow-succ'}
use native.Mathlib.Omega.{arith}
use borrow.Author.Tests.{leb-true, leb-false}
use lib.Dec.{leb}
use Rattle.rules.specs.Columns.{length_within, bit_length}

record Within (n v b : ℕ) : Type 0 where
  most : b ≤ n
  above : v < 2 ^ n → v < 2 ^ b
  least : 1 ≤ v → 2 ^ b ≤ 2 * v
  bits : 1 ≤ v → 1 ≤ n → 1 ≤ b

within_length : (n v : ℕ) → Within n v (length_within n v)
unfolding length_within
within_length zero v =
    record { most = omega arith; above = λ h. h; least = λ h. omega arith; bits = λ h k. k }
within_length (suc n) v = go (leb (2 ^ n) v) refl (within_length n v)
  where
    go : (b : Bool) → leb (2 ^ n) v ≡ b → Within n v (length_within n v) → Within (suc n) v (cond b (suc n) (length_within n v))
    go true e r =
        let l : 2 ^ n ≤ v = leb-true _ _ e in
        record { most = omega arith; above = λ h. h; least = λ h. omega (arith, pow-succ' 2 n); bits = λ h k. omega arith }
    go false e r =
        let l : v < 2 ^ n = leb-false _ _ e in
        record {
          most = omega (arith, r.most);
          above = λ h. r.above l;
          least = r.least;
          bits = λ h k. some n l h (r.bits h);
        }
      where
        some : (n : ℕ) → v < 2 ^ n → 1 ≤ v → (1 ≤ n → 1 ≤ length_within n v) → 1 ≤ length_within n v
        some zero l h f = absurd (omega arith)
        some (suc n) l h f = f (omega arith)

pub record BitLength (v : ℕ) : Type 0 where
  pub some_bits : 1 ≤ bit_length v
  pub bits_most : bit_length v ≤ 24
  pub below_power : v < 2 ^ bit_length v
  pub power_least : 2 ^ bit_length v ≤ 2 * v

pub bit_length_lem : (v : ℕ) → 1 ≤ v → v ≤ 16777215 → BitLength v
unfolding bit_length
bit_length_lem v h h' =
    let r = within_length 24 v in
    record {
      some_bits = r.bits h (omega arith);
      bits_most = r.most;
      below_power = r.above (omega arith);
      power_least = r.least h;
    }
