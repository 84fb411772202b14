-- The count from list to list: in list k the value is a digit of k, k / behind % values. With `turns` rounds of all values done,
-- k and the lists left make a whole number of values, and each step keeps this. Assumes nothing.
use mathlib.Core.Path.{◌≡◌, refl, sym, ap, ◌∙◌}
use mathlib.Core.Bool.{Bool, true, false, cond}
use Prim.Native.Nat.{ℕ, zero, suc, ◌+◌, ◌-◌, ◌*◌, ◌/◌, ◌%◌, ◌≤◌, ◌<◌}
use native.Mathlib.Nat.{mul-add-div, div-eq_of_lt, mod-eq_of_lt, add-mul-mod_self_left}
use native.Mathlib.Omega.{arith}
use borrow.Author.Tests.{ltb-true, ltb-false}
use lib.Dec.{ltb}
use Rattle.every_return.specs.declared.Count.{Count}
use Rattle.every_return.specs.Listing.{next_count}

-- a digit that counts by m and goes to n is the same n * m later
pub digit_again : (n m k q : ℕ) → (n * m * q + k) / m % n ≡ k / m % n
digit_again n zero k q = ap (λ (t : ℕ). t / 0 % n) (let e : n * 0 * q + k ≡ k = omega arith in e)
digit_again n (suc m) k q =
    ap (λ (t : ℕ). t / suc m % n) (let e : n * suc m * q + k ≡ suc m * (n * q) + k = omega arith in e)
    ∙ ap (λ (t : ℕ). t % n) (mul-add-div (omega arith) (n * q) k)
    ∙ ap (λ (t : ℕ). t % n) (let e : n * q + k / suc m ≡ k / suc m + n * q = omega arith in e)
    ∙ add-mul-mod_self_left (k / suc m) n q

-- number m v + i, for i below m, starts with v
pub digit_is : (n m v i : ℕ) → v < n → i < m → (m * v + i) / m % n ≡ v
digit_is n m v i h k =
    ap (λ (t : ℕ). t % n) (mul-add-div (omega arith) v i ∙ ap (v +◌) (div-eq_of_lt k))
    ∙ ap (λ (t : ℕ). t % n) (let e : v + 0 ≡ v = omega arith in e)
    ∙ mod-eq_of_lt h

-- what the count says in list k
pub record Counted (behind values k : ℕ) (c : Count) : Type 0 where
  pub turns : ℕ
  pub sum_is : k + c.left ≡ behind * (values * turns + c.value + 1)
  pub value_low : c.value < values
  pub left_some : 1 ≤ c.left
  pub left_most : c.left ≤ behind

module _ (behind values : ℕ) where
  pub count_start : 0 < behind → 0 < values → Counted behind values 0 (record { value = 0; left = behind })
  count_start b v =
      record { turns = 0; sum_is = omega arith; value_low = v; left_some = b; left_most = omega arith }

  pub count_next : (k : ℕ) (c : Count) → Counted behind values k c → Counted behind values (k + 1) (next_count behind values c)
  unfolding next_count
  count_next k c h = by_left (ltb 1 c.left) refl
    where
      by_value : c.left ≡ 1 → (b : Bool) → ltb (c.value + 1) values ≡ b
          → Counted behind values (k + 1)
          (cond b (record { value = c.value + 1; left = behind }) (record { value = 0; left = behind }))
      by_value one true e =
          record {
            turns = h.turns;
            sum_is = omega (arith, h.sum_is, one);
            value_low = ltb-true (c.value + 1) values e;
            left_some = omega (arith, h.left_some, h.left_most);
            left_most = omega arith;
          }
      by_value one false e =
          let last : values ≡ c.value + 1 = omega (arith, ltb-false (c.value + 1) values e, h.value_low) in
          let times : behind * values ≡ behind * (c.value + 1) = ap (λ (t : ℕ). behind * t) last in
          record {
            turns = suc h.turns;
            sum_is = omega (arith, h.sum_is, one, times);
            value_low = omega (arith, last);
            left_some = omega (arith, h.left_some, h.left_most);
            left_most = omega arith;
          }

      by_left : (b : Bool) → ltb 1 c.left ≡ b
          → Counted behind values (k + 1)
          (cond b (record { value = c.value; left = c.left - 1 })
          (cond (ltb (c.value + 1) values) (record { value = c.value + 1; left = behind }) (record { value = 0; left = behind })))
      by_left true e =
          let more = ltb-true 1 c.left e in
          record {
            turns = h.turns;
            sum_is = omega (arith, h.sum_is, more);
            value_low = h.value_low;
            left_some = omega (arith, more);
            left_most = omega (arith, h.left_most);
          }
      by_left false e =
          by_value (omega (arith, ltb-false 1 c.left e, h.left_some)) (ltb (c.value + 1) values) refl

  pub count_value : (k : ℕ) (c : Count) → Counted behind values k c → c.value ≡ k / behind % values
  count_value k c h =
      let split : k ≡ values * behind * h.turns + (behind * c.value + (behind - c.left))
      = omega (arith, h.sum_is, h.left_most) in
      rw split
      (sym
      (digit_again values behind (behind * c.value + (behind - c.left)) h.turns
      ∙ digit_is values behind c.value (behind - c.left) h.value_low (omega (arith, h.left_some, h.left_most))))
