-- Decimal digits: a number below 10 is one, another is the digits of its tenth and then one more; at most as many as the
-- bound on their number, which does not matter where it is enough. By the bound. Assumes nothing.
use mathlib.Core.Path.{◌≡◌, refl, ap, ◌∙◌}
use mathlib.Core.Bool.{Bool, true, false}
use mathlib.Core.List.{[], ◌∷◌, ◌++◌}
use Prim.Native.Nat.{ℕ, zero, suc, ◌+◌, ◌*◌, ◌/◌, ◌%◌, ◌^◌, ◌≤◌, ◌<◌}
use native.Mathlib.Nat.{pow-succ'}
use native.Mathlib.Omega.{arith}
use borrow.Author.Tests.{ltb-true, ltb-false, lt-ltb, le-ltb}
use lib.Dec.{ltb}
use lib.ListN.{length, length-append}
use Rattle.rules.specs.Recount.{decimal_from, decimal}

module _ (k n : ℕ) where
  digit_one : n < 10 → decimal_from (suc k) n ≡ (48 + n) ∷ []
  unfolding decimal_from
  digit_one h = rw (lt-ltb n 10 h, decimal_from)

  digit_more : 10 ≤ n → decimal_from (suc k) n ≡ decimal_from k (n / 10) ++ ((48 + n % 10) ∷ [])
  unfolding decimal_from
  digit_more h = rw (le-ltb n 10 h, decimal_from)

-- below 10 or not
apart : {P : Type 0} (n : ℕ) → (n < 10 → P) → (10 ≤ n → P) → P
apart {P} n few many = by (ltb n 10) refl
  where
    by : (b : Bool) → ltb n 10 ≡ b → P
    by true e = few (ltb-true n 10 e)
    by false e = many (ltb-false n 10 e)

-- at most k digits
digits_most : (k n : ℕ) → length (decimal_from k n) ≤ k
unfolding decimal_from
digits_most zero n = omega arith
digits_most (suc k) n =
    let l = digits_most k (n / 10) in
    apart n (λ h. rw (digit_one k n h) (omega arith)) (λ h. rw (digit_more k n h, length-append) (omega arith))

-- a bound that is enough can be one more
one_more_lem : (k n : ℕ) → n < 10 ^ suc k → decimal_from (suc k) n ≡ decimal_from (suc (suc k)) n
one_more_lem zero n h = let s : n < 10 = h in rw (digit_one 0 n s, digit_one 1 n s)
one_more_lem (suc k) n h =
    let p : 10 ^ suc (suc k) ≡ 10 * 10 ^ suc k = pow-succ' 10 (suc k) in
    let e = one_more_lem k (n / 10) (omega arith) in
    apart n (λ s. rw (digit_one (suc k) n s, digit_one (suc (suc k)) n s))
    (λ m. rw (digit_more (suc k) n m, digit_more (suc (suc k)) n m, e))

pub decimal_most : (n : ℕ) → length (decimal n) ≤ 20
decimal_most n = digits_most 20 n

pub decimal_one : (n : ℕ) → n < 10 → decimal n ≡ (48 + n) ∷ []
decimal_one n h = digit_one 19 n h

pub decimal_more : (n : ℕ) → 10 ≤ n → n < 4294967296 → decimal n ≡ decimal (n / 10) ++ ((48 + n % 10) ∷ [])
decimal_more n h small = digit_more 19 n h ∙ rw (one_more_lem 18 (n / 10) (omega arith))

-- the digits of a tenth leave room for one more
pub tenth_most : (n : ℕ) → 10 ≤ n → n < 4294967296 → length (decimal (n / 10)) ≤ 19
tenth_most n h small =
    let l : length (decimal n) ≡ length (decimal (n / 10)) + 1
    = ap length (decimal_more n h small) ∙ length-append (decimal (n / 10)) ((48 + n % 10) ∷ []) in
    omega (arith, decimal_most n)
