-- Checks that pass: a check gives 0 exactly where its test holds, since no refusal has the number 0; and a test of each
-- server. Assumes nothing.
use mathlib.Core.Path.{◌≡◌, refl, sym}
use mathlib.Core.Bool.{Bool, true, false}
use Prim.Native.Nat.{ℕ, suc, ◌<◌}
use native.Mathlib.Omega.{arith}
use Rattle.algebra.specs.Lists.{every, count_from}
use Rattle.algebra.proofs.Members.{every_all, all_every, all_in, in_all, in_count, count_in_lem}
use Rattle.rules.specs.Columns.{check}

pub check_passed : (b : Bool) (n : ℕ) → check b (suc n) ≡ 0 → b ≡ true
check_passed true n e = refl
check_passed false n e = absurd (omega arith)

-- two checks that pass together say the same
pub check_same : (a b : Bool) (n : ℕ) → (check a (suc n) ≡ 0 → check b (suc n) ≡ 0) → (check b (suc n) ≡ 0 → check a (suc n) ≡ 0)
    → check a (suc n) ≡ check b (suc n)
check_same true true n f g = refl
check_same true false n f g = sym (f refl)
check_same false true n f g = g refl
check_same false false n f g = refl

-- a test of each server
module _ (t : ℕ → Bool) (n : ℕ) where
  pub every_at : every t (count_from 0 n) ≡ true → (j : ℕ) → j < n → t j ≡ true
  every_at e j h = all_in j (count_from 0 n) (every_all t (count_from 0 n) e) (count_in_lem 0 n j (omega arith) (omega arith))

  pub at_every : ((j : ℕ) → j < n → t j ≡ true) → every t (count_from 0 n) ≡ true
  at_every h =
      all_every t (count_from 0 n) (in_all (count_from 0 n) (λ j k. (let b = in_count 0 n j k in h j (omega arith))))
