-- A test of each number below n, from the front: what is left of it from number i on, as a loop goes through it and leaves
-- at the first that fails. By the definition of `every` and `count_from`. Assumes nothing.
use mathlib.Core.Path.{◌≡◌}
use mathlib.Core.Bool.{Bool, true, false}
use Prim.Native.Nat.{ℕ, suc, ◌+◌, ◌-◌, ◌≤◌, ◌<◌}
use native.Mathlib.Numerals.{add-one}
use native.Mathlib.Omega.{arith}
use Rattle.algebra.specs.Lists.{every, count_from}
use Rattle.algebra.proofs.Members.{every_all, all_in, count_in_lem}

-- it holds from number i on
abbrev pub from : (ℕ → Bool) → ℕ → ℕ → Bool
from t n i = every t (count_from i (n - i))

pub every_start : (t : ℕ → Bool) (n : ℕ) → every t (count_from 0 n) ≡ from t n 0
every_start t n = let e : n - 0 ≡ n = omega arith in rw e

module _ (t : ℕ → Bool) (n i : ℕ) where
  more : i < n → n - i ≡ suc (n - (i + 1))
  more h = omega arith

  pub every_next : i < n → t i ≡ true → from t n i ≡ from t n (i + 1)
  unfolding every count_from
  every_next h e = rw (more h, e, add-one)

  pub every_not : i < n → t i ≡ false → from t n i ≡ false
  unfolding every count_from
  every_not h e = rw (more h, e)

  pub every_end : n ≤ i → from t n i ≡ true
  unfolding every count_from
  every_end h = let z : n - i ≡ 0 = omega arith in rw z

  -- and each number passes where all do
  pub every_at : every t (count_from 0 n) ≡ true → i < n → t i ≡ true
  every_at e h = all_in i (count_from 0 n) (every_all t (count_from 0 n) e) (count_in_lem 0 n i (omega arith) (omega arith))
