-- Document 02, what a curious server learns: "exactly as many choices of the random elements". How many lists of so many elements pass
-- a test.
-- Assumes nothing.
use Rattle.std.specs.Prelude.{◌≡◌, Bool, true, cond, List, [], ◌∷◌, ℕ, zero, suc, ◌^◌, ◌<◌, length}
use Rattle.algebra.specs.Lists.{All, sum_over, count_from}
use Rattle.words.specs.Bytes.{same_bytes}

-- how many lists of n numbers, each below p, pass t: added up over the first number
unfoldable pub count_choices : ℕ → ℕ → (List ℕ → Bool) → ℕ
count_choices p zero t = cond (t []) 1 0
count_choices p (suc n) t = sum_over (λ z. count_choices p n (λ zs. t (z ∷ zs))) (count_from 0 p)

-- CLAIM: each such list counts once, and there are p ^ n
pub record CountsEach (p n : ℕ) : Type 0 where
  pub once : (zs : List ℕ) → length zs ≡ n → All (λ z. z < p) zs → count_choices p n (same_bytes zs) ≡ 1
  pub all : count_choices p n (λ zs. true) ≡ p ^ n
