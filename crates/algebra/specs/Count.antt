-- How many numbers, and how many pairs of numbers, pass a test.
-- Assumes nothing.
use Rattle.std.specs.Prelude.{Bool, cond, ℕ, zero, suc, ◌+◌}

-- how many i below n pass t
unfoldable pub count : ℕ → (ℕ → Bool) → ℕ
count zero t = 0
count (suc n) t = count n t + cond (t n) 1 0

-- how many pairs i below n, j below m pass t
unfoldable pub count_pairs : ℕ → ℕ → (ℕ → ℕ → Bool) → ℕ
count_pairs zero m t = 0
count_pairs (suc n) m t = count_pairs n m t + count m (t n)
