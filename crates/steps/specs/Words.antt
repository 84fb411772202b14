-- Words of four bytes that stand in a run at equal steps.
-- Assumes nothing.
use Rattle.std.specs.Prelude.{List, ℕ, ◌+◌, ◌*◌, ◌≤◌, ◌<◌, length}
use Rattle.algebra.specs.Sums.{sum}
use Rattle.words.specs.Bytes.{value_of, part}
use Rattle.field.specs.Residues.{prime, residues}

-- word i stands at step * i + at
abbrev pub word_of : List ℕ → ℕ → ℕ → ℕ → ℕ
word_of s step at i = value_of (part (step * i + at) 4 s)

-- n words lie within s, and each is an element
pub record Words (s : List ℕ) (step at n : ℕ) : Type 0 where
  pub within : (i : ℕ) → i < n → step * i + at + 4 ≤ length s
  pub below : (i : ℕ) → i < n → word_of s step at i < prime

unfoldable pub sum_of : List ℕ → ℕ → ℕ → ℕ → ℕ
sum_of s step at n = sum residues n (word_of s step at)
