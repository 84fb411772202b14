-- Words at equal steps. Their sum grows by one word each turn, by the definition of `sum`. In joined messages of equal
-- size, the word at a place of each message is a word of the whole at steps of that size (`part_of_part`).
-- Assumes nothing.
use mathlib.Core.Path.{◌≡◌, refl, sym, ap, ◌∙◌}
use mathlib.Core.List.{List}
use Prim.Native.Nat.{ℕ, suc, ◌+◌, ◌*◌, ◌≤◌, ◌<◌}
use native.Mathlib.Nat.{mul-le-mul_left}
use native.Mathlib.Numerals.{add-one}
use native.Mathlib.Omega.{arith}
use lib.ListN.{length}
use Rattle.algebra.specs.Sums.{sum}
use Rattle.algebra.proofs.Sums.{sum_ext}
use Rattle.words.specs.Bytes.{value_of, part}
use Rattle.field.specs.Residues.{prime, residues}
use Rattle.field.proofs.Below.{sum_below}
use Rattle.steps.specs.Words.{word_of, Words, sum_of}
use Rattle.steps.proofs.Parts.{part_of_part}

module _ (s : List ℕ) (step at : ℕ) where
  pub sum_none : 0 ≡ sum_of s step at 0
  unfolding sum_of sum
  sum_none = refl

  pub sum_next : (i : ℕ) → residues.◌⊕◌ (sum_of s step at i) (word_of s step at i) ≡ sum_of s step at (i + 1)
  unfolding sum_of sum
  sum_next i = rw add-one

  pub sum_element : (i : ℕ) → sum_of s step at i < prime
  unfolding sum_of
  sum_element i = sum_below i (word_of s step at)

-- a place before place n ends where place n starts, or earlier
pub place_behind : (size i n : ℕ) → i < n → size * i + size ≤ size * n
place_behind size i n h = let k : size * suc i ≤ size * n = mul-le-mul_left size h in omega arith

-- joined messages of `size` bytes
module _ (size servers : ℕ) (joined : List ℕ) (long : length joined ≡ size * servers) where
  -- message i lies within them
  pub message_within : (i : ℕ) → i < servers → size * i + size ≤ length joined
  message_within i h = omega (arith, place_behind size i servers h)

  -- the words g that stand at a place of each message
  module _ (at : ℕ) (fits : at + 4 ≤ size) (g : ℕ → ℕ)
      (words : (i : ℕ) → i < servers → g i ≡ value_of (part at 4 (part (size * i) size joined))) where
    word_is : (i : ℕ) → i < servers → g i ≡ word_of joined size at i
    word_is i h = words i h ∙ ap value_of (part_of_part at 4 (size * i) size joined fits)

    pub words_sum : sum_of joined size at servers ≡ sum residues servers g
    unfolding sum_of
    words_sum = sum_ext residues servers (word_of joined size at) g (λ i h. sym (word_is i h))

    pub words_within : ((i : ℕ) → i < servers → g i < prime) → Words joined size at servers
    words_within below = record {
      within = λ i h. omega (arith, message_within i h);
      below = λ i h. rw (← word_is i h) (below i h);
    }
