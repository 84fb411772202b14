-- The words that the random bytes hold of element e: word i stands 4 * size * i bytes behind that of the first of the other
-- servers, and is element 4 + i * size + e. Assumes nothing.
use mathlib.Core.Path.{◌≡◌, sym, ap, ◌∙◌}
use mathlib.Core.List.{List}
use Prim.Native.Nat.{ℕ, suc, ◌+◌, ◌*◌, ◌≤◌, ◌<◌}
use native.Mathlib.Nat.{mul-le-mul_left}
use native.Mathlib.Omega.{arith}
use lib.Dec.{lit<}
use lib.ListN.{length, get_or}
use Rattle.algebra.specs.Sums.{sum}
use Rattle.algebra.proofs.Sums.{sum_ext}
use Rattle.words.specs.Bytes.{value_of, part, elements_of}
use Rattle.words.proofs.Elements.{element_within}
use Rattle.field.specs.Residues.{residues}
use Rattle.field.proofs.Below.{member_below}
use Rattle.steps.specs.Words.{word_of, Words, sum_of}
use Rattle.client.specs.Pieces.{Random}

module _ {random : List ℕ} {others size : ℕ} (r : Random random others size) (e : ℕ) (h : e < size) where
  -- share i lies within the random bytes
  within : (i : ℕ) → i < others → 4 * size * i + (16 + 4 * e) + 4 ≤ length random
  within i l =
      let k : size * suc i ≤ size * others = mul-le-mul_left size l in
      omega (arith, r.long)

  pub random_word : (i : ℕ) → i < others → word_of random (4 * size) (16 + 4 * e) i ≡ get_or (elements_of 4 random) (4 + i * size + e) 0
  random_word i l =
      let q : 4 * size * i + (16 + 4 * e) ≡ 4 * (4 + i * size + e) = omega arith in
      let f : 4 * (4 + i * size + e) + 4 ≤ length random = omega (arith, within i l) in
      ap (λ (n : ℕ). value_of (part n 4 random)) q ∙ sym (element_within 4 (lit< tt) random (4 + i * size + e) f)

  pub random_words : Words random (4 * size) (16 + 4 * e) others
  random_words = record {
    within = within;
    below = λ i l. rw (random_word i l) (member_below (elements_of 4 random) (4 + i * size + e) r.elements);
  }

  pub random_sum : sum_of random (4 * size) (16 + 4 * e) others
      ≡ sum residues others (λ i. get_or (elements_of 4 random) (4 + i * size + e) 0)
  unfolding sum_of
  random_sum = sum_ext residues others _ _ random_word
