-- The key stream word by word: word i is word i % 16 of block i / 16, and the stream's bytes say these words. Each block is
-- a table of sixteen words, and tables are put together at their ends. Assumes nothing.
use Rattle.std.proofs.Common.{◌≡◌, ℕ, zero, suc, ◌+◌, ◌*◌, ◌/◌, ◌%◌, ◌^◌, ◌<◌, mod-lt, arith, lit<}
use Rattle.std.proofs.Common.{List, ◌++◌, length, get_or, sym, refl, ap, ◌∙◌, ap₂}
use Rattle.algebra.specs.Lists.{tabulate}
use Rattle.algebra.proofs.Members.{all_tabulate}
use Rattle.algebra.proofs.Tables.{length_tabulate, get_d_tabulate, tabulate_append, tabulate_cong, tabulate_get_d}
use Rattle.words.specs.Bytes.{bytes_of_all, elements_of}
use Rattle.words.proofs.Elements.{length_bytes_all, bytes_all_append, elements_bytes}
use Rattle.chacha.specs.Words.{plus}
use Rattle.chacha.specs.ChaCha.{rounds, state, sums, mixed, block, stream}

pub length_mixed : (s : List ℕ) → length (mixed s) ≡ 16
unfolding mixed sums
length_mixed s = length_tabulate _ 16

pub mixed_below : (s : List ℕ) (j : ℕ) → j < 16 → get_or (mixed s) j 0 < 2 ^ 32
unfolding mixed sums plus
mixed_below s j h =
    rw (get_d_tabulate (λ i. plus (get_or (rounds 10 s) i 0) (get_or s i 0)) 16 j 0 h)
    (mod-lt (get_or (rounds 10 s) j 0 + get_or s j 0) (lit< tt))

-- a block of sixteen words is the table of them
table : (s : List ℕ) → tabulate (λ j. get_or (mixed s) j 0) 16 ≡ mixed s
table s = rw (← length_mixed s) (tabulate_get_d 0 (mixed s))

module _ (key nonce : List ℕ) where
  abbrev pub word_at : ℕ → ℕ
  word_at i = get_or (mixed (state key (i / 16) nonce)) (i % 16) 0

  words_next : (m : ℕ) → tabulate word_at (16 * suc m) ≡ tabulate word_at (16 * m) ++ mixed (state key m nonce)
  words_next m =
      let n : 16 * suc m ≡ 16 * m + 16 = omega arith in
      ap (tabulate word_at) n
      ∙ tabulate_append word_at (16 * m) 16
      ∙ ap (◌++◌ (tabulate word_at (16 * m)))
      (tabulate_cong (λ j. word_at (16 * m + j)) (λ j. get_or (mixed (state key m nonce)) j 0) 16 (within m)
      ∙ table (state key m nonce))
    where
      within : (m j : ℕ) → j < 16 → word_at (16 * m + j) ≡ get_or (mixed (state key m nonce)) j 0
      within m j h =
          let q : (16 * m + j) / 16 ≡ m = omega arith in
          let r : (16 * m + j) % 16 ≡ j = omega arith in
          rw (q, r)

  -- the bytes of m blocks are those of their words
  stream_bytes : (m : ℕ) → stream key nonce m ≡ bytes_of_all 4 (tabulate word_at (16 * m))
  unfolding stream block tabulate bytes_of_all
  stream_bytes zero = refl
  stream_bytes (suc m) =
      ap₂ ◌++◌ (stream_bytes m) refl
      ∙ sym (bytes_all_append 4 (tabulate word_at (16 * m)) (mixed (state key m nonce)))
      ∙ ap (bytes_of_all 4) (sym (words_next m))

  pub length_stream : (m : ℕ) → length (stream key nonce m) ≡ 64 * m
  length_stream m =
      ap length (stream_bytes m)
      ∙ length_bytes_all 4 (tabulate word_at (16 * m))
      ∙ ap (λ n. 4 * n) (length_tabulate word_at (16 * m))
      ∙ omega arith

  pub stream_words : (m : ℕ) → elements_of 4 (stream key nonce m) ≡ tabulate word_at (16 * m)
  stream_words m =
      ap (elements_of 4) (stream_bytes m)
      ∙ elements_bytes 4 (lit< tt) (tabulate word_at (16 * m))
      (all_tabulate word_at (16 * m) (λ i h. mixed_below (state key (i / 16) nonce) (i % 16) (mod-lt i (lit< tt))))
