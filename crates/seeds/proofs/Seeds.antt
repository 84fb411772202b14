-- The elements of a seed, one by one: element i is that of word i of the key stream. Assumes the lengths of seed and nonce.
use mathlib.Core.Path.{◌≡◌, refl, sym, ap, ◌∙◌}
use mathlib.Core.List.{List, map}
use Prim.Native.Nat.{ℕ, ◌+◌, ◌-◌, ◌*◌, ◌/◌, ◌%◌, ◌≤◌}
use native.Mathlib.Omega.{arith}
use lib.ListN.{length, get_or, take, replicate}
use lib.Seq.{take_at}
use Rattle.algebra.specs.Lists.{tabulate}
use Rattle.algebra.proofs.Tables.{length_tabulate, tabulate_append, tabulate_cong, map_tabulate}
use Rattle.words.specs.Bytes.{bytes_of, splice}
use Rattle.chacha.specs.ChaCha.{state, mixed}
use Rattle.chacha.proofs.States.{state_count}
use Rattle.chacha.proofs.Streams.{word_at, stream_words}
use Rattle.rules.specs.Settings.{document01}
use Rattle.rules.specs.Seeds.{nonce_of, element_of, seed_elements}
use Rattle.seeds.specs.Filling.{streamed}

-- twelve zero bytes with the id put at their front
pub nonce_written : (id : ℕ) → splice (replicate 12 0) 0 (bytes_of 4 id) ≡ nonce_of id
unfolding splice nonce_of bytes_of
nonce_written id = refl

pub length_nonce : (id : ℕ) → length (nonce_of id) ≡ 12
unfolding nonce_of bytes_of
length_nonce id = refl

-- a shorter table is the front of a longer one
take_table : (f : ℕ → ℕ) (n m : ℕ) → n ≤ m → take n (tabulate f m) ≡ tabulate f n
take_table f n m h =
    let e : n + (m - n) ≡ m = omega arith in
    ap (λ (k : ℕ). take n (tabulate f k)) (sym e)
    ∙ ap (take n) (tabulate_append f n (m - n))
    ∙ take_at (tabulate f n) (tabulate (λ i. f (n + i)) (m - n)) n (length_tabulate f n)

module _ (seed : List ℕ) (id : ℕ) where
  -- element i of a seed
  abbrev pub element_at : ℕ → ℕ
  element_at i = element_of document01 (word_at seed (nonce_of id) i)

  pub seed_elements_lem : (n : ℕ) → seed_elements document01 seed id n ≡ tabulate element_at n
  unfolding seed_elements
  seed_elements_lem n =
      let h : n ≤ 16 * ((4 * n + 63) / 64) = omega arith in
      ap (λ (l : List ℕ). map (element_of document01) (take n l)) (stream_words seed (nonce_of id) ((4 * n + 63) / 64))
      ∙ ap (map (element_of document01)) (take_table (word_at seed (nonce_of id)) n (16 * ((4 * n + 63) / 64)) h)
      ∙ map_tabulate (element_of document01) (word_at seed (nonce_of id)) n

  -- what the loop fills in
  pub streamed_seed : length seed ≡ 32 → (n : ℕ) → tabulate (streamed (state seed 0 (nonce_of id))) n ≡ seed_elements document01 seed id n
  unfolding streamed
  streamed_seed h n =
      tabulate_cong (streamed (state seed 0 (nonce_of id))) element_at n
      (λ i l.
      ap (λ (s : List ℕ). element_of document01 (get_or (mixed s) (i % 16) 0))
      (state_count seed (nonce_of id) h (length_nonce id) 0 (i / 16)))
      ∙ sym (seed_elements_lem n)
