-- Share messages of either kind: one that is sound has a header, and brings as many elements as a share has; a seed's are as many as it is
-- asked for, and below p. What is written with sound elements, or with a seed, is sound. By the kind byte. Assumes nothing.
use mathlib.Core.Path.{◌≡◌, ap, ◌∙◌}
use mathlib.Core.Bool.{Bool, true, false, cond, not, ◌&&◌}
use mathlib.Core.List.{List, ◌++◌, map}
use Prim.Native.Nat.{ℕ, ◌+◌, ◌*◌, ◌/◌, ◌%◌, ◌^◌, ◌≤◌, ◌<◌}
use native.Mathlib.Nat.{mod-lt, mul-div_right, le-div_iff_mul-le}
use native.Mathlib.Omega.{arith}
use borrow.Author.Tests.{eqb-true, eq-eqb, ne_eqb}
use lib.Dec.{eqb}
use lib.ListN.{length, take, drop, replicate, length-map, length-drop}
use lib.Seq.{length-take-le}
use Rattle.algebra.specs.Lists.{All}
use Rattle.algebra.proofs.Members.{and_left, map_all, in_all}
use Rattle.words.specs.Bytes.{elements_of}
use Rattle.words.proofs.Elements.{length_elements}
use Rattle.words.proofs.Below.{below_of_all}
use Rattle.chacha.specs.ChaCha.{stream}
use Rattle.chacha.proofs.Streams.{length_stream}
use Rattle.rules.specs.Settings.{Setting, Facts}
use Rattle.rules.specs.Columns.{Column}
use Rattle.rules.specs.Judging.{share_size}
use Rattle.rules.specs.Making.{headed, message, share_message, share_length}
use Rattle.rules.specs.Seeds.{seed_size, seed_kind, seed_length, seed_message, nonce_of, element_of, seed_elements}
use Rattle.rules.specs.Messages.{kind_in, id_in, elements_in, brings_seed, share_in, kind_sound, header_fault, elements_fault}
use Rattle.rules.specs.WholeRun.{Brings}
use Rattle.rules.proofs.Histories.MessageBytes.{width_positive, length_headed, id_headed, id_again, server_headed, behind_header}
use Rattle.rules.proofs.Histories.MessageBytes.{length_message, id_read, server_read, elements_read}

-- ---- the elements of a seed
module _ (σ : Setting) (facts : Facts σ) (seed : List ℕ) (id n : ℕ) where
  abbrev blocks : ℕ
  blocks = (σ.stream_width * n + 63) / 64

  abbrev words : List ℕ
  words = elements_of σ.stream_width (stream seed (nonce_of id) blocks)

  enough : n ≤ length words
  enough =
      let k : ℕ = σ.stream_width * n in
      let h : n * σ.stream_width ≤ 64 * blocks = omega arith in
      rw (length_elements σ.stream_width (stream seed (nonce_of id) blocks), length_stream seed (nonce_of id) blocks)
      ((le-div_iff_mul-le facts.stream_word).1 h)

  pub length_seed : length (seed_elements σ seed id n) ≡ n
  unfolding seed_elements
  length_seed = length-map (take n words) (element_of σ) ∙ length-take-le n words enough

  pub seed_below : All (λ x. x < σ.modulus) (seed_elements σ seed id n)
  unfolding seed_elements element_of
  seed_below = map_all (element_of σ) (in_all (take n words) (λ w h. mod-lt (w % 2 ^ σ.stream_bits) (omega (arith, facts.large))))

-- under the id that a message's header says
seed_named : (σ : Setting) (kind id server : ℕ) (bytes seed : List ℕ) (n : ℕ)
    → seed_elements σ seed (id_in (headed kind id server bytes)) n ≡ seed_elements σ seed id n
unfolding seed_elements nonce_of
seed_named σ kind id server bytes seed n =
    ap (λ (v : List ℕ). map (element_of σ)
    (take n (elements_of σ.stream_width (stream seed (v ++ replicate 8 0) ((σ.stream_width * n + 63) / 64)))))
    (id_again kind id server bytes)

-- ---- a message that is sound
module _ (σ : Setting) (cs : List Column) (own : ℕ) (m : List ℕ) where
  abbrev sound : Bool → Bool
  sound b = cond b (eqb (length m) seed_length && not (eqb own 0)) (eqb (length m) (6 + σ.width * share_size cs) && eqb (kind_in m) 33)

  seed_long : sound true ≡ true → length m ≡ seed_length
  seed_long e = eqb-true _ _ (and_left (eqb (length m) seed_length) (not (eqb own 0)) e)

  elements_long : sound false ≡ true → length m ≡ 6 + σ.width * share_size cs
  elements_long e = eqb-true _ _ (and_left (eqb (length m) (6 + σ.width * share_size cs)) (eqb (kind_in m) 33) e)

  -- it has a header
  pub kind_long : kind_sound σ cs own m ≡ true → 6 ≤ length m
  unfolding kind_sound share_length
  kind_long = by (brings_seed m)
    where
      by : (b : Bool) → sound b ≡ true → 6 ≤ length m
      by true e = omega (arith, seed_long e)
      by false e = omega (arith, elements_long e)

  -- it brings as many elements as a share has
  elements_many : Facts σ → length m ≡ 6 + σ.width * share_size cs → length (elements_in σ m) ≡ share_size cs
  elements_many facts long =
      let rest : length (drop 6 m) ≡ σ.width * share_size cs = length-drop 6 m ∙ omega arith in
      length_elements σ.width (drop 6 m)
      ∙ ap (λ (k : ℕ). k / σ.width) rest
      ∙ mul-div_right (share_size cs) (width_positive σ facts)

  pub kind_brings : Facts σ → kind_sound σ cs own m ≡ true → length (share_in σ cs m) ≡ share_size cs
  unfolding kind_sound share_length share_in
  kind_brings facts = by (brings_seed m)
    where
      by : (b : Bool) → sound b ≡ true
          → length (cond b (seed_elements σ (drop 6 m) (id_in m) (share_size cs)) (elements_in σ m)) ≡ share_size cs
      by true e = length_seed σ facts (drop 6 m) (id_in m) (share_size cs)
      by false e = elements_many facts (elements_long e)

-- ---- what is written
module _ (σ : Setting) (facts : Facts σ) (cs : List Column) (id i : ℕ) where
  -- with elements
  module _ (xs : List ℕ) (long : length xs ≡ share_size cs) (below : All (λ x. x < σ.modulus) xs) where
    abbrev sent : List ℕ
    sent = share_message σ id i xs

    sent_long : length sent ≡ share_length σ cs
    unfolding share_length
    sent_long = length_message σ 33 id i xs ∙ ap (λ k. 6 + σ.width * k) long

    sent_header : header_fault σ cs i sent ≡ 0
    unfolding header_fault kind_sound brings_seed message
    sent_header = rw (eq-eqb _ _ sent_long, eq-eqb _ _ (server_read σ 33 id i xs))

    sent_says : share_in σ cs sent ≡ xs
    unfolding share_in brings_seed message
    sent_says = elements_read σ 33 id i xs facts below

    pub elements_sound : Brings σ cs id i sent xs
    unfolding elements_fault
    elements_sound = record {
      named = id_read σ 33 id i xs;
      header = sent_header;
      elements = rw (sent_says, below_of_all σ.modulus xs below);
      says = sent_says;
    }

  -- with a seed
  module _ (seed : List ℕ) (long : length seed ≡ seed_size) (behind : 0 < i) where
    abbrev seeded : List ℕ
    seeded = seed_message id i seed

    abbrev given : List ℕ
    given = seed_elements σ seed id (share_size cs)

    seeded_long : length seeded ≡ seed_length
    unfolding seed_message
    seeded_long = length_headed seed_kind id i seed ∙ ap (λ n. 6 + n) long

    not_first : eqb i 0 ≡ false
    not_first = ne_eqb i 0 (λ e. omega (arith, behind, e))

    seeded_header : header_fault σ cs i seeded ≡ 0
    unfolding header_fault kind_sound brings_seed seed_message
    seeded_header = rw (eq-eqb _ _ seeded_long, not_first, eq-eqb _ _ (server_headed seed_kind id i seed))

    seeded_says : share_in σ cs seeded ≡ given
    unfolding share_in brings_seed seed_message
    seeded_says =
        ap (λ (v : List ℕ). seed_elements σ v (id_in seeded) (share_size cs)) (behind_header seed_kind id i seed)
        ∙ seed_named σ seed_kind id i seed seed (share_size cs)

    pub seed_sound_lem : Brings σ cs id i seeded given
    unfolding elements_fault seed_message
    seed_sound_lem = record {
      named = id_headed seed_kind id i seed;
      header = seeded_header;
      elements = rw (seeded_says, below_of_all σ.modulus given (seed_below σ facts seed id (share_size cs)));
      says = seeded_says;
    }
