-- The seed messages, written one after another, each where the one before ends (`grow`).
-- Assumes that the run lies within the buffer.
use mathlib.Core.Path.{◌≡◌, sym, ap, ◌∙◌}
use mathlib.Core.List.{List, ◌++◌, map, flatten, append_assoc, append-nil}
use Prim.Native.Nat.{ℕ, zero, suc, ◌+◌, ◌-◌, ◌*◌, ◌≤◌, ◌<◌}
use native.Mathlib.Nat.{zero-add, add-zero}
use native.Mathlib.Numerals.{add-one}
use native.Mathlib.Omega.{arith}
use lib.ListN.{length, take, drop}
use Rattle.algebra.specs.Lists.{count_from}
use Rattle.words.specs.Bytes.{splice}
use Rattle.words.proofs.Splice.{length_part, splice_none}
use Rattle.words.proofs.Loops.{grow}
use Rattle.rules.specs.Seeds.{seed_message, seed_at}
use Rattle.rules.specs.Messages.{one_by_one}
use Rattle.rules.proofs.Histories.MessageBytes.{length_headed, length_one_by_one}
use Rattle.share_message.specs.Shares.{header_bytes}
use Rattle.share_message.proofs.Writing.{length_header}
use Rattle.steps.proofs.Parts.{span}
use Rattle.steps.proofs.Words.{place_behind}
use Rattle.seeded.specs.Pieces.{Seeds, SeedPlace, seed_messages}
use Rattle.seeded.proofs.Sums.{seed_within}

-- ---- messages one after another, by their end
next_from : (f : ℕ → List ℕ) (n a : ℕ) → flatten (map f (count_from a (suc n))) ≡ flatten (map f (count_from a n)) ++ f (a + n)
unfolding flatten count_from
next_from f zero a = append-nil (f a) ∙ ap f (sym (add-zero a))
next_from f (suc n) a =
    let rest : List ℕ = flatten (map f (count_from (suc a) n)) in
    let e : suc a + n ≡ a + suc n = omega arith in
    ap (λ (l : List ℕ). f a ++ l) (next_from f n (suc a))
    ∙ sym (append_assoc (f a) rest (f (suc a + n)))
    ∙ ap (λ (k : ℕ). f a ++ rest ++ f k) e

one_more_lem : (f : ℕ → List ℕ) (n : ℕ) → one_by_one f (suc n) ≡ one_by_one f n ++ f n
one_more_lem f n = next_from f n 0 ∙ ap (λ (k : ℕ). one_by_one f n ++ f k) (zero-add n)

-- ---- one message: the header, and the seed behind it
header_seed : (id server : ℕ) (seed : List ℕ) → header_bytes 38 id server ++ seed ≡ seed_message id server seed
unfolding header_bytes seed_message
header_seed id server seed = rw append_assoc

pub seed_written : (s seeds : List ℕ) (at id j n : ℕ) → at + 6 ≤ length s → n ≡ j + 1
    → splice (splice s at (header_bytes 38 id n)) (at + 6) (take (32 * j + 32 - 32 * j) (drop (32 * j) seeds))
    ≡ splice s at (seed_message id (suc j) (seed_at seeds j))
seed_written s seeds at id j n h e =
    rw (span (32 * j) 32 seeds, e, add-one)
    (grow s at (header_bytes 38 id (suc j)) (seed_at seeds j) 6 (length_header 38 id (suc j)) h
    ∙ ap (splice s at) (header_seed id (suc j) (seed_at seeds j)))

-- ---- the messages of the other servers
pub seeds_none : (s seeds : List ℕ) (first id : ℕ) → s ≡ splice s first (seed_messages seeds id 0)
unfolding seed_messages count_from flatten
seeds_none s seeds first id = sym (splice_none s first)

messages_next : (seeds : List ℕ) (id j : ℕ)
    → seed_messages seeds id (suc j) ≡ seed_messages seeds id j ++ seed_message id (suc j) (seed_at seeds j)
unfolding seed_messages
messages_next seeds id j = one_more_lem _ j

module _ {seeds : List ℕ} {others : ℕ} (r : Seeds seeds others) where
  long_each : (id j : ℕ) → j < others → length (seed_message id (suc j) (seed_at seeds j)) ≡ 38
  unfolding seed_message
  long_each id j h =
      length_headed 38 id (suc j) (seed_at seeds j) ∙ ap (λ (n : ℕ). 6 + n) (length_part (32 * j) 32 seeds (seed_within r j h))

  length_messages : (id n : ℕ) → n ≤ others → length (seed_messages seeds id n) ≡ 38 * n
  unfolding seed_messages
  length_messages id n h = length_one_by_one _ 38 n (λ j l. long_each id j (omega arith))

  module _ (s : List ℕ) (first : ℕ) (near : first ≤ 3102) (room : first + 38 * others ≤ length s) (j : ℕ) (h : j < others) where
    pub seed_asks : (out : List ℕ) → length out ≡ length s → SeedPlace seeds first j out
    seed_asks out e = record {
      few = omega (arith, r.few);
      near = near;
      within = seed_within r j h;
      room = omega (arith, place_behind 38 j others h);
    }

    pub seeds_next : (id : ℕ) (out : List ℕ) → out ≡ splice s first (seed_messages seeds id j)
        → splice out (first + 38 * j) (seed_message id (suc j) (seed_at seeds j)) ≡ splice s first (seed_messages seeds id (j + 1))
    seeds_next id out e =
        rw (e, add-one)
        (grow s first (seed_messages seeds id j) (seed_message id (suc j) (seed_at seeds j)) (38 * j)
        (length_messages id j (omega arith)) (omega (arith, place_behind 38 j others h))
        ∙ ap (splice s first) (sym (messages_next seeds id j)))
