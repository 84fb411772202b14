-- Messages written piece after piece, each where the one before ends: the whole is put there as one run (`grow`).
-- Assumes that the run lies within the buffer.
use mathlib.Core.Path.{◌≡◌, sym, ◌∙◌}
use mathlib.Core.List.{List}
use Prim.Native.Nat.{ℕ, zero, suc, ◌+◌, ◌-◌, ◌*◌, ◌≤◌, ◌<◌}
use native.Mathlib.Nat.{mul-zero, mul-le-mul_left}
use native.Mathlib.Numerals.{add-one}
use native.Mathlib.Omega.{arith}
use lib.ListN.{length, take, drop, length-append}
use Rattle.words.specs.Bytes.{part, splice}
use Rattle.words.proofs.Splice.{length_part, splice_none}
use Rattle.words.proofs.Loops.{grow}
use Rattle.share_message.specs.Shares.{header_bytes}
use Rattle.steps.proofs.Parts.{span}
use Rattle.share_message.proofs.Writing.{length_header}
use Rattle.client.specs.Pieces.{Random, message_bytes, other_message, other_messages, Other}

pub other_written : (s random : List ℕ) (at size id j n : ℕ) → at + 6 ≤ length s → n ≡ j + 1
    → splice (splice s at (header_bytes 33 id n)) (at + 6)
    (take (16 + 4 * size * j + 4 * size - (16 + 4 * size * j)) (drop (16 + 4 * size * j) random))
    ≡ splice s at (other_message random size id j)
unfolding other_message
other_written s random at size id j n h e =
    rw (span (16 + 4 * size * j) (4 * size) random, e, add-one)
    (grow s at (header_bytes 33 id (suc j)) (part (16 + 4 * size * j) (4 * size) random) 6 (length_header 33 id (suc j)) h)

-- ---- the messages of the other servers
length_other : (random : List ℕ) (size id j : ℕ) → 16 + 4 * size * j + 4 * size ≤ length random
    → length (other_message random size id j) ≡ message_bytes size
unfolding other_message
length_other random size id j h =
    length-append (header_bytes 33 id (suc j)) _
    ∙ omega (arith, length_header 33 id (suc j), length_part (16 + 4 * size * j) (4 * size) random h)

module _ {random : List ℕ} {others size : ℕ} (r : Random random others size) where
  -- the share of server j + 1 lies within the random bytes
  pub share_within : (j : ℕ) → j < others → 16 + 4 * size * j + 4 * size ≤ length random
  share_within j h = let k : size * suc j ≤ size * others = mul-le-mul_left size h in omega (arith, r.long)

  pub length_others : (id n : ℕ) → n ≤ others → length (other_messages random size id n) ≡ message_bytes size * n
  unfolding other_messages
  length_others id zero h = sym (mul-zero (message_bytes size))
  length_others id (suc n) h =
      length-append (other_messages random size id n) (other_message random size id n)
      ∙ omega (arith, length_others id n (omega arith), length_other random size id n (share_within n h))

  module _ (s : List ℕ) (room : message_bytes size + message_bytes size * others ≤ length s) (j : ℕ) (h : j < others) where
    one_fits : message_bytes size * j + message_bytes size ≤ message_bytes size * others
    one_fits = let k : message_bytes size * suc j ≤ message_bytes size * others = mul-le-mul_left (message_bytes size) h in omega arith

    pub other_asks : (out : List ℕ) → length out ≡ length s → Other random size j out
    other_asks out e = record {
      few = omega (arith, r.few);
      small = r.small;
      within = share_within j h;
      room = omega (arith, one_fits);
    }

    -- one message more
    pub others_next : (id : ℕ) (out : List ℕ) → out ≡ splice s (message_bytes size) (other_messages random size id j)
        → splice out (message_bytes size + message_bytes size * j) (other_message random size id j)
        ≡ splice s (message_bytes size) (other_messages random size id (j + 1))
    unfolding other_messages
    others_next id out e =
        rw (e, add-one)
        (grow s (message_bytes size) (other_messages random size id j) (other_message random size id j) (message_bytes size * j)
        (length_others id j (omega arith)) (omega (arith, one_fits)))

pub others_none : (s random : List ℕ) (size id : ℕ) → s ≡ splice s (message_bytes size) (other_messages random size id 0)
unfolding other_messages
others_none s random size id = sym (splice_none s (message_bytes size))
