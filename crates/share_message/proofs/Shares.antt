-- The share message by the number of its elements: rules' definitions at shareSize, by unfolding both. A message whose header is
-- not refused is as long as its kind says, and brings as many elements as a share has. Assumes nothing.
use mathlib.Core.Path.{◌≡◌, refl, ap, ◌∙◌}
use mathlib.Core.Bool.{Bool, true, false, cond}
use mathlib.Core.List.{List, ◌++◌, append_assoc}
use Prim.Native.Nat.{ℕ, ◌+◌, ◌*◌, ◌/◌}
use native.Mathlib.Nat.{mul-div_right}
use native.Mathlib.Omega.{arith}
use borrow.Author.Tests.{eqb-true}
use lib.Dec.{lit<}
use lib.ListN.{length, drop, length-drop}
use Rattle.algebra.proofs.Members.{and_left}
use Rattle.words.specs.Bytes.{bytes_of_all, all_below}
use Rattle.words.proofs.Elements.{length_elements}
use Rattle.words.proofs.Below.{below_of_all}
use Rattle.rules.specs.Settings.{document01}
use Rattle.rules.specs.Columns.{Column}
use Rattle.rules.specs.Judging.{share_size}
use Rattle.rules.specs.Making.{share_length, message}
use Rattle.rules.specs.Seeds.{seed_size, seed_length, seed_elements}
use Rattle.rules.specs.Messages.{id_in, elements_in, brings_seed, share_in, kind_sound, header_fault}
use Rattle.rules.proofs.Computed.Facts.{document01_facts}
use Rattle.rules.proofs.Histories.ShareMessages.{length_seed, seed_below}
use Rattle.share_message.specs.Shares.{seed_sound, long_sound, kind_sound_at, rest_size, header_fault_at, share_at, share_part, header_bytes}
use Rattle.steps.proofs.Parts.{check_holds}

pub header_fault_lem : (cs : List Column) (own : ℕ) (m : List ℕ) → header_fault document01 cs own m ≡ header_fault_at (share_size cs) own m
unfolding header_fault kind_sound header_fault_at kind_sound_at seed_sound long_sound share_length
header_fault_lem cs own m = refl

pub share_is : (cs : List Column) (m : List ℕ) → share_in document01 cs m ≡ share_at (share_size cs) m
unfolding share_in share_at
share_is cs m = refl

pub message_is : (kind id server : ℕ) (xs : List ℕ)
    → message document01 kind id server xs ≡ header_bytes kind id server ++ bytes_of_all 4 xs
unfolding message header_bytes
message_is kind id server xs = rw append_assoc

module _ (size own : ℕ) (m : List ℕ) where
  pub kind_long : kind_sound_at size own m ≡ true → length m ≡ 6 + rest_size size m
  unfolding kind_sound_at seed_sound long_sound
  kind_long = by (brings_seed m)
    where
      by : (b : Bool) → cond b (seed_sound own m) (long_sound size m) ≡ true → length m ≡ 6 + cond b seed_size (4 * size)
      by true e = eqb-true (length m) seed_length (and_left _ _ e)
      by false e = eqb-true (length m) (6 + 4 * size) (and_left _ _ e)

  -- a header that is not refused
  pub header_long : header_fault_at size own m ≡ 0 → length m ≡ 6 + rest_size size m
  unfolding header_fault_at
  header_long e = kind_long (and_left _ _ (check_holds _ 6 e))

  pub part_sound : header_fault_at size own m ≡ 0 → share_part size own m ≡ drop 6 m
  unfolding share_part
  part_sound e = rw e

-- what a message brings, by its kind
module _ (size : ℕ) (m : List ℕ) where
  module _ (e : brings_seed m ≡ true) where
    pub from_seed : share_at size m ≡ seed_elements document01 (drop 6 m) (id_in m) size
    unfolding share_at
    from_seed = rw e

    seed_long : length (share_at size m) ≡ size
    seed_long = ap length from_seed ∙ length_seed document01 document01_facts (drop 6 m) (id_in m) size

    -- the elements of a seed are below p
    pub seed_passes : all_below 2147483647 (share_at size m) ≡ true
    seed_passes = rw from_seed (below_of_all 2147483647 _ (seed_below document01 document01_facts (drop 6 m) (id_in m) size))

  module _ (e : brings_seed m ≡ false) where
    pub from_elements : share_at size m ≡ elements_in document01 m
    unfolding share_at
    from_elements = rw e

    elements_long : length m ≡ 6 + 4 * size → length (share_at size m) ≡ size
    elements_long l =
        let d : length (drop 6 m) ≡ 4 * size = length-drop 6 m ∙ omega arith in
        ap length from_elements
        ∙ length_elements 4 (drop 6 m)
        ∙ ap (λ (n : ℕ). n / 4) d
        ∙ mul-div_right size (lit< tt)

  -- as many elements as a share has
  pub share_long : length m ≡ 6 + rest_size size m → length (share_at size m) ≡ size
  share_long = by (brings_seed m) refl
    where
      by : (b : Bool) → brings_seed m ≡ b → length m ≡ 6 + cond b seed_size (4 * size) → length (share_at size m) ≡ size
      by true e l = seed_long e
      by false e l = elements_long e l
