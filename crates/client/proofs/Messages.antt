-- The messages as they are written are those of document 01: server 0's share is the whole less the sum of the others, and
-- the bytes of the other shares are the random bytes themselves. Assumes that bytes are below 256, where it is said.
use mathlib.Core.Path.{◌≡◌, refl, sym, ap, ap₂, ◌∙◌}
use mathlib.Core.List.{List, ◌++◌, append_assoc, append-nil}
use Prim.Native.Nat.{ℕ, zero, suc, ◌+◌, ◌-◌, ◌*◌, ◌≤◌, ◌<◌}
use native.Mathlib.Nat.{add-zero}
use native.Mathlib.Omega.{arith}
use lib.Dec.{lit<}
use lib.ListN.{length, get_or}
use Rattle.algebra.specs.Lists.{All, tabulate}
use Rattle.algebra.specs.Ops.{minus}
use Rattle.algebra.proofs.Tables.{length_tabulate, tabulate_cong}
use Rattle.words.specs.Bytes.{value_of, bytes_of_all, part, splice, elements_of}
use Rattle.words.proofs.Below.{all_take, all_drop}
use Rattle.words.proofs.Splice.{length_part}
use Rattle.words.proofs.Elements.{elements_whole, bytes_elements}
use Rattle.field.specs.Residues.{residues}
use Rattle.rules.specs.Settings.{document01}
use Rattle.rules.specs.Columns.{Column}
use Rattle.rules.specs.Judging.{share_size}
use Rattle.rules.specs.Making.{share_of, share_message, made_share, made_from}
use Rattle.rules.proofs.Histories.MessageBytes.{length_message}
use Rattle.share_message.specs.Shares.{header_bytes}
use Rattle.steps.proofs.Parts.{part_of_part}
use Rattle.whole.specs.Pieces.{whole_of}
use Rattle.whole.proofs.Filling.{on}
use Rattle.whole.proofs.FirstMessage.{share_message_lem}
use Rattle.whole.proofs.WholeList.{length_made}
use Rattle.client.specs.Pieces.{Random, rest_of, first_share, message_bytes, other_message, other_messages}
use Rattle.client.proofs.RandomWords.{random_word, random_sum}
use Rattle.client.proofs.Writing.{share_within}

-- ---- messages that are made, by their end
module _ (cs : List Column) (servers : ℕ) (vs zs : List ℕ) (id : ℕ) where
  abbrev pub message_of : ℕ → List ℕ
  message_of i = share_message document01 id i (made_share document01 cs servers vs zs i)

  abbrev pub messages_from : ℕ → ℕ → List ℕ
  messages_from i n = made_from document01 cs servers vs zs id i n

  made_next : (n i : ℕ) → messages_from i (suc n) ≡ messages_from i n ++ message_of (i + n)
  unfolding made_from
  made_next zero i = append-nil (message_of i) ∙ ap message_of (sym (add-zero i))
  made_next (suc n) i =
      ap (λ (l : List ℕ). message_of i ++ l) (made_next n (suc i))
      ∙ sym (append_assoc (message_of i) (messages_from (suc i) n) (message_of (suc i + n)))
      ∙ ap (λ (k : ℕ). message_of i ++ messages_from (suc i) n ++ message_of k)
      (let e : suc i + n ≡ i + suc n = omega arith in e)

  -- and by their front
  made_first : 1 ≤ servers → message_of 0 ++ messages_from 1 (servers - 1) ≡ messages_from 0 servers
  unfolding made_from
  made_first h = ap (messages_from 0) (let e : suc (servers - 1) ≡ servers = omega arith in e)

-- ---- the shares
module _ (cs : List Column) (servers : ℕ) (vs random : List ℕ) (r : Random random (servers - 1) (share_size cs)) where
  abbrev others : ℕ
  others = servers - 1

  abbrev zs : List ℕ
  zs = elements_of 4 random

  abbrev size : ℕ
  size = share_size cs

  abbrev made : ℕ → List ℕ
  made = made_share document01 cs servers vs zs

  -- server 0's
  first_is : (n : ℕ) → n ≡ size
      → tabulate (λ e. rest_of random others n e (get_or (whole_of cs vs zs) e 0)) n ≡ made 0
  unfolding rest_of share_of
  first_is n e =
      rw e
      (tabulate_cong _ _ size
      (λ i h. ap (λ (x : ℕ). minus residues (get_or (whole_of cs vs zs) i 0) x) (random_sum r i h)))

  pub first_share_lem : first_share random others (whole_of cs vs zs) ≡ made 0
  unfolding first_share
  first_share_lem = first_is (length (whole_of cs vs zs)) (length_made cs vs zs)

  -- the others'
  module _ (bytes : All (λ b. b < 256) random) where
    share_bytes_lem : (j : ℕ) → j < others → bytes_of_all 4 (made (suc j)) ≡ part (16 + 4 * size * j) (4 * size) random
    unfolding share_of
    share_bytes_lem j h =
        let p : List ℕ = part (16 + 4 * size * j) (4 * size) random in
        let l : length p ≡ 4 * size = length_part (16 + 4 * size * j) (4 * size) random (share_within r j h) in
        let same : (e : ℕ) → e < size → get_or zs (4 + j * size + e) 0 ≡ value_of (part (4 * e) 4 p)
        = λ e k.
        let q : 4 * size * j + (16 + 4 * e) ≡ 16 + 4 * size * j + 4 * e = omega arith in
        sym (random_word r e k j h)
        ∙ ap (λ (n : ℕ). value_of (part n 4 random)) q
        ∙ sym (ap value_of (part_of_part (4 * e) 4 (16 + 4 * size * j) (4 * size) random (omega arith))) in
        ap (bytes_of_all 4)
        (tabulate_cong _ (λ e. value_of (part (4 * e) 4 p)) size same ∙ sym (elements_whole 4 (lit< tt) p size l))
        ∙ bytes_elements 4 (lit< tt) size p l (all_take _ (4 * size) (all_drop _ (16 + 4 * size * j) bytes))

    other_is : (id j : ℕ) → j < others → other_message random size id j ≡ share_message document01 id (suc j) (made (suc j))
    unfolding other_message
    other_is id j h =
        ap (λ (l : List ℕ). header_bytes 33 id (suc j) ++ l) (sym (share_bytes_lem j h)) ∙ share_message_lem id (suc j) (made (suc j))

    others_are : (id n : ℕ) → n ≤ others → other_messages random size id n ≡ messages_from cs servers vs zs id 1 n
    unfolding other_messages
    others_are id zero h = unfold made_from in refl
    others_are id (suc n) h =
        ap₂ ◌++◌ (others_are id n (omega arith)) (other_is id n h)
        ∙ ap (λ (k : ℕ). messages_from cs servers vs zs id 1 n ++ message_of cs servers vs zs id k)
        (let e : suc n ≡ 1 + n = omega arith in e)
        ∙ sym (made_next cs servers vs zs id n 1)

    -- server 0's message, and the others behind it
    pub return_written : (out : List ℕ) (id : ℕ) → 1 ≤ servers → message_bytes size ≤ length out
        → splice (splice out 0 (share_message document01 id 0 (first_share random others (whole_of cs vs zs)))) (message_bytes size)
        (other_messages random size id others)
        ≡ splice out 0 (made_from document01 cs servers vs zs id 0 servers)
    return_written out id some h =
        let l : length (message_of cs servers vs zs id 0) ≡ message_bytes size
        = length_message document01 33 id 0 (made 0) ∙ ap (λ (n : ℕ). 6 + 4 * n) (length_tabulate _ size) in
        ap₂ (λ (a b : List ℕ). splice (splice out 0 a) (message_bytes size) b)
        (ap (share_message document01 id 0) first_share_lem) (others_are id others (omega arith))
        ∙ on out (message_of cs servers vs zs id 0) (messages_from cs servers vs zs id 1 others) (message_bytes size) l h
        ∙ ap (splice out 0) (made_first cs servers vs zs id some)
