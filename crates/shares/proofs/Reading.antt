-- What a share's message brings, read into a place: behind a sound header stand the bytes of a seed or of the elements
-- (`rest_long`), and a part of the numbers that is lent to be filled is put back as one run. Assumes nothing.
use mathlib.Core.Path.{◌≡◌, sym, ap, ◌∙◌}
use mathlib.Core.Bool.{true, false}
use mathlib.Core.List.{List}
use Prim.Native.Nat.{ℕ, ◌+◌, ◌-◌, ◌*◌, ◌≤◌}
use native.Mathlib.Omega.{arith}
use borrow.Rule.Slice.PartMut.{put_mid}
use lib.ListN.{length, take, drop, length-drop}
use Rattle.words.specs.Bytes.{splice, elements_of}
use Rattle.words.proofs.Splice.{length_part}
use Rattle.words.proofs.Loops.{part_put}
use Rattle.rules.specs.Settings.{document01}
use Rattle.rules.specs.Seeds.{seed_size, seed_elements}
use Rattle.rules.specs.Messages.{id_in, brings_seed}
use Rattle.share_message.specs.Shares.{rest_size, share_at}
use Rattle.share_message.proofs.Shares.{from_seed, from_elements, share_long}
use Rattle.steps.proofs.Parts.{span}
use Rattle.shares.specs.Taking.{Brought}

-- n numbers from a, as the code cuts them out
pub length_lent : (a n : ℕ) (s : List ℕ) → a + n ≤ length s → length (take (a + n - a) (drop a s)) ≡ n
length_lent a n s h = ap length (span a n s) ∙ length_part a n s h

module _ (size : ℕ) (m x : List ℕ) (h : Brought size m x) where
  rest_long : length x ≡ rest_size size m
  rest_long = ap length h.part ∙ length-drop 6 m ∙ omega (arith, h.long)

  module _ (e : brings_seed m ≡ true) where
    pub seed_long : length x ≡ seed_size
    seed_long = rest_long ∙ rw e

    -- the elements xs of the seed under an id, put to place a
    pub seed_put : (s : List ℕ) (a id : ℕ) (xs : List ℕ) → a + size ≤ length s → id ≡ id_in m
        → xs ≡ seed_elements document01 x id (length (take (a + size - a) (drop a s)))
        → put_mid a (a + size - a) s xs ≡ splice s a (share_at size m)
    seed_put s a id xs l ei ex =
        let b : xs ≡ share_at size m = ex ∙ rw (length_lent a size s l, ei, h.part) (sym (from_seed size m e)) in
        let n : length (share_at size m) ≡ size = share_long size m h.long in
        rw b (part_put a (a + size) s (share_at size m) (omega arith) l (omega (arith, n)))

  module _ (e : brings_seed m ≡ false) where
    pub elements_long : length x ≡ 4 * size
    elements_long = rest_long ∙ rw e

    pub elements_are : elements_of 4 x ≡ share_at size m
    elements_are = rw h.part (sym (from_elements size m e))
