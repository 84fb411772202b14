-- What the code needs of the definitions: a number read byte by byte, bytes stored one by one, and the turns of a loop
-- that copies bytes or clears them. A run that grows at its end is put next to what is there (`splice_splice`). Assumes that
-- a run lies within the buffer, where it is said.
use mathlib.Core.Path.{◌≡◌, refl, sym, ap, ◌∙◌}
use mathlib.Core.List.{List, [], ◌∷◌, ◌++◌, append_assoc}
use Prim.Native.Nat.{ℕ, zero, suc, ◌+◌, ◌-◌, ◌*◌, ◌≤◌, ◌<◌}
use native.Mathlib.Nat.{add-suc}
use native.Mathlib.Numerals.{add-one}
use native.Mathlib.Omega.{arith}
use borrow.Rule.Slice.PartMut.{put_mid, Post-is}
use lib.ListN.{length, get_or, take, drop, set, replicate, length-replicate, get_or-replicate}
use lib.Seq.{take-suc, take_all, drop-cons, length-take-le, sets, sets-eq}
use Rattle.words.specs.Bytes.{value_of, part, splice}
use Rattle.words.proofs.Splice.{splice_none, splice_splice, length_splice}

-- ---- one number
-- the number that n bytes say, place by place from a + i
abbrev pub places : List ℕ → ℕ → ℕ → ℕ → ℕ
places s a i zero = 0
places s a i (suc n) = get_or s (a + i) 0 + 256 * places s a (suc i) n

pub value_places : (s : List ℕ) (a i n : ℕ) → a + i + n ≤ length s → value_of (part (a + i) n s) ≡ places s a i n
unfolding value_of
value_places s a i zero h = refl
value_places s a i (suc n) h =
    rw (drop-cons s (a + i) 0 (omega arith), ← add-suc, value_places s a (suc i) n (omega arith))

-- bytes stored one after another
pub sets_splice : (s : List ℕ) (a : ℕ) (ys : List ℕ) → a + length ys ≤ length s → sets s a ys ≡ splice s a ys
unfolding splice
sets_splice s a ys h = sets-eq ys s a h

-- ---- a run that grows at its end
module _ (s : List ℕ) (a : ℕ) where
  -- the next run is put where the one before ends
  pub grow : (ys zs : List ℕ) (n : ℕ) → length ys ≡ n → a + n ≤ length s
      → splice (splice s a ys) (a + n) zs ≡ splice s a (ys ++ zs)
  grow ys zs n e h = rw (← e) (splice_splice s a ys (omega arith) zs)

  pub copy_none : (ys : List ℕ) → s ≡ splice s a (take 0 ys)
  copy_none ys = sym (splice_none s a)

  -- one byte more
  pub copy_next : (ys : List ℕ) (i : ℕ) → a + length ys ≤ length s → i < length ys
      → set (splice s a (take i ys)) (a + i) (get_or ys i 0) ≡ splice s a (take (i + 1) ys)
  copy_next ys i h k =
      let l : length (take i ys) ≡ i = length-take-le i ys (omega arith) in
      let m : length (splice s a (take i ys)) ≡ length s = length_splice s a (take i ys) (omega arith) in
      sets_splice (splice s a (take i ys)) (a + i) (get_or ys i 0 ∷ []) (omega arith)
      ∙ grow (take i ys) (get_or ys i 0 ∷ []) i l (omega arith)
      ∙ ap (splice s a) (sym (rw add-one (take-suc ys i 0 k)))

-- ---- a run of zeros
module _ (s : List ℕ) (a n i : ℕ) where
  pub clear_next : a + n ≤ length s → i < n
      → set (splice s a (take i (replicate n 0))) (a + i) 0 ≡ splice s a (take (i + 1) (replicate n 0))
  clear_next h k =
      let zeros : List ℕ = replicate n 0 in
      let l : length zeros ≡ n = length-replicate n 0 in
      let e : get_or zeros i 0 ≡ 0 = get_or-replicate n i 0 0 k in
      ap (λ (v : ℕ). set (splice s a (take i zeros)) (a + i) v) (sym e) ∙ copy_next s a zeros i (omega arith) (omega arith)

  pub clear_all : n ≤ i → splice s a (take i (replicate n 0)) ≡ splice s a (replicate n 0)
  clear_all h =
      let zeros : List ℕ = replicate n 0 in
      let l : length zeros ≡ n = length-replicate n 0 in
      ap (splice s a) (take_all i zeros (omega arith))

-- ---- a part that is lent to be filled: the whole, once it is put back
pub part_put : (a e : ℕ) (s ys : List ℕ) → a ≤ e → e ≤ length s → length ys ≡ e - a → put_mid a (e - a) s ys ≡ splice s a ys
unfolding splice
part_put a e s ys h k l =
    let q : a + length ys ≡ e = omega arith in
    rw (q, Post-is a e s h) (sym (append_assoc (take a s) ys (drop e s)))
