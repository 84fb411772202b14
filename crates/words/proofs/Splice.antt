-- Laws of a part of a buffer and of a run of bytes put into one, for any place and length. A buffer with ys put at a is
-- what stands before a, then ys, then what stands behind; each law takes `take`, `drop` or a part of these three.
-- Assumes that the run lies within the buffer, where it is said.
use mathlib.Core.Path.{◌≡◌, refl, sym, ap, ◌∙◌}
use mathlib.Core.List.{List, [], ◌∷◌, ◌++◌, append_assoc, append-nil}
use Prim.Native.Nat.{ℕ, zero, suc, ◌+◌, ◌-◌, ◌≤◌}
use native.Mathlib.Nat.{add-zero, add_assoc, add-sub_of_le}
use native.Mathlib.Omega.{arith}
use lib.ListN.{length, take, drop, length-append, length-drop, take-append-drop, drop_of_length-le}
use lib.Seq.{length-take-le, take-append-le, take_at, drop_at, drop-drop, take-take}
use Rattle.words.specs.Bytes.{part, splice}

-- a part within the first m bytes
pub part_of_take : (b n m : ℕ) (s : List ℕ) → b + n ≤ m → part b n (take m s) ≡ part b n s
part_of_take zero n m s h = take-take n m s (omega arith)
part_of_take (suc b) n zero s h = absurd (omega arith)
part_of_take (suc b) n (suc m) [] h = refl
part_of_take (suc b) n (suc m) (x ∷ s) h = part_of_take b n m s (omega arith)

-- a part of what stands from place c
pub part_of_drop : (b n c : ℕ) (s : List ℕ) → part b n (drop c s) ≡ part (c + b) n s
part_of_drop b n c s = ap (take n) (drop-drop b c s)

pub length_part : (a n : ℕ) (s : List ℕ) → a + n ≤ length s → length (part a n s) ≡ n
length_part a n s h = length-take-le n (drop a s) (rw length-drop (omega arith))

-- nothing put there
pub splice_none : (s : List ℕ) (a : ℕ) → splice s a [] ≡ s
unfolding splice
splice_none s a = rw (append-nil, add-zero) (take-append-drop a s)

-- a whole buffer replaced
pub splice_all : (s ys : List ℕ) → length ys ≡ length s → splice s 0 ys ≡ ys
unfolding splice
splice_all s ys h =
    let d : drop (0 + length ys) s ≡ [] = drop_of_length-le s {i = 0 + length ys} (omega arith) in
    ap (λ (l : List ℕ). ys ++ l) d ∙ append-nil ys

module _ (s : List ℕ) (a : ℕ) (ys : List ℕ) (fits : a + length ys ≤ length s) where
  head_long : length (take a s ++ ys) ≡ a + length ys
  head_long = simp (length-append, length-take-le a s (omega arith))

  pub length_splice : length (splice s a ys) ≡ length s
  unfolding splice
  length_splice = simp (length-append, length-take-le a s (omega arith), length-drop) (omega arith)

  -- what was put there
  pub part_splice : (n : ℕ) → length ys ≡ n → part a n (splice s a ys) ≡ ys
  unfolding splice
  part_splice n e =
      let l : length (take a s) ≡ a = length-take-le a s (omega arith) in
      rw (append_assoc, drop_at (take a s) (ys ++ drop (a + length ys) s) a l) (take_at ys _ n e)

  -- what stands before it
  pub take_splice : (n : ℕ) → n ≤ a → take n (splice s a ys) ≡ take n s
  unfolding splice
  take_splice n h =
      let l : n ≤ length (take a s) = simp (length-take-le a s (omega arith)) h in
      rw (append_assoc, take-append-le n (take a s) (ys ++ drop (a + length ys) s) l) (take-take n a s h)

  -- up to its end
  pub take_end_splice : take (a + length ys) (splice s a ys) ≡ take a s ++ ys
  unfolding splice
  take_end_splice = take_at (take a s ++ ys) _ _ head_long

  drop_splice_add : (m : ℕ) → drop (a + length ys + m) (splice s a ys) ≡ drop (a + length ys + m) s
  unfolding splice
  drop_splice_add m =
      sym (drop-drop m (a + length ys) (splice s a ys))
      ∙ ap (λ (l : List ℕ). drop m l) (drop_at (take a s ++ ys) (drop (a + length ys) s) (a + length ys) head_long)
      ∙ drop-drop m (a + length ys) s

  -- what stands behind it
  pub drop_splice : (n : ℕ) → a + length ys ≤ n → drop n (splice s a ys) ≡ drop n s
  drop_splice n h = rw (← add-sub_of_le h) (drop_splice_add (n - (a + length ys)))

  -- a part before it
  pub part_before : (b n : ℕ) → b + n ≤ a → part b n (splice s a ys) ≡ part b n s
  part_before b n h =
      sym (part_of_take b n a (splice s a ys) h)
      ∙ ap (λ (l : List ℕ). part b n l) (take_splice a (omega arith))
      ∙ part_of_take b n a s h

  -- a part behind it
  pub part_behind : (b n : ℕ) → a + length ys ≤ b → part b n (splice s a ys) ≡ part b n s
  part_behind b n h = ap (take n) (drop_splice b h)

  -- one run after the other
  pub splice_splice : (zs : List ℕ) → splice (splice s a ys) (a + length ys) zs ≡ splice s a (ys ++ zs)
  unfolding splice
  splice_splice zs =
      let f : drop (a + length ys + length zs) (splice s a ys) ≡ drop (a + length (ys ++ zs)) s
      = drop_splice_add (length zs) ∙ rw (length-append, add_assoc) in
      rw (take_end_splice, f, append_assoc (take a s) ys zs)
