-- Laws of runs of elements, for any width w. A run in two parts, the first of whole elements, says the elements of the
-- first and then those of the second; the laws of the first element, and of writing and reading, follow.
-- Assumes that the width is not 0, where it is said.
use mathlib.Core.Path.{◌≡◌, refl, sym, ap, ap₂, ◌∙◌}
use mathlib.Core.List.{List, [], ◌∷◌, ◌++◌, append_assoc, append-nil}
use Prim.Native.Nat.{ℕ, zero, suc, ◌+◌, ◌*◌, ◌/◌, ◌^◌, ◌≤◌, ◌<◌}
use native.Mathlib.Nat.{mul-zero, mul-add, mul-le-mul_left, mul-add-div, mul-div_right}
use native.Mathlib.Nat.{div-eq_of_lt, le-div_iff_mul-le}
use native.Mathlib.Omega.{arith}
use lib.ListN.{length, get_or, take, drop, length-append, length-drop, take-append-drop}
use lib.Seq.{length-take-le, take-append-le, drop-append-le, drop-append-add, take_at, take_all}
use Rattle.algebra.specs.Lists.{All, all[], all∷, tabulate}
use Rattle.algebra.proofs.Tables.{length_tabulate, get_d_tabulate, tabulate_append, tabulate_cong, tabulate_none}
use Rattle.words.specs.Bytes.{value_of, bytes_of, bytes_of_all, part, elements_of}
use Rattle.words.proofs.Numbers.{length_bytes, value_bytes_lem, value_below, bytes_value}
use Rattle.words.proofs.Splice.{length_part}
use Rattle.algebra.proofs.Members.{get_d_all}
use Rattle.words.proofs.Below.{all_take, all_drop}

-- ---- numbers one after another
pub length_bytes_all : (w : ℕ) (vs : List ℕ) → length (bytes_of_all w vs) ≡ w * length vs
unfolding bytes_of_all
length_bytes_all w [] = sym (mul-zero w)
length_bytes_all w (v ∷ vs) = simp (length-append, length_bytes, length_bytes_all w vs) (omega arith)

pub bytes_all_append : (w : ℕ) (vs us : List ℕ) → bytes_of_all w (vs ++ us) ≡ bytes_of_all w vs ++ bytes_of_all w us
unfolding bytes_of_all
bytes_all_append w [] us = refl
bytes_all_append w (v ∷ vs) us = rw (bytes_all_append w vs us, append_assoc)

-- one number
pub bytes_all_one : (w v : ℕ) → bytes_of_all w (v ∷ []) ≡ bytes_of w v
unfolding bytes_of_all
bytes_all_one w v = append-nil (bytes_of w v)

-- number i among them
pub part_bytes_all : (w : ℕ) (vs : List ℕ) (i : ℕ) → i < length vs → part (w * i) w (bytes_of_all w vs) ≡ bytes_of w (get_or vs i 0)
unfolding bytes_of_all
part_bytes_all w [] i h = absurd (omega arith)
part_bytes_all w (v ∷ vs) zero h = rw mul-zero (take_at (bytes_of w v) (bytes_of_all w vs) w (length_bytes w v))
part_bytes_all w (v ∷ vs) (suc i) h =
    let e : w * suc i ≡ length (bytes_of w v) + w * i = rw length_bytes (omega arith) in
    rw (e, drop-append-add (bytes_of w v) (bytes_of_all w vs) (w * i)) (part_bytes_all w vs i (omega arith))

-- ---- the elements of a run
pub length_elements : (w : ℕ) (s : List ℕ) → length (elements_of w s) ≡ length s / w
unfolding elements_of
length_elements w s = length_tabulate _ (length s / w)

pub element_at_lem : (w : ℕ) (s : List ℕ) (i : ℕ) → i < length s / w → get_or (elements_of w s) i 0 ≡ value_of (part (w * i) w s)
unfolding elements_of
element_at_lem w s i h = get_d_tabulate (λ i. value_of (part (w * i) w s)) (length s / w) i 0 h

module _ (w : ℕ) (pos : 0 < w) where
  -- an element that lies within the run
  pub element_within : (s : List ℕ) (i : ℕ) → w * i + w ≤ length s → get_or (elements_of w s) i 0 ≡ value_of (part (w * i) w s)
  element_within s i h =
      let k : suc i * w ≤ length s = omega arith in
      element_at_lem w s i ((le-div_iff_mul-le pos).1 k)

  -- a run of n whole elements
  pub elements_whole : (s : List ℕ) (n : ℕ) → length s ≡ w * n → elements_of w s ≡ tabulate (λ i. value_of (part (w * i) w s)) n
  unfolding elements_of
  elements_whole s n e =
      let q : length s / w ≡ n = ap (λ (k : ℕ). k / w) e ∙ mul-div_right n pos in
      ap (tabulate (λ i. value_of (part (w * i) w s))) q

  -- too short for one
  pub elements_end : (s : List ℕ) → length s < w → elements_of w s ≡ []
  unfolding elements_of
  elements_end s h =
      ap (tabulate (λ i. value_of (part (w * i) w s))) (div-eq_of_lt h) ∙ tabulate_none (λ i. value_of (part (w * i) w s))

  -- just one
  pub elements_one : (s : List ℕ) → length s ≡ w → elements_of w s ≡ value_of s ∷ []
  unfolding tabulate
  elements_one s e = elements_whole s 1 (omega arith) ∙ rw (mul-zero, take_all w s (omega arith))

  -- a run in two parts
  pub elements_append : (a b : List ℕ) (n : ℕ) → length a ≡ w * n → elements_of w (a ++ b) ≡ elements_of w a ++ elements_of w b
  unfolding elements_of
  elements_append a b n e =
      let f : ℕ → ℕ = λ i. value_of (part (w * i) w (a ++ b)) in
      let q : length (a ++ b) / w ≡ n + length b / w
      = rw (length-append, e) (mul-add-div pos n (length b)) in
      let front : (i : ℕ) → i < n → f i ≡ value_of (part (w * i) w a)
      = λ i h.
      let k : w * suc i ≤ w * n = mul-le-mul_left w h in
      let l : w * i ≤ length a = omega arith in
      let m : w ≤ length (drop (w * i) a) = rw length-drop (omega arith) in
      ap value_of (rw (drop-append-le (w * i) a b l) (take-append-le w (drop (w * i) a) b m)) in
      let behind : (i : ℕ) → i < length b / w → f (n + i) ≡ value_of (part (w * i) w b)
      = λ i h.
      let k : w * (n + i) ≡ length a + w * i = rw e (mul-add w n i) in
      ap (λ (l : List ℕ). value_of (take w l)) (rw k (drop-append-add a b (w * i))) in
      ap (tabulate f) q
      ∙ tabulate_append f n (length b / w)
      ∙ ap₂ ◌++◌ (tabulate_cong f (λ i. value_of (part (w * i) w a)) n front ∙ sym (elements_whole a n e))
      (tabulate_cong (λ i. f (n + i)) (λ i. value_of (part (w * i) w b)) (length b / w) behind)

  -- the first, then the others
  pub elements_next : (s : List ℕ) → w ≤ length s → elements_of w s ≡ value_of (take w s) ∷ elements_of w (drop w s)
  elements_next s h =
      let l : length (take w s) ≡ w = length-take-le w s h in
      ap (elements_of w) (sym (take-append-drop w s))
      ∙ elements_append (take w s) (drop w s) 1 (omega arith)
      ∙ ap (λ (l : List ℕ). l ++ elements_of w (drop w s)) (elements_one (take w s) l)

  -- what was written as elements is read as them
  pub elements_bytes : (xs : List ℕ) → All (λ x. x < 256 ^ w) xs → elements_of w (bytes_of_all w xs) ≡ xs
  unfolding bytes_of_all
  elements_bytes [] all[] = elements_end [] pos
  elements_bytes (x ∷ xs) (all∷ h a) =
      let l : length (bytes_of w x) ≡ w = length_bytes w x in
      elements_append (bytes_of w x) (bytes_of_all w xs) 1 (omega arith)
      ∙ rw (elements_one (bytes_of w x) l, value_bytes_lem w x h, elements_bytes xs a)

  -- elements of bytes hold w bytes
  pub elements_hold : (s : List ℕ) → All (λ b. b < 256) s → All (λ x. x < 256 ^ w) (elements_of w s)
  elements_hold s a =
      get_d_all {P = λ x. x < 256 ^ w} 0 (elements_of w s)
      (λ i h.
      let k : i < length s / w = rw length_elements at h in
      let l : suc i * w ≤ length s = (le-div_iff_mul-le pos).0 k in
      let m : length (part (w * i) w s) ≡ w = length_part (w * i) w s (omega arith) in
      rw (element_at_lem w s i k) (value_below w (part (w * i) w s) m (all_take _ w (all_drop _ (w * i) a))))

  -- the bytes of the elements of a run of n whole elements are the run
  pub bytes_elements : (n : ℕ) (s : List ℕ) → length s ≡ w * n → All (λ b. b < 256) s → bytes_of_all w (elements_of w s) ≡ s
  unfolding bytes_of_all
  bytes_elements zero [] e a = ap (bytes_of_all w) (elements_end [] pos)
  bytes_elements zero (b ∷ s) e a = absurd (omega arith)
  bytes_elements (suc n) s e a =
      let h : w ≤ length s = omega arith in
      let l : length (take w s) ≡ w = length-take-le w s h in
      let d : length (drop w s) ≡ w * n = rw length-drop (omega arith) in
      ap (bytes_of_all w) (elements_next s h)
      ∙ ap₂ ◌++◌ (bytes_value w (take w s) l (all_take _ w a)) (bytes_elements n (drop w s) d (all_drop _ w a))
      ∙ take-append-drop w s
