-- A buffer that is lent part by part to be filled, the front first. Assumes nothing.
use mathlib.Core.Path.{◌≡◌, sym, ap, ap₂, ◌∙◌}
use mathlib.Core.List.{List, [], ◌∷◌, ◌++◌, append-nil}
use Prim.Native.Nat.{ℕ, suc, ◌+◌, ◌-◌, ◌*◌, ◌/◌, ◌%◌, ◌^◌, ◌≤◌}
use native.Mathlib.Omega.{arith}
use borrow.Rule.Slice.PartMut.{put_mid, mid_of, mid_len, same_len_mid, Post-is}
use lib.ListN.{length, take, drop, length-append, length-drop}
use lib.Seq.{drop-length}
use Rattle.std.proofs.lemmas.List.{take_at}
use Rattle.std.proofs.lemmas.Slice.{take-put_mid}
use Rattle.algebra.specs.Lists.{tabulate}
use Rattle.algebra.proofs.Tables.{length_tabulate}
use Rattle.rules.specs.Columns.{top, point, bit_length}
use Rattle.rules.specs.Values.{encoded}
use Rattle.values.proofs.Encodings.{number_entries, top_entries, point_entries}

-- the first a places of s are filled
module _ (front s : List ℕ) (a : ℕ) (within : a ≤ length s) (there : take a s ≡ front) where
  -- a part more
  pub put_more : (e : ℕ) (part : List ℕ) → a ≤ e → length part ≡ e - a → take e (put_mid a (e - a) s part) ≡ front ++ part
  put_more e part h k = take-put_mid a (e - a) s part e (omega arith) within ∙ ap (λ (l : List ℕ). l ++ part) there

  -- the last part
  pub put_last : (part : List ℕ) → put_mid a (length s - a) s part ≡ front ++ part
  put_last part =
      ap₂ (λ (x y : List ℕ). x ++ (part ++ y)) there (Post-is a (length s) s within ∙ drop-length s)
      ∙ ap (λ (l : List ℕ). front ++ l) (append-nil part)

-- the first n bits of v
abbrev pub bits : ℕ → ℕ → List ℕ
bits v n = tabulate (λ j. v / 2 ^ j % 2) n

-- a number and its bits, and the bits of what a top n has past it
module _ (n v b : ℕ) (d w r : List ℕ) (long : b ≡ bit_length n) (size : length d ≡ suc (2 * b)) where
  pub put_top : w ≡ v ∷ bits v b → r ≡ bits (n - v) b
      → put_mid (b + 1) (length (w ++ drop (b + 1) d) - (b + 1)) (w ++ drop (b + 1) d) r ≡ tabulate (encoded (top n) v) (suc (2 * b))
  put_top first second =
      let l : length w ≡ b + 1 = omega (arith, ap length first, length_tabulate (λ j. v / 2 ^ j % 2) b) in
      let whole : b + 1 ≤ length (w ++ drop (b + 1) d) = omega (arith, length-append w (drop (b + 1) d)) in
      put_last w (w ++ drop (b + 1) d) (b + 1) whole (take_at w (drop (b + 1) d) (b + 1) l) r
      ∙ ap₂ ◌++◌ (first ∙ sym (number_entries b v)) second
      ∙ sym (top_entries n v b long)

-- two numbers with their products, and the bits of each number
module _ (n v x y : ℕ) (d p q r : List ℕ) (x_is : x ≡ v % 2 ^ n) (y_is : y ≡ v / 2 ^ n) (size : length d ≡ 4 + 2 * n) where
  abbrev some : List ℕ
  some = put_mid 4 (4 + n - 4) (p ++ drop 4 d) q

  pub put_point : p ≡ (x ∷ x * x ∷ y ∷ x * y ∷ []) → q ≡ bits x n → r ≡ bits y n
      → put_mid (4 + n) (length some - (4 + n)) some r ≡ tabulate (encoded (point n) v) (4 + 2 * n)
  put_point first second third =
      let four : length p ≡ 4 = ap length first in
      let same : length (p ++ drop 4 d) ≡ length d = omega (arith, length-append p (drop 4 d), length-drop 4 d) in
      let middle : length q ≡ length (mid_of 4 (4 + n - 4) (p ++ drop 4 d)) =
      omega (arith, ap length second, length_tabulate (λ j. x / 2 ^ j % 2) n, mid_len 4 (4 + n) (p ++ drop 4 d) (omega arith)) in
      let whole = same_len_mid 4 (4 + n - 4) (p ++ drop 4 d) q middle in
      let filled : take (4 + n) some ≡ p ++ q =
      put_more p (p ++ drop 4 d) 4 (omega arith) (take_at p (drop 4 d) 4 four) (4 + n) q (omega arith)
      (omega (arith, ap length second, length_tabulate (λ j. x / 2 ^ j % 2) n)) in
      put_last (p ++ q) some (4 + n) (omega arith) filled r
      ∙ rw (first, second, third) (sym (point_entries n v x y x_is y_is))
