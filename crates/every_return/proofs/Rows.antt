-- A buffer of lists that is written column by column. A column puts 4 bytes at one place of each list and leaves what stands
-- before it there, so each list grows by a value (`column_grows`); when all columns are put, the lists stand one after
-- another (`columns_all`). Assumes that there is room for all lists, where it is said.
use mathlib.Core.Path.{◌≡◌, refl, sym, ap, ap₂, ◌∙◌}
use mathlib.Core.Logic.{⊎_elim}
use mathlib.Core.List.{List, [], ◌∷◌, ◌++◌, append_assoc, append-nil}
use Prim.Native.Nat.{ℕ, zero, suc, ◌+◌, ◌*◌, ◌/◌, ◌%◌, ◌≤◌, ◌<◌}
use native.Mathlib.Nat.{mul-le-mul_left, eq-or-lt_of_le, le_of_suc-le-suc}
use native.Mathlib.Omega.{arith}
use lib.ListN.{length, get_or, take, drop, take-append-drop}
use lib.Seq.{take-suc, take-add, drop-drop, take_all, length-take-le}
use Rattle.algebra.specs.Lists.{tabulate}
use Rattle.words.specs.Bytes.{bytes_of, bytes_of_all, part, splice}
use Rattle.words.proofs.Numbers.{length_bytes}
use Rattle.words.proofs.Elements.{bytes_all_append, bytes_all_one}
use Rattle.words.proofs.Splice.{length_splice, part_splice, part_before, part_behind, drop_splice}
use Rattle.rules.specs.Columns.{Column, yes_no, values_of}
use Rattle.rules.specs.EveryReturn.{legal_lists, lists_in, lists_bytes}
use Rattle.every_return.specs.Listing.{column_put}
use Rattle.every_return.proofs.Numbers.{list_at, length_list, list_digit, by_number}

-- ---- one column
module _ (v : ℕ → ℕ) (w p : ℕ) (within : p + 4 ≤ w) (out : List ℕ) where
  abbrev put : ℕ → List ℕ
  put n = column_put v w p out n

  pub length_column : (n : ℕ) → w * n ≤ length out → length (put n) ≡ length out
  unfolding column_put
  length_column zero h = refl
  length_column (suc n) h =
      let e = length_column n (omega arith) in
      length_splice (put n) (w * n + p) (bytes_of 4 (v n)) (omega (arith, length_bytes 4 (v n))) ∙ e

  -- the next value fits
  fits : (n : ℕ) → w * suc n ≤ length out → w * n + p + length (bytes_of 4 (v n)) ≤ length (put n)
  fits n h = omega (arith, length_bytes 4 (v n), length_column n (omega arith))

  pub column_tail : (n m : ℕ) → w * n ≤ m → w * n ≤ length out → drop m (put n) ≡ drop m out
  unfolding column_put
  column_tail zero m k h = refl
  column_tail (suc n) m k h =
      drop_splice (put n) (w * n + p) (bytes_of 4 (v n)) (fits n h) m (omega (arith, length_bytes 4 (v n)))
      ∙ column_tail n m (omega arith) (omega arith)

  -- lists behind the last that was written
  column_left : (n k : ℕ) → n ≤ k → w * n ≤ length out → part (w * k) p (put n) ≡ part (w * k) p out
  unfolding column_put
  column_left zero k l h = refl
  column_left (suc n) k l h =
      part_behind (put n) (w * n + p) (bytes_of 4 (v n)) (fits n h) (w * k) p
      (omega (arith, length_bytes 4 (v n), mul-le-mul_left {m = suc n} {n = k} w l))
      ∙ column_left n k (omega arith) (omega arith)

  pub column_grows : (n k : ℕ) → k < n → w * n ≤ length out
      → part (w * k) (p + 4) (put n) ≡ part (w * k) p out ++ bytes_of 4 (v k)
  unfolding column_put
  column_grows zero k l h = absurd (omega arith)
  column_grows (suc n) k l h = ⊎_elim last (λ less. before less (column_grows n k less)) (eq-or-lt_of_le (le_of_suc-le-suc l))
    where
      before : k < n → (w * n ≤ length out → part (w * k) (p + 4) (put n) ≡ part (w * k) p out ++ bytes_of 4 (v k))
          → part (w * k) (p + 4) (splice (put n) (w * n + p) (bytes_of 4 (v n))) ≡ part (w * k) p out ++ bytes_of 4 (v k)
      before less ih =
          part_before (put n) (w * n + p) (bytes_of 4 (v n)) (fits n h) (w * k) (p + 4)
          (omega (arith, mul-le-mul_left {m = suc k} {n = n} w less))
          ∙ ih (omega arith)

      here : part (w * n) (p + 4) (splice (put n) (w * n + p) (bytes_of 4 (v n))) ≡ part (w * n) p out ++ bytes_of 4 (v n)
      here =
          take-add p 4 (drop (w * n) (splice (put n) (w * n + p) (bytes_of 4 (v n))))
          ∙ ap₂ ◌++◌
          (part_before (put n) (w * n + p) (bytes_of 4 (v n)) (fits n h) (w * n) p (omega arith)
          ∙ column_left n n (omega arith) (omega arith))
          (ap (take 4) (drop-drop p (w * n) (splice (put n) (w * n + p) (bytes_of 4 (v n))))
          ∙ part_splice (put n) (w * n + p) (bytes_of 4 (v n)) (fits n h) 4 (length_bytes 4 (v n)))

      last : k ≡ n → part (w * k) (p + 4) (splice (put n) (w * n + p) (bytes_of 4 (v n))) ≡ part (w * k) p out ++ bytes_of 4 (v k)
      last e = rw e here

-- ---- all columns
module _ (cs : List Column) where
  -- the bytes of a list
  abbrev size : ℕ
  size = 4 * length cs

  -- the first i columns of all lists are put into d, which became out
  pub record ColumnsPut (lists i : ℕ) (d out : List ℕ) : Type 0 where
    pub same : length out ≡ length d
    pub tail : drop (size * lists) out ≡ drop (size * lists) d
    pub rows : (k : ℕ) → k < lists → part (size * k) (4 * i) out ≡ bytes_of_all 4 (take i (list_at cs k))

  module _ (lists : ℕ) (d : List ℕ) where
    pub columns_none : ColumnsPut lists 0 d d
    unfolding bytes_of_all
    columns_none = record { same = refl; tail = refl; rows = λ k h. refl }

    module _ (room : size * lists ≤ length d) (out : List ℕ) where
      pub columns_next : (i : ℕ) → i < length cs → ColumnsPut lists i d out → (behind values : ℕ)
          → behind ≡ lists_in (drop (suc i) cs) → values ≡ values_of (get_or cs i yes_no)
          → ColumnsPut lists (suc i) d (column_put (λ k. k / behind % values) size (4 * i) out lists)
      columns_next i h c behind values b v =
          let digit : ℕ → ℕ = λ k. k / behind % values in
          let within : 4 * i + 4 ≤ size = omega arith in
          let long : size * lists ≤ length out = omega (arith, c.same) in
          record {
            same = length_column digit size (4 * i) within out lists long ∙ c.same;
            tail = column_tail digit size (4 * i) within out lists (size * lists) (omega arith) long ∙ c.tail;
            rows = λ k l. grown k l (column_grows digit size (4 * i) within out lists k l long);
          }
        where
          value : (k : ℕ) → k / behind % values ≡ get_or (list_at cs k) i 0
          value k = rw (b, v) (sym (list_digit cs k i h))

          grown : (k : ℕ) → k < lists
              → part (size * k) (4 * i + 4) (column_put (λ k. k / behind % values) size (4 * i) out lists)
              ≡ part (size * k) (4 * i) out ++ bytes_of 4 (k / behind % values)
              → part (size * k) (4 * suc i) (column_put (λ k. k / behind % values) size (4 * i) out lists)
              ≡ bytes_of_all 4 (take (suc i) (list_at cs k))
          grown k l e =
              let more : 4 * suc i ≡ 4 * i + 4 = omega arith in
              let few : i < length (list_at cs k) = omega (arith, length_list cs k) in
              rw more e
              ∙ ap₂ ◌++◌ (c.rows k l) (ap (bytes_of 4) (value k) ∙ sym (bytes_all_one 4 (get_or (list_at cs k) i 0)))
              ∙ sym (bytes_all_append 4 (take i (list_at cs k)) (get_or (list_at cs k) i 0 ∷ []))
              ∙ ap (bytes_of_all 4) (sym (take-suc (list_at cs k) i 0 few))

      lists_append : (l : List (List ℕ)) (a : List ℕ) → lists_bytes (l ++ (a ∷ [])) ≡ lists_bytes l ++ bytes_of_all 4 a
      unfolding lists_bytes
      lists_append [] a = append-nil (bytes_of_all 4 a)
      lists_append (b ∷ l) a = rw (lists_append l a) (sym (append_assoc (bytes_of_all 4 b) (lists_bytes l) (bytes_of_all 4 a)))

      lists_stand : ColumnsPut lists (length cs) d out → (n : ℕ) → n ≤ lists
          → take (size * n) out ≡ lists_bytes (tabulate (list_at cs) n)
      unfolding tabulate lists_bytes
      lists_stand c zero h = ap (λ (m : ℕ). take m out) (let e : size * 0 ≡ 0 = omega arith in e)
      lists_stand c (suc n) h =
          let more : size * suc n ≡ size * n + size = omega arith in
          let all : take (length cs) (list_at cs n) ≡ list_at cs n
          = take_all (length cs) (list_at cs n) (omega (arith, length_list cs n)) in
          ap (λ (m : ℕ). take m out) more
          ∙ take-add (size * n) size out
          ∙ ap₂ ◌++◌ (lists_stand c n (omega arith)) (c.rows n h ∙ ap (bytes_of_all 4) all)
          ∙ sym (lists_append (tabulate (list_at cs) n) (list_at cs n))

      pub columns_all : ColumnsPut lists (length cs) d out → lists ≡ lists_in cs → out ≡ splice d 0 (lists_bytes (legal_lists cs))
      unfolding splice
      columns_all c e =
          let bytes : take (size * lists) out ≡ lists_bytes (legal_lists cs)
          = lists_stand c lists (omega arith)
          ∙ ap lists_bytes (ap (tabulate (list_at cs)) e ∙ sym (by_number cs)) in
          let long : length (lists_bytes (legal_lists cs)) ≡ size * lists
          = sym (ap length bytes) ∙ length-take-le (size * lists) out (omega (arith, c.same)) in
          let behind : size * lists ≡ 0 + length (lists_bytes (legal_lists cs)) = omega (arith, long) in
          sym (take-append-drop (size * lists) out) ∙ ap₂ ◌++◌ bytes (c.tail ∙ ap (λ (m : ℕ). drop m d) behind)
