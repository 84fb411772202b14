-- A list by its number: list k has the digits of k, each of which counts by the lists of the columns behind it. Adding a
-- multiple of the count changes no digit (`list_again`), so the lists after the value v are those from number v times the
-- count of the rest. Assumes nothing.
use mathlib.Core.Path.{◌≡◌, refl, sym, ap, ap₂, ◌∙◌}
use mathlib.Core.List.{List, [], ◌∷◌, ◌++◌}
use Prim.Native.Nat.{ℕ, zero, suc, ◌+◌, ◌*◌, ◌/◌, ◌%◌, ◌≤◌, ◌<◌}
use native.Mathlib.Nat.{mul-zero, mul_comm}
use native.Mathlib.Omega.{arith}
use lib.ListN.{length, get_or, drop}
use Rattle.algebra.specs.Lists.{tabulate}
use Rattle.algebra.proofs.Tables.{tabulate_none, tabulate_append, tabulate_cong, map_tabulate}
use Rattle.rules.specs.Columns.{Column, yes_no, values_of}
use Rattle.rules.specs.EveryReturn.{after_each, legal_lists, lists_in}
use Rattle.every_return.proofs.Counting.{digit_again, digit_is}

-- list number k, from 0
unfoldable pub list_at : List Column → ℕ → List ℕ
list_at [] k = []
list_at (c ∷ cs) k = k / lists_in cs % values_of c ∷ list_at cs k

pub length_list : (cs : List Column) (k : ℕ) → length (list_at cs k) ≡ length cs
unfolding list_at
length_list [] k = refl
length_list (c ∷ cs) k = ap suc (length_list cs k)

pub list_digit : (cs : List Column) (k i : ℕ) → i < length cs
    → get_or (list_at cs k) i 0 ≡ k / lists_in (drop (suc i) cs) % values_of (get_or cs i yes_no)
unfolding list_at
list_digit [] k i h = absurd (omega arith)
list_digit (c ∷ cs) k zero h = refl
list_digit (c ∷ cs) k (suc i) h = list_digit cs k i (omega arith)

list_again : (cs : List Column) (k q : ℕ) → list_at cs (lists_in cs * q + k) ≡ list_at cs k
unfolding list_at lists_in
list_again [] k q = refl
list_again (c ∷ cs) k q =
    ap₂ ◌∷◌ (digit_again (values_of c) (lists_in cs) k q)
    (ap (list_at cs) (let e : values_of c * lists_in cs * q + k ≡ lists_in cs * (values_of c * q) + k = omega arith in e)
    ∙ list_again cs k (values_of c * q))

module _ (c : Column) (cs : List Column) where
  each_number : (v : ℕ) → v ≤ values_of c
      → after_each v (tabulate (list_at cs) (lists_in cs)) ≡ tabulate (list_at (c ∷ cs)) (lists_in cs * v)
  unfolding after_each list_at
  each_number zero h =
      sym (ap (tabulate (list_at (c ∷ cs))) (mul-zero (lists_in cs)) ∙ tabulate_none (list_at (c ∷ cs)))
  each_number (suc v) h =
      ap₂ ◌++◌ (each_number v (omega arith))
      (map_tabulate (v ∷◌) (list_at cs) (lists_in cs)
      ∙ tabulate_cong (λ i. v ∷ list_at cs i) (λ i. list_at (c ∷ cs) (lists_in cs * v + i)) (lists_in cs)
      (λ i k. ap₂ ◌∷◌ (sym (digit_is (values_of c) (lists_in cs) v i h k)) (sym (list_again cs i v))))
      ∙ sym (tabulate_append (list_at (c ∷ cs)) (lists_in cs * v) (lists_in cs))
      ∙ ap (tabulate (list_at (c ∷ cs))) (let e : lists_in cs * v + lists_in cs ≡ lists_in cs * suc v = omega arith in e)

pub by_number : (cs : List Column) → legal_lists cs ≡ tabulate (list_at cs) (lists_in cs)
unfolding legal_lists lists_in tabulate list_at
by_number [] = refl
by_number (c ∷ cs) =
    ap (after_each (values_of c)) (by_number cs)
    ∙ each_number c cs (values_of c) (omega arith)
    ∙ ap (tabulate (list_at (c ∷ cs))) (mul_comm (lists_in cs) (values_of c))
