-- The tests of one column: the outputs of its multiplications, and the tests of its sums and products if it has any. By the
-- kinds of columns. Assumes nothing.
use mathlib.Core.Path.{◌≡◌, sym, ap, ap₂, ◌∙◌}
use mathlib.Core.List.{List, [], ◌∷◌, ◌++◌, append_assoc}
use Prim.Native.Nat.{ℕ, suc, ◌+◌, ◌-◌, ◌*◌, ◌^◌, ◌≤◌}
use native.Mathlib.Nat.{add-zero, mod-eq_of_lt}
use native.Mathlib.Numerals.{add-one}
use native.Mathlib.Omega.{arith}
use lib.ListN.{length, set}
use Rattle.algebra.specs.Lists.{tabulate}
use Rattle.algebra.proofs.Tables.{tabulate_cong}
use Rattle.field.specs.Residues.{residues}
use Rattle.rules.specs.Settings.{document01}
use Rattle.rules.specs.Columns.{yes_no, choice, number, top, point, bit_length}
use Rattle.rules.specs.Run.{Meaning}
use Rattle.rules.specs.Walk.{sum_from, bit_out, bit_tests, weighted, number_test, rest_test, number_tests, product_test, column_tests}
use Rattle.walk.specs.Walks.{plain, shared, members, outputs, number_tests_at, product_test_at, top_tests, point_tests}
use Rattle.walk.proofs.Filling.{one_place, sum_same}

module _ (xs : List ℕ) (l e k : ℕ) where
  abbrev μ : Meaning ℕ
  μ = shared k l xs

  -- a, and n members from b on by weight
  abbrev weigh : ℕ → ℕ → ℕ → ℕ
  weigh n a b = sum_from document01 (plain 0 (members xs)) a (λ i. residues.◌⊗◌ (members xs (b + i)) (residues.ι (2 ^ i))) n

  -- ---- the tests of sums
  pub number_test_lem : (n v a : ℕ) → a ≡ residues.◌⊗◌ (members xs e) 2147483646 → v ≡ weigh n a (e + 1)
      → v ≡ number_test document01 μ e (suc e) n
  unfolding number_test weighted
  number_test_lem n v a q p = p ∙ ap₂ (weigh n) q (add-one e) ∙ sum_same k _ _ _ _ _ n

  pub rest_test_lem : (n b v a : ℕ) → 1 ≤ n → a ≡ residues.◌⊕◌ (residues.◌⊗◌ k (2147483647 - n)) (members xs e)
      → v ≡ weigh b a (e + 1 + b) → v ≡ rest_test document01 μ n e (suc e + b) b
  unfolding rest_test weighted
  rest_test_lem n b v a h q p =
      let below : residues.ι (2147483647 - n) ≡ 2147483647 - n = mod-eq_of_lt (omega arith) in
      let place : e + 1 + b ≡ suc e + b = omega arith in
      let start : a ≡ residues.◌⊕◌ (residues.◌⊗◌ k (residues.ι (2147483647 - n))) (members xs e)
      = q ∙ ap (λ t. residues.◌⊕◌ (residues.◌⊗◌ k t) (members xs e)) (sym below) in
      p ∙ ap₂ (weigh b) start place ∙ sum_same k _ _ _ _ _ b

  -- sums name no output
  any_outputs : (a : ℕ) (f : ℕ → ℕ) (n : ℕ) → sum_from document01 (shared k 0 xs) a f n ≡ sum_from document01 μ a f n
  any_outputs a f n =
      let x = members xs in
      sym (sum_same k x x (outputs 0 xs) a f n) ∙ sum_same k x x (outputs l xs) a f n

  -- ---- the columns, where t multiplications stand before them
  module _ (t : ℕ) where
    abbrev output : ℕ → ℕ
    output i = members xs (l + 3 + t + i)

    outputs_are : (b n : ℕ) → tabulate output n ≡ bit_tests document01 μ b t n
    unfolding bit_tests bit_out
    outputs_are b n =
        tabulate_cong _ _ n (λ i k. ap (members xs) (let a : l + 3 + t + i ≡ l + 2 + suc (t + i) = omega arith in a))

    pub yes_no_tests : (d : List ℕ) → length d ≡ 1 → set d 0 (members xs (l + 3 + t)) ≡ column_tests document01 μ e t yes_no
    unfolding column_tests
    yes_no_tests d h =
        one_place output d (members xs (l + 3 + t)) h (ap (members xs) (sym (add-zero (l + 3 + t))))
        ∙ ap (tabulate output) h
        ∙ outputs_are e 1

    pub choice_tests : (n v a : ℕ) → a ≡ residues.◌⊗◌ k 2147483646
        → v ≡ sum_from document01 (plain 0 (members xs)) a (λ i. members xs (e + i)) n
        → tabulate output n ++ (v ∷ []) ≡ column_tests document01 μ e t (choice n)
    unfolding column_tests
    choice_tests n v a q p =
        ap₂ (λ (l : List ℕ) (b : ℕ). l ++ (b ∷ [])) (outputs_are e n)
        (p ∙ ap (λ a. sum_from document01 (plain 0 (members xs)) a (λ i. members xs (e + i)) n) q ∙ sum_same k _ _ _ _ _ n)

    number_tests_lem : (a b n : ℕ) → number_tests_at xs (l + 3 + t) a b n ≡ number_tests document01 μ a b t n
    unfolding number_tests number_test weighted
    number_tests_lem a b n =
        ap₂ (λ (l : List ℕ) (b : ℕ). l ++ (b ∷ [])) (outputs_are b n) (sum_same k _ _ _ _ _ n)

    pub column_number : (n : ℕ) → number_tests_at xs (l + 3 + t) e (e + 1) n ≡ column_tests document01 μ e t (number n)
    unfolding column_tests
    column_number n = ap (λ b. number_tests_at xs (l + 3 + t) e b n) (add-one e) ∙ number_tests_lem e (suc e) n

    pub top_tests_lem : (n : ℕ) → top_tests xs (l + 3 + t) e k n ≡ column_tests document01 μ e t (top n)
    unfolding column_tests number_test rest_test weighted
    top_tests_lem n =
        ap₂ ◌++◌ (outputs_are (suc e) (2 * bit_length n))
        (ap₂ (λ (a b : ℕ). a ∷ b ∷ []) (any_outputs _ _ (bit_length n)) (any_outputs _ _ (bit_length n)))

  product_test_lem : (t o a b c : ℕ) → o ≡ l + 2 + suc t → product_test_at xs o c ≡ product_test document01 μ t a b c
  unfolding product_test
  product_test_lem t o a b c q = ap (λ o. product_test_at xs o c) q

  pub column_point : (t n : ℕ) → point_tests xs (l + 3 + t) e n ≡ column_tests document01 μ e t (point n)
  unfolding column_tests
  column_point t n =
      let next : l + 3 + t + n ≡ l + 3 + (t + n) = omega arith in
      let square : l + 3 + t + 2 * n ≡ l + 2 + suc (t + n + n) = omega arith in
      let product : l + 3 + t + 2 * n + 1 ≡ l + 2 + suc (suc (t + n + n)) = omega arith in
      append_assoc (number_tests_at xs (l + 3 + t) e (e + 4) n) _ _
      ∙ ap₂ ◌++◌ (number_tests_lem t e (e + 4) n)
      (ap₂ ◌++◌
      (ap (λ o. number_tests_at xs o (e + 2) (e + 4 + n) n) next ∙ number_tests_lem (t + n) (e + 2) (e + 4 + n) n)
      (ap₂ (λ (a b : ℕ). a ∷ b ∷ []) (product_test_lem (t + n + n) _ e e (e + 1) square)
      (product_test_lem (suc (t + n + n)) _ e (e + 2) (e + 3) product)))
