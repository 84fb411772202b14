-- How many bytes a sheet's circuit has. Each column's steps have at most 24 + 2 w bytes for each of its entries, where an
-- element has w bytes; with w = 4 a bound for many numbers and one for few give at most 7,161 for every sheet.
-- Assumes nothing.
use mathlib.Core.Path.{◌≡◌, refl, ◌∙◌, ap}
use mathlib.Core.List.{List, [], ◌∷◌, ◌++◌}
use Prim.Native.Nat.{ℕ, zero, suc, ◌+◌, ◌-◌, ◌*◌, ◌≤◌}
use native.Mathlib.Nat.{mul-le-mul_right}
use native.Mathlib.Omega.{arith}
use lib.ListN.{length, length-append}
use Rattle.algebra.specs.Lists.{All, all[], all∷}
use Rattle.words.proofs.Numbers.{length_bytes}
use Rattle.records.specs.Outcome.{ok}
use Rattle.rules.specs.Settings.{Setting, Facts}
use Rattle.rules.specs.Columns.{Column, yes_no, choice, number, top, point, bit_length, entries_of, entries_in, read_sheet}
use Rattle.rules.specs.Circuit.{Step, constant, entry, add, scale, multiply, test, step_bytes, circuit_bytes, bit_check}
use Rattle.rules.specs.Circuit.{bit_checks, option_adds, bit_adds, bit_sum, top_sums, top_steps}
use Rattle.rules.specs.Circuit.{number_checks, product_check, point_checks, point_steps}
use Rattle.rules.specs.Circuit.{column_steps, wires_of, circuit_from, circuit_of, constants_of, adds_of, scales_of, gates_of, tests_of}
use Rattle.rules.specs.Circuit.{constants_in, adds_in, scales_in, gates_in, tests_in}
use Rattle.rules.specs.Sizes.{size_by_kind, column_size, circuit_size}
use Rattle.rules.proofs.Circuits.BitLength.{BitLength, bit_length_lem}
use Rattle.rules.proofs.Circuits.Limits.{InLimits, limits, numbers_in}

module _ (σ : Setting) where
  abbrev pub size : List Step → ℕ
  size ks = length (circuit_bytes σ ks)

  -- the bytes of one step in front
  unfoldable step_size : Step → ℕ
  step_size (constant c) = 1 + σ.width
  step_size (entry e) = 3
  step_size (add a b) = 5
  step_size (scale a c) = 3 + σ.width
  step_size (multiply a b) = 5
  step_size (test a) = 3

  step_size_lem : (k : Step) → length (step_bytes σ k) ≡ step_size k
  unfolding step_bytes step_size
  step_size_lem (constant c) = rw length_bytes (omega arith)
  step_size_lem (entry e) = rw length_bytes (omega arith)
  step_size_lem (add a b) = simp (length-append, length_bytes) (omega arith)
  step_size_lem (scale a c) = simp (length-append, length_bytes) (omega arith)
  step_size_lem (multiply a b) = simp (length-append, length_bytes) (omega arith)
  step_size_lem (test a) = rw length_bytes (omega arith)

  size_next : (k : Step) (ks : List Step) → size (k ∷ ks) ≡ step_size k + size ks
  unfolding circuit_bytes
  size_next k ks = length-append (step_bytes σ k) (circuit_bytes σ ks) ∙ ap (◌+ size ks) (step_size_lem k)

  size_none : size [] ≡ 0
  unfolding circuit_bytes
  size_none = refl

  size_append : (a b : List Step) → size (a ++ b) ≡ size a + size b
  size_append [] b = omega (arith, size_none)
  size_append (k ∷ a) b = omega (arith, size_next k (a ++ b), size_next k a, size_append a b)

  bits_size : (n e w : ℕ) → size (bit_checks n e w) ≡ 16 * n
  unfolding bit_checks bit_check step_size
  bits_size zero e w = size_none
  bits_size (suc n) e w = simp (size_append, size_next, size_none, bits_size n e w) (omega arith)

  options_size : (n w q : ℕ) → size (option_adds n w q) ≡ 5 * n
  unfolding option_adds step_size
  options_size zero w q = size_none
  options_size (suc n) w q = simp (size_append, size_next, size_none, options_size n w q) (omega arith)

  weights_size : (n w q : ℕ) → size (bit_adds n w q) ≡ (8 + σ.width) * n
  unfolding bit_adds step_size
  weights_size zero w q = size_none ∙ omega arith
  weights_size (suc n) w q = simp (size_append, size_next, size_none, weights_size n w q) (omega arith)

  sum_size : (n w q : ℕ) → size (bit_sum n w q) ≡ (8 + σ.width) * n + 3
  unfolding bit_sum step_size
  sum_size n w q = simp (size_append, size_next, size_none, weights_size) (omega arith)

  top_size : (b n e w : ℕ) → size (top_steps σ e w b n) ≡ (48 + 2 * σ.width) * b + 18 + 2 * σ.width
  unfolding top_steps top_sums step_size
  top_size b n e w = simp (size_append, size_next, size_none, bits_size, sum_size) (omega arith)

  checks_size : (a e w n : ℕ) → size (number_checks σ a e w n) ≡ (24 + σ.width) * n + 6 + σ.width
  unfolding number_checks step_size
  checks_size a e w n = simp (size_append, size_next, size_none, bits_size, sum_size) (omega arith)

  product_size : (a b c w : ℕ) → size (product_check σ a b c w) ≡ 16 + σ.width
  unfolding product_check step_size
  product_size a b c w = simp (size_next, size_none) (omega arith)

  point_size : (n e w : ℕ) → size (point_steps σ e w n) ≡ (48 + 2 * σ.width) * n + 56 + 4 * σ.width
  unfolding point_steps point_checks step_size
  point_size n e w = simp (size_append, size_next, checks_size, product_size) (omega arith)

  -- a column's steps have the bytes that the table of body lengths tells
  pub column_size_lem : (c : Column) (e w : ℕ) → size (column_steps σ e w c) ≡ column_size σ c
  unfolding column_steps step_size column_size size_by_kind entries_of constants_of adds_of scales_of gates_of tests_of
  column_size_lem yes_no e w = bits_size 1 e w ∙ omega arith
  column_size_lem (choice n) e w = simp (size_append, size_next, size_none, bits_size, options_size) (omega arith)
  column_size_lem (number n) e w = simp (size_append, size_next, size_none, checks_size) (omega arith)
  column_size_lem (top n) e w = top_size (bit_length n) n e w ∙ omega arith
  column_size_lem (point n) e w = point_size n e w ∙ omega arith

  from_size : (cs : List Column) (e w : ℕ) → size (circuit_from σ e w cs) + suc σ.width ≡ circuit_size σ cs
  unfolding circuit_from circuit_size column_size size_by_kind entries_in constants_in adds_in scales_in gates_in tests_in
  from_size [] e w = rw size_none (omega arith)
  from_size (c ∷ cs) e w =
      let r = from_size cs (e + entries_of c) (w + wires_of c) in
      rw (size_append, column_size_lem) (omega arith)

  -- and so has a sheet's circuit
  pub circuit_size_is : (cs : List Column) → size (circuit_of σ cs) ≡ circuit_size σ cs
  unfolding circuit_of step_size
  circuit_size_is cs = size_next (constant (σ.modulus - 1)) (circuit_from σ 0 1 cs) ∙ omega (arith, from_size cs 0 1)

  -- one bound for elements of any width, two for elements of 4 bytes
  record Few (entries numbers bytes : ℕ) : Type 0 where
    for_all : bytes ≤ entries * (24 + 2 * σ.width)
    for_four : σ.width ≡ 4 → bytes + 2 * numbers ≤ 28 * entries
    for_four' : σ.width ≡ 4 → 2 * bytes ≤ 45 * entries + 535 * numbers

  column_few : (c : Column) → InLimits c → Few (entries_of c) (numbers_in (c ∷ [])) (column_size σ c)
  unfolding column_size size_by_kind entries_of constants_of adds_of scales_of gates_of tests_of numbers_in
  column_few yes_no h = search arith
  column_few (choice n) h = search arith
  column_few (number n) h = record {
    for_all = omega arith;
    for_four = λ four. let f : (24 + σ.width) * n ≡ 28 * n = ap (λ k. (24 + k) * n) four in omega arith;
    for_four' = λ four. let f : (24 + σ.width) * n ≡ 28 * n = ap (λ k. (24 + k) * n) four in omega arith;
  }
  column_few (top n) h = record {
    for_all = omega (arith, b.some_bits);
    for_four = λ four. let f = at four in omega arith;
    for_four' = λ four. let f = at four in omega (arith, b.bits_most);
  }
    where
      b : BitLength n
      b = bit_length_lem n h.0 h.1

      at : σ.width ≡ 4 → (48 + 2 * σ.width) * bit_length n ≡ 56 * bit_length n
      at four = ap (λ k. (48 + 2 * k) * bit_length n) four
  column_few (point n) h = record {
    for_all = omega arith;
    for_four = λ four. let f : (48 + 2 * σ.width) * n ≡ 56 * n = ap (λ k. (48 + 2 * k) * n) four in omega arith;
    for_four' = λ four. let f : (48 + 2 * σ.width) * n ≡ 56 * n = ap (λ k. (48 + 2 * k) * n) four in omega (arith, h.1);
  }

  numbers_next : (c : Column) (cs : List Column) → numbers_in (c ∷ cs) ≡ numbers_in (c ∷ []) + numbers_in cs
  unfolding numbers_in
  numbers_next yes_no cs = omega arith
  numbers_next (choice n) cs = omega arith
  numbers_next (number n) cs = omega arith
  numbers_next (top n) cs = omega arith
  numbers_next (point n) cs = omega arith

  sheet_few : (cs : List Column) → All InLimits cs → (e w : ℕ) → Few (entries_in cs) (numbers_in cs) (size (circuit_from σ e w cs))
  unfolding circuit_from entries_in numbers_in
  sheet_few [] all[] e w = rw size_none (search arith)
  sheet_few (c ∷ cs) (all∷ h hs) e w =
      rw (size_append, column_size_lem, numbers_next)
      (join (column_few c h) (sheet_few cs hs (e + entries_of c) (w + wires_of c)))
    where
      join : {a b d a' b' d' : ℕ} → Few a b d → Few a' b' d' → Few (a + a') (b + b') (d + d')
      join f g = record {
        for_all = omega (arith, f.for_all, g.for_all);
        for_four = λ four. omega (arith, f.for_four four, g.for_four four);
        for_four' = λ four. omega (arith, f.for_four' four, g.for_four' four);
      }

  module _ (s : List ℕ) (cs : List Column) (is_read : read_sheet s ≡ ok cs) where
    pub circuit_size_lem : length (circuit_bytes σ (circuit_of σ cs)) ≤ 1 + σ.width + entries_in cs * (24 + 2 * σ.width)
    unfolding circuit_of step_size
    circuit_size_lem =
        let r = (sheet_few cs (limits s cs is_read).in_limits 0 1).for_all in
        rw size_next (omega arith)

    pub circuit_fits : Facts σ → length (circuit_bytes σ (circuit_of σ cs)) ≤ σ.circuit_limit
    circuit_fits facts =
        let l = limits s cs is_read in
        omega (arith, circuit_size_lem, mul-le-mul_right (24 + 2 * σ.width) l.entries_most)

    pub circuit_most : σ.width ≡ 4 → length (circuit_bytes σ (circuit_of σ cs)) ≤ 7161
    unfolding circuit_of step_size
    circuit_most four =
        let l = limits s cs is_read in
        let r = (sheet_few cs l.in_limits 0 1).for_four four in
        let r' = (sheet_few cs l.in_limits 0 1).for_four' four in
        rw size_next (omega arith)
