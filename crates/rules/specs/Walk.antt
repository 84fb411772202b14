-- The inputs of the multiplications and the tests of a sheet's circuit, column by column and with no wires: what code
-- computes. `walk_is_run` in proofs says that this is the run of the circuit.
-- Assumes nothing.
use Rattle.std.specs.Prelude.{List, [], ◌∷◌, ◌++◌, map, ℕ, zero, suc, ◌+◌, ◌-◌, ◌*◌, ◌^◌}
use Rattle.algebra.specs.Lists.{tabulate}
use Rattle.rules.specs.Settings.{Setting}
use Rattle.rules.specs.Columns.{Column, yes_no, choice, number, top, point, bit_length, entries_of}
use Rattle.rules.specs.Circuit.{gates_of, bits_of, products_at}
use Rattle.rules.specs.Run.{Meaning}

-- the first bit entry of a column whose first entry is e
unfoldable pub bits_at : ℕ → Column → ℕ
bits_at e yes_no = e
bits_at e (choice n) = e
bits_at e (number n) = suc e
bits_at e (top n) = suc e
bits_at e (point n) = e + 4

module _ {X : Type 0} (σ : Setting) (μ : Meaning X) where
  -- a + f 0 + .. + f (n - 1)
  unfoldable pub sum_from : X → (ℕ → X) → ℕ → X
  sum_from a f zero = a
  sum_from a f (suc n) = μ.plus (sum_from a f n) (f n)

  -- the two inputs and the output of the bit check of entry e, where t multiplications stand before it
  unfoldable pub less_one : ℕ → X
  less_one e = μ.plus (μ.entry_at e) (μ.constant_of (σ.modulus - 1))

  unfoldable pub bit_out : ℕ → ℕ → X
  bit_out e t = μ.gate (suc t) (μ.entry_at e) (less_one e)

  -- a column whose first entry is e, where t multiplications stand before it
  unfoldable pub column_lefts : ℕ → Column → List X
  column_lefts e c = tabulate (λ i. μ.entry_at (bits_at e c + i)) (bits_of c) ++ map (λ p. μ.entry_at p.left) (products_at e c)

  unfoldable pub column_rights : ℕ → Column → List X
  column_rights e c =
      tabulate (λ i. less_one (bits_at e c + i)) (bits_of c) ++ map (λ p. μ.entry_at p.right) (products_at e c)

  -- n bit checks of the entries from e, where t multiplications stand before them
  unfoldable pub bit_tests : ℕ → ℕ → ℕ → List X
  bit_tests e t n = tabulate (λ i. bit_out (e + i) (t + i)) n

  -- a, and n bit entries from e by weight
  unfoldable pub weighted : X → ℕ → ℕ → X
  weighted a e n = sum_from a (λ i. μ.times (μ.entry_at (e + i)) (2 ^ i)) n

  -- "v times p - 1; then the bits' sum": v is entry a, and its n bits are the entries from e
  unfoldable pub number_test : ℕ → ℕ → ℕ → X
  number_test a e n = weighted (μ.times (μ.entry_at a) (σ.modulus - 1)) e n

  -- "the constant p - T, add v to it, add each of the second bits times 2^j": m is the top T
  unfoldable pub rest_test : ℕ → ℕ → ℕ → ℕ → X
  rest_test m a e n = weighted (μ.plus (μ.constant_of (σ.modulus - m)) (μ.entry_at a)) e n

  -- the kind 19 checks of entry a, whose n bits are the entries from e
  unfoldable pub number_tests : ℕ → ℕ → ℕ → ℕ → List X
  number_tests a e t n = bit_tests e t n ++ (number_test a e n ∷ [])

  -- "multiply x by y, add the fourth times p - 1": the entries a, b and c, where t multiplications stand before this one
  unfoldable pub product_test : ℕ → ℕ → ℕ → ℕ → X
  product_test t a b c =
      μ.plus (μ.gate (suc t) (μ.entry_at a) (μ.entry_at b)) (μ.times (μ.entry_at c) (σ.modulus - 1))

  unfoldable pub column_tests : ℕ → ℕ → Column → List X
  column_tests e t yes_no = bit_tests e t 1
  column_tests e t (choice n) =
      bit_tests e t n ++ (sum_from (μ.constant_of (σ.modulus - 1)) (λ i. μ.entry_at (e + i)) n ∷ [])
  column_tests e t (number n) = number_tests e (suc e) t n
  column_tests e t (top n) =
      bit_tests (suc e) t (2 * bit_length n)
      ++ (number_test e (suc e) (bit_length n) ∷ rest_test n e (suc e + bit_length n) (bit_length n) ∷ [])
  column_tests e t (point n) =
      number_tests e (e + 4) t n
      ++ (number_tests (e + 2) (e + 4 + n) (t + n) n
      ++ (product_test (t + n + n) e e (e + 1) ∷ product_test (suc (t + n + n)) e (e + 2) (e + 3) ∷ []))

  unfoldable pub walk_lefts : ℕ → List Column → List X
  walk_lefts e [] = []
  walk_lefts e (c ∷ cs) = column_lefts e c ++ walk_lefts (e + entries_of c) cs

  unfoldable pub walk_rights : ℕ → List Column → List X
  walk_rights e [] = []
  walk_rights e (c ∷ cs) = column_rights e c ++ walk_rights (e + entries_of c) cs

  unfoldable pub walk_tests : ℕ → ℕ → List Column → List X
  walk_tests e t [] = []
  walk_tests e t (c ∷ cs) = column_tests e t c ++ walk_tests (e + entries_of c) (t + gates_of c) cs
