-- The walk over the columns on numbers modulo the prime, and what the functions that walk are lent.
-- Assumes nothing.
use Rattle.std.specs.Prelude.{◌≡◌, List, [], ◌∷◌, ◌++◌, ℕ, suc, ◌+◌, ◌-◌, ◌*◌, ◌≤◌, ◌<◌, length, get_or}
use Rattle.records.specs.Outcome.{ok}
use Rattle.algebra.specs.Lists.{tabulate}
use Rattle.field.specs.Residues.{prime, residues, Elements}
use Rattle.rules.specs.Settings.{document01}
use Rattle.rules.specs.Columns.{Column, bit_length, entries_of, read_sheet, columns_of, entries_in}
use Rattle.rules.specs.Circuit.{gates_of, gates_in}
use Rattle.rules.specs.Run.{Meaning, at_server}
use Rattle.rules.specs.Walk.{number_test, rest_test}
use Rattle.rules.proofs.Circuits.Limits.{InLimits}

-- entries x, and m for the constant p - 1, the only one that inputs of multiplications name; they name no output
abbrev pub plain : ℕ → (ℕ → ℕ) → Meaning ℕ
plain m x = record {
  none = 0;
  entry_at = x;
  constant_of = λ c. m;
  plus = residues.◌⊕◌;
  times = λ a c. residues.◌⊗◌ a (residues.ι c);
  gate = λ t u v. 0;
}

-- the members of a list by their places
abbrev pub members : List ℕ → ℕ → ℕ
members xs e = get_or xs e 0

-- "gate outputs are its shares of h(1)..h(M)": in a share whose first l members are the entries
abbrev pub outputs : ℕ → List ℕ → ℕ → ℕ
outputs l xs j = get_or xs (l + 2 + j) 0

-- at a server: the share xs with l entries, and the factor k on constants
abbrev pub shared : ℕ → ℕ → List ℕ → Meaning ℕ
shared k l xs = at_server residues k (members xs) (outputs l xs)

-- the tests of a number, by the place of its outputs
abbrev pub number_tests_at : List ℕ → ℕ → ℕ → ℕ → ℕ → List ℕ
number_tests_at xs first a e n =
    tabulate (λ i. members xs (first + i)) n ++ (number_test document01 (plain 0 (members xs)) a e n ∷ [])

-- the test of a product, by its output and the entry c that it has to be
abbrev pub product_test_at : List ℕ → ℕ → ℕ → ℕ
product_test_at xs output c = residues.◌⊕◌ (members xs output) (residues.◌⊗◌ (members xs c) (prime - 1))

-- the tests of a top n, by the place of its outputs
abbrev pub top_tests : List ℕ → ℕ → ℕ → ℕ → ℕ → List ℕ
top_tests xs first e k n =
    tabulate (λ i. members xs (first + i)) (2 * bit_length n)
    ++ (number_test document01 (shared k 0 xs) e (suc e) (bit_length n)
    ∷ rest_test document01 (shared k 0 xs) n e (suc e + bit_length n) (bit_length n)
    ∷ [])

-- the tests of the two numbers of a point n, and those of the point, by the place of its outputs
abbrev pub two_number_tests : List ℕ → ℕ → ℕ → ℕ → List ℕ
two_number_tests xs first e n = number_tests_at xs first e (e + 4) n ++ number_tests_at xs (first + n) (e + 2) (e + 4 + n) n

abbrev pub point_tests : List ℕ → ℕ → ℕ → ℕ → List ℕ
point_tests xs first e n =
    two_number_tests xs first e n
    ++ (product_test_at xs (first + 2 * n) (e + 1) ∷ product_test_at xs (first + 2 * n + 1) (e + 3) ∷ [])

-- s is a sheet that is read, and xs starts with its entries
pub record Entries (s xs : List ℕ) : Type 0 where
  pub is_read : read_sheet s ≡ ok (columns_of s)
  pub elements : Elements xs
  pub enough : entries_in (columns_of s) ≤ length xs

-- xs has l entries, and behind them f(0), g(0), h(0) and the outputs
pub record Outputs (s xs : List ℕ) (l : ℕ) : Type 0 where
  pub entries_are : l ≡ entries_in (columns_of s)
  pub room : l + 3 + gates_in (columns_of s) ≤ length xs

-- what the tests of the column c are worked out from: its entries from e, its outputs behind t others, and the factor k on
-- constants
pub record Asked (xs : List ℕ) (l e t k : ℕ) (c : Column) : Type 0 where
  pub elements : Elements xs
  pub factor : k < prime
  pub in_limits : InLimits c
  pub entries : e + entries_of c ≤ length xs
  pub outputs_fit : l + 3 + t + gates_of c ≤ length xs
