-- Document 01, "Sheet and circuit", and document 02, "A column with a top of its own" and "Hours against diameter": steps, their
-- bytes, and the circuit of a sheet.
-- Assumes nothing.
use Rattle.std.specs.Prelude.{List, [], ◌∷◌, ◌++◌, ℕ, zero, suc, ◌+◌, ◌-◌, ◌*◌, ◌^◌, length}
use Rattle.words.specs.Bytes.{bytes_of}
use Rattle.rules.specs.Settings.{Setting}
use Rattle.rules.specs.Columns.{Column, yes_no, choice, number, top, point, bit_length, entries_of}

-- "1: constant. 2: entry number. 3: add two wires. 4: wire times constant. 5: multiply two wires. 6: test that a wire is
-- zero. Kinds 1 to 5 each make the next wire, from 0."
pub data Step : Type 0 where
  constant entry : ℕ → Step
  add scale multiply : ℕ → ℕ → Step
  test : ℕ → Step

-- "Wire numbers are 2 bytes", and so are entry numbers; a constant is an element
unfoldable pub step_bytes : Setting → Step → List ℕ
step_bytes σ (constant c) = 1 ∷ bytes_of σ.width c
step_bytes σ (entry e) = 2 ∷ bytes_of 2 e
step_bytes σ (add a b) = 3 ∷ bytes_of 2 a ++ bytes_of 2 b
step_bytes σ (scale a c) = 4 ∷ bytes_of 2 a ++ bytes_of σ.width c
step_bytes σ (multiply a b) = 5 ∷ bytes_of 2 a ++ bytes_of 2 b
step_bytes σ (test a) = 6 ∷ bytes_of 2 a

unfoldable pub circuit_bytes : Setting → List Step → List ℕ
circuit_bytes σ [] = []
circuit_bytes σ (k ∷ ks) = step_bytes σ k ++ circuit_bytes σ ks

-- "A bit check of entry e: entry e; add it and wire 0; multiply the entry wire by that sum; test the product."
-- w is the number of the next wire
unfoldable pub bit_check : ℕ → ℕ → List Step
bit_check e w = entry e ∷ add w 0 ∷ multiply w (suc w) ∷ test (suc (suc w)) ∷ []

-- n bit checks, of the entries from e
unfoldable pub bit_checks : ℕ → ℕ → ℕ → List Step
bit_checks zero e w = []
bit_checks (suc n) e w = bit_checks n e w ++ bit_check (e + n) (w + 3 * n)

-- "from wire 0, add each option's entry wire in order": option j's entry wire is w + 3 j, and the sums are the wires
-- from q; the last of n sums is `option_sum q n`
unfoldable pub option_sum : ℕ → ℕ → ℕ
option_sum q zero = 0
option_sum q (suc n) = q + n

unfoldable pub option_adds : ℕ → ℕ → ℕ → List Step
option_adds zero w q = []
option_adds (suc n) w q = option_adds n w q ++ (add (option_sum q n) (w + 3 * n) ∷ [])

-- "for each bit j from 0, bit wire times 2^j, then add the running sum and it": bit j's entry wire is w + 3 j, and the
-- running sum starts at wire q
unfoldable pub bit_adds : ℕ → ℕ → ℕ → List Step
bit_adds zero w q = []
bit_adds (suc n) w q = bit_adds n w q ++ (scale (w + 3 * n) (2 ^ n) ∷ add (q + 2 * n) (suc (q + 2 * n)) ∷ [])

-- the bits' sum, and its test
unfoldable pub bit_sum : ℕ → ℕ → ℕ → List Step
bit_sum n w q = bit_adds n w q ++ (test (q + 2 * n) ∷ [])

-- "Entry v; 2b bit checks; the sum and test of kind 19 over the first bits; then the constant p - T, add v to it, add each of
-- the second bits times 2^j, bit by bit as there, and test": n is the top T, of b bits, and q is the wire of v times p - 1
unfoldable pub top_sums : Setting → ℕ → ℕ → ℕ → ℕ → List Step
top_sums σ w q b n =
    (scale w (σ.modulus - 1) ∷ [])
    ++ (bit_sum b (suc w) q
    ++ (constant (σ.modulus - n) ∷ add (suc (q + 2 * b)) w ∷ bit_sum b (suc w + 3 * b) (suc (suc (q + 2 * b)))))

unfoldable pub top_steps : Setting → ℕ → ℕ → ℕ → ℕ → List Step
top_steps σ e w b n =
    (entry e ∷ []) ++ (bit_checks (2 * b) (suc e) (suc w) ++ top_sums σ w (suc w + 3 * (2 * b)) b n)

-- "the kind 19 checks": b bit checks; v times p - 1; the bits' sum; the test. Wire a holds v, its n bits are the entries from e, and
-- w is the next wire
unfoldable pub number_checks : Setting → ℕ → ℕ → ℕ → ℕ → List Step
number_checks σ a e w n = bit_checks n e w ++ ((scale a (σ.modulus - 1) ∷ []) ++ bit_sum n w (w + 3 * n))

-- "multiply x by y, add the fourth times p - 1, test": the wires a, b and c, and w is the next wire
unfoldable pub product_check : Setting → ℕ → ℕ → ℕ → ℕ → List Step
product_check σ a b c w = multiply a b ∷ scale c (σ.modulus - 1) ∷ add w (suc w) ∷ test (suc (suc w)) ∷ []

-- "The steps are: the four entries; the kind 19 checks for x and then for y over their own bits; multiply x by x, add the second
-- entry times p - 1, test; multiply x by y, add the fourth times p - 1, test": q is the wire behind the checks
unfoldable pub point_checks : Setting → ℕ → ℕ → ℕ → ℕ → List Step
point_checks σ e w q n =
    number_checks σ w (e + 4) (w + 4) n
    ++ (number_checks σ (w + 2) (e + 4 + n) (w + 4 + (5 * n + 1)) n
    ++ (product_check σ w w (w + 1) q ++ product_check σ w (w + 2) (w + 3) (q + 3)))

unfoldable pub point_steps : Setting → ℕ → ℕ → ℕ → List Step
point_steps σ e w n =
    entry e ∷ entry (e + 1) ∷ entry (e + 2) ∷ entry (e + 3) ∷ point_checks σ e w (w + 4 + (5 * n + 1) + (5 * n + 1)) n

-- "Kind 17 is one bit check. Kind 18: B bit checks; then the options' sum; test the last sum. Kind 19: entry v; b bit
-- checks; v times p - 1; then the bits' sum; test the last sum."
-- The column's first entry is e, and w is the next wire
unfoldable pub column_steps : Setting → ℕ → ℕ → Column → List Step
column_steps σ e w yes_no = bit_checks 1 e w
column_steps σ e w (choice n) = bit_checks n e w ++ (option_adds n w (w + 3 * n) ++ (test (option_sum (w + 3 * n) n) ∷ []))
column_steps σ e w (number n) = (entry e ∷ []) ++ number_checks σ w (suc e) (suc w) n
column_steps σ e w (top n) = top_steps σ e w (bit_length n) n
column_steps σ e w (point n) = point_steps σ e w n

-- the additions and the products with a constant among a column's steps: in the bit checks, then in the sums
unfoldable pub adds_of : Column → ℕ
adds_of yes_no = 1
adds_of (choice n) = n + n
adds_of (number n) = n + n
adds_of (top n) = suc (4 * bit_length n)
adds_of (point n) = 4 * n + 2

unfoldable pub scales_of : Column → ℕ
scales_of yes_no = 0
scales_of (choice n) = 0
scales_of (number n) = suc n
scales_of (top n) = suc (2 * bit_length n)
scales_of (point n) = 2 * n + 4

-- its constants
unfoldable pub constants_of : Column → ℕ
constants_of yes_no = 0
constants_of (choice n) = 0
constants_of (number n) = 0
constants_of (top n) = 1
constants_of (point n) = 0

-- the wires, multiplications and tests of a column's steps
unfoldable pub wires_of : Column → ℕ
wires_of yes_no = 3
wires_of (choice n) = 3 * n + n
wires_of (number n) = suc (3 * n) + suc (2 * n)
wires_of (top n) = 10 * bit_length n + 4
wires_of (point n) = 10 * n + 12

unfoldable pub gates_of : Column → ℕ
gates_of yes_no = 1
gates_of (choice n) = n
gates_of (number n) = n
gates_of (top n) = 2 * bit_length n
gates_of (point n) = 2 * n + 2

-- of the multiplications, those that check a bit; the others stand behind them
unfoldable pub bits_of : Column → ℕ
bits_of yes_no = 1
bits_of (choice n) = n
bits_of (number n) = n
bits_of (top n) = 2 * bit_length n
bits_of (point n) = 2 * n

-- the entries that those others multiply, where the column's first entry is e
pub record Product : Type 0 where
  pub left : ℕ
  pub right : ℕ

unfoldable pub products_at : ℕ → Column → List Product
products_at e yes_no = []
products_at e (choice n) = []
products_at e (number n) = []
products_at e (top n) = []
products_at e (point n) = record { left = e; right = e } ∷ record { left = e; right = e + 2 } ∷ []

-- how many they are
unfoldable pub products_of : Column → ℕ
products_of c = length (products_at 0 c)

unfoldable pub tests_of : Column → ℕ
tests_of yes_no = 1
tests_of (choice n) = n + 1
tests_of (number n) = n + 1
tests_of (top n) = 2 * bit_length n + 2
tests_of (point n) = 2 * n + 4

-- "A sheet's circuit starts with the constant p - 1, wire 0. Then for each column"
unfoldable pub circuit_from : Setting → ℕ → ℕ → List Column → List Step
circuit_from σ e w [] = []
circuit_from σ e w (c ∷ cs) = column_steps σ e w c ++ circuit_from σ (e + entries_of c) (w + wires_of c) cs

unfoldable pub circuit_of : Setting → List Column → List Step
circuit_of σ cs = constant (σ.modulus - 1) ∷ circuit_from σ 0 1 cs

-- wires, M and K of a sheet's circuit
unfoldable pub wires_in : List Column → ℕ
wires_in [] = 0
wires_in (c ∷ cs) = wires_of c + wires_in cs

unfoldable pub gates_in : List Column → ℕ
gates_in [] = 0
gates_in (c ∷ cs) = gates_of c + gates_in cs

unfoldable pub products_in : List Column → ℕ
products_in [] = 0
products_in (c ∷ cs) = products_of c + products_in cs

unfoldable pub tests_in : List Column → ℕ
tests_in [] = 0
tests_in (c ∷ cs) = tests_of c + tests_in cs

-- and its additions, products with a constant, and constants behind wire 0
unfoldable pub adds_in : List Column → ℕ
adds_in [] = 0
adds_in (c ∷ cs) = adds_of c + adds_in cs

unfoldable pub scales_in : List Column → ℕ
scales_in [] = 0
scales_in (c ∷ cs) = scales_of c + scales_in cs

unfoldable pub constants_in : List Column → ℕ
constants_in [] = 0
constants_in (c ∷ cs) = constants_of c + constants_in cs
