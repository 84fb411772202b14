-- The bytes of a column's steps, run by run as they are written, and of a sheet's circuit, column by column; and how many
-- there are. Assumes that the sheet is read, where it is said.
use mathlib.Core.Path.{◌≡◌, refl, sym, ap, ap₂, ◌∙◌}
use mathlib.Core.List.{List, [], ◌∷◌, ◌++◌, append_assoc, append-nil}
use Prim.Native.Nat.{ℕ, suc, ◌+◌, ◌-◌, ◌*◌, ◌<◌}
use native.Mathlib.Nat.{add_assoc, add-zero, zero-add}
use native.Mathlib.Numerals.{add-one, add-two}
use native.Mathlib.Omega.{arith}
use lib.ListN.{length, get_or, take, length-append}
use lib.Seq.{take-suc}
use Rattle.words.specs.Bytes.{bytes_of}
use Rattle.words.proofs.Numbers.{length_bytes}
use Rattle.rules.specs.Settings.{document01}
use Rattle.rules.specs.Columns.{Column, yes_no, choice, number, top, point, bit_length, entries_of, entries_in, columns_of}
use Rattle.rules.specs.Circuit.{Step, constant, entry, add, scale, multiply, test, step_bytes, circuit_bytes, bit_checks, option_adds}
use Rattle.rules.specs.Circuit.{option_sum, bit_adds, bit_sum, top_sums, top_steps, number_checks, product_check, point_checks, point_steps}
use Rattle.rules.specs.Circuit.{column_steps, wires_of, circuit_from, circuit_of, wires_in}
use Rattle.rules.specs.Circuit.{constants_of, adds_of, scales_of, gates_of, tests_of}
use Rattle.rules.specs.CircuitReader.{sheet_circuit}
use Rattle.rules.specs.Sizes.{size_by_kind, column_size}
use Rattle.rules.proofs.Circuits.Size.{column_size_lem}
use Rattle.columns.proofs.Sums.{Total}
use Rattle.compile.specs.Writing.{rest_steps}
use Rattle.compile.proofs.Runs.{bytes, bytes_none, bytes_next, bytes_append, bytes_one}

-- ---- a column
pub choice_is : (n e w : ℕ)
    → bytes (column_steps document01 e w (choice n))
    ≡ bytes (bit_checks n e w) ++ bytes (option_adds n w (w + 3 * n) ++ (test (option_sum (w + 3 * n) n) ∷ []))
unfolding column_steps
choice_is n e w = bytes_append (bit_checks n e w) _

-- the checks of a number, and the whole column
pub number_checks_is : (n a e w : ℕ)
    → bytes (number_checks document01 a e w n)
    ≡ bytes (bit_checks n e w) ++ step_bytes document01 (scale a 2147483646)
    ++ bytes (bit_adds n w (w + 3 * n) ++ (test (w + 3 * n + 2 * n) ∷ []))
unfolding number_checks bit_sum
number_checks_is n a e w = simp (bytes_append, bytes_one, append_assoc)

pub number_is : (n e w : ℕ)
    → bytes (column_steps document01 e w (number n))
    ≡ step_bytes document01 (entry e) ++ bytes (number_checks document01 w (e + 1) (w + 1) n)
unfolding column_steps
number_is n e w = simp (add-one, bytes_append, bytes_one)

-- the check of a product, the checks of a point, and the whole column
pub product_check_is : (a b c w : ℕ)
    → bytes (product_check document01 a b c w)
    ≡ step_bytes document01 (multiply a b) ++ step_bytes document01 (scale c 2147483646) ++ step_bytes document01 (add w (w + 1))
    ++ step_bytes document01 (test (w + 2))
unfolding product_check circuit_bytes
product_check_is a b c w = rw (append-nil, add-one, add-two) (simp append_assoc)

pub point_checks_is : (n e w q : ℕ)
    → bytes (point_checks document01 e w q n)
    ≡ bytes (number_checks document01 w (e + 4) (w + 4) n)
    ++ bytes (number_checks document01 (w + 2) (e + 4 + n) (w + 4 + (5 * n + 1)) n)
    ++ bytes (product_check document01 w w (w + 1) q) ++ bytes (product_check document01 w (w + 2) (w + 3) (q + 3))
unfolding point_checks
point_checks_is n e w q = simp (bytes_append, append_assoc)

pub point_is : (n e w : ℕ)
    → bytes (column_steps document01 e w (point n))
    ≡ step_bytes document01 (entry e) ++ step_bytes document01 (entry (e + 1)) ++ step_bytes document01 (entry (e + 2))
    ++ step_bytes document01 (entry (e + 3)) ++ bytes (point_checks document01 e w (w + 4 + (5 * n + 1) + (5 * n + 1)) n)
unfolding column_steps point_steps
point_is n e w = simp (bytes_next, append_assoc)

-- the second sum of a top, and the whole column; b is the bit length, q the wire of v times p - 1, r that of the constant
pub rest_is : (n b w q : ℕ)
    → bytes (rest_steps n b w q)
    ≡ step_bytes document01 (constant (2147483647 - n)) ++ step_bytes document01 (add q w)
    ++ bytes (bit_adds b (w + 1 + 3 * b) (q + 1) ++ (test (q + 1 + 2 * b) ∷ []))
unfolding circuit_bytes bit_sum
rest_is n b w q = sym (append_assoc (step_bytes document01 (constant (2147483647 - n))) (step_bytes document01 (add q w)) _)

pub top_is : (n e w b q r : ℕ) → b ≡ bit_length n → q ≡ w + 1 + 6 * b → r ≡ q + 2 * b + 1
    → bytes (column_steps document01 e w (top n))
    ≡ step_bytes document01 (entry e) ++ bytes (bit_checks (2 * b) (e + 1) (w + 1)) ++ step_bytes document01 (scale w 2147483646)
    ++ bytes (bit_adds b (w + 1) q ++ (test (q + 2 * b) ∷ [])) ++ bytes (rest_steps n b w r)
unfolding column_steps top_steps top_sums bit_sum
top_is n e w b q r long first second =
    let three : suc w + 3 * (2 * b) ≡ q = omega arith in
    let last : suc (q + 2 * b) ≡ r = omega arith in
    rw (← long, three, last)
    (simp (add-one, bytes_next, bytes_append, bytes_none, append_assoc, append-nil))

-- how many bytes a column's steps have, by the table of body lengths
pub choice_size : (n : ℕ) → column_size document01 (choice n) ≡ 21 * n + 3
unfolding column_size size_by_kind entries_of constants_of adds_of scales_of gates_of tests_of
choice_size n = omega arith

pub number_size : (n : ℕ) → column_size document01 (number n) ≡ 28 * n + 13
unfolding column_size size_by_kind entries_of constants_of adds_of scales_of gates_of tests_of
number_size n = omega arith

pub top_size : (n b : ℕ) → b ≡ bit_length n → column_size document01 (top n) ≡ 56 * b + 26
unfolding column_size size_by_kind entries_of constants_of adds_of scales_of gates_of tests_of
top_size n b e = omega arith

pub point_size : (n : ℕ) → column_size document01 (point n) ≡ 56 * n + 72
unfolding column_size size_by_kind entries_of constants_of adds_of scales_of gates_of tests_of
point_size n = omega arith

pub yes_no_size : column_size document01 yes_no ≡ 16
unfolding column_size size_by_kind entries_of constants_of adds_of scales_of gates_of tests_of
yes_no_size = refl

-- ---- sums over columns
unfoldable pub sizes_in : List Column → ℕ
sizes_in [] = 0
sizes_in (c ∷ cs) = column_size document01 c + sizes_in cs

pub sizes : Total (column_size document01) sizes_in
unfolding sizes_in
sizes = record { nothing = refl; next = λ c cs. refl }

pub wires : Total wires_of wires_in
unfolding wires_in
wires = record { nothing = refl; next = λ c cs. refl }

-- the circuit of columns, and one column more
from_append : (a b : List Column) (e w : ℕ)
    → circuit_from document01 e w (a ++ b)
    ≡ circuit_from document01 e w a ++ circuit_from document01 (e + entries_in a) (w + wires_in a) b
unfolding circuit_from entries_in wires_in
from_append [] b e w = rw (add-zero e, add-zero w)
from_append (c ∷ a) b e w =
    rw (from_append a b (e + entries_of c) (w + wires_of c), add_assoc e, add_assoc w, append_assoc)

last_column : (e w : ℕ) (c : Column) → circuit_from document01 e w (c ∷ []) ≡ column_steps document01 e w c
unfolding circuit_from
last_column e w c = append-nil (column_steps document01 e w c)

from_more : (a : List Column) (c : Column)
    → bytes (circuit_from document01 0 1 (a ++ (c ∷ [])))
    ≡ bytes (circuit_from document01 0 1 a) ++ bytes (column_steps document01 (entries_in a) (1 + wires_in a) c)
from_more a c =
    ap bytes
    (from_append a (c ∷ []) 0 1
    ∙ ap (λ (l : List Step). circuit_from document01 0 1 a ++ l)
    (last_column (0 + entries_in a) (1 + wires_in a) c
    ∙ ap (λ (e : ℕ). column_steps document01 e (1 + wires_in a) c) (zero-add (entries_in a))))
    ∙ bytes_append (circuit_from document01 0 1 a) (column_steps document01 (entries_in a) (1 + wires_in a) c)

pub from_none : bytes (circuit_from document01 0 1 []) ≡ []
unfolding circuit_from
from_none = bytes_none

pub from_next : (cs : List Column) (k : ℕ) → k < length cs
    → bytes (circuit_from document01 0 1 (take (k + 1) cs))
    ≡ bytes (circuit_from document01 0 1 (take k cs))
    ++ bytes (column_steps document01 (entries_in (take k cs)) (1 + wires_in (take k cs)) (get_or cs k yes_no))
from_next cs k h =
    let one : take (k + 1) cs ≡ take k cs ++ (get_or cs k yes_no ∷ []) = rw (add-one, take-suc cs k yes_no h) in
    ap (λ (l : List Column). bytes (circuit_from document01 0 1 l)) one ∙ from_more (take k cs) (get_or cs k yes_no)

from_long : (cs : List Column) (e w : ℕ) → length (bytes (circuit_from document01 e w cs)) ≡ sizes_in cs
unfolding circuit_from sizes_in
from_long [] e w = ap length bytes_none
from_long (c ∷ cs) e w =
    ap length (bytes_append (column_steps document01 e w c) (circuit_from document01 (e + entries_of c) (w + wires_of c) cs))
    ∙ length-append (bytes (column_steps document01 e w c)) _
    ∙ ap₂ ◌+◌ (column_size_lem document01 c e w) (from_long cs (e + entries_of c) (w + wires_of c))

-- ---- the whole circuit
pub sheet_is : (s : List ℕ)
    → sheet_circuit document01 s ≡ (1 ∷ bytes_of 4 2147483646) ++ bytes (circuit_from document01 0 1 (columns_of s))
unfolding sheet_circuit circuit_of circuit_bytes step_bytes
sheet_is s = refl

pub sheet_long : (s : List ℕ) → length (sheet_circuit document01 s) ≡ 5 + sizes_in (columns_of s)
sheet_long s =
    ap length (sheet_is s)
    ∙ length-append (1 ∷ bytes_of 4 2147483646) (bytes (circuit_from document01 0 1 (columns_of s)))
    ∙ ap₂ ◌+◌ (ap suc (length_bytes 4 2147483646)) (from_long (columns_of s) 0 1)
