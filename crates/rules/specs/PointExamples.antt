-- Columns of two numbers and the line through them, by rows that compute: their limits on both sides, entries and steps, what a
-- sheet with them comes to, lists that are none of their encodings, and the line told from joined totals.
-- Assumes nothing.
use Rattle.std.specs.Prelude.{Bool, ◌&&◌, not, List, [], ◌∷◌, ◌++◌, ℕ, eqb, ℤ, pos, negsuc, ◌-ℤ◌, get_or}
use Rattle.algebra.specs.Lists.{every, count_from}
use Rattle.algebra.specs.Modulo.{modulo}
use Rattle.words.specs.Bytes.{bytes_of, bytes_of_all}
use Rattle.rules.specs.Columns.{largest_in, sheet_fault, columns_of, published_from}
use Rattle.rules.specs.Circuit.{circuit_of, circuit_bytes}
use Rattle.rules.specs.CircuitReader.{circuit_fault}
use Rattle.rules.specs.Run.{run, on_list}
use Rattle.rules.specs.Values.{encoding}
use Rattle.rules.specs.EveryReturn.{lists_in}
use Rattle.rules.specs.Making.{make_refusal}
use Rattle.rules.specs.Recount.{recount_text}
use Rattle.rules.specs.Line.{Sums, determinant, slope, intercept, is_zero, line_sums, line_refusal}
use Rattle.rules.specs.Examples.{Row, row, P, σ, same, to_open}
use Rattle.rules.specs.CallExamples.{sizes_row}

-- "Column kind 21: 1 byte b"
abbrev of_bits : ℕ → List ℕ
of_bits b = 21 ∷ b ∷ []

-- the circuit of 21 1, by document 02's words: the four entries; the checks for x over its bit, and for y over its own; x times x,
-- the second entry times p - 1, their sum, its test; x times y, the fourth entry times p - 1, their sum, its test
abbrev minus_one : List ℕ
minus_one = 0xFE ∷ 0xFF ∷ 0xFF ∷ 0x7F ∷ []

abbrev circuit_of_one : List ℕ
circuit_of_one =
    (1 ∷ minus_one)
    ++ (2 ∷ 0 ∷ 0 ∷ 2 ∷ 1 ∷ 0 ∷ 2 ∷ 2 ∷ 0 ∷ 2 ∷ 3 ∷ 0 ∷ [])
    ++ (2 ∷ 4 ∷ 0 ∷ 3 ∷ 5 ∷ 0 ∷ 0 ∷ 0 ∷ 5 ∷ 5 ∷ 0 ∷ 6 ∷ 0 ∷ 6 ∷ 7 ∷ 0 ∷ [])
    ++ (4 ∷ 1 ∷ 0 ∷ minus_one)
    ++ (4 ∷ 5 ∷ 0 ∷ 1 ∷ 0 ∷ 0 ∷ 0 ∷ 3 ∷ 8 ∷ 0 ∷ 9 ∷ 0 ∷ 6 ∷ 10 ∷ 0 ∷ [])
    ++ (2 ∷ 5 ∷ 0 ∷ 3 ∷ 11 ∷ 0 ∷ 0 ∷ 0 ∷ 5 ∷ 11 ∷ 0 ∷ 12 ∷ 0 ∷ 6 ∷ 13 ∷ 0 ∷ [])
    ++ (4 ∷ 3 ∷ 0 ∷ minus_one)
    ++ (4 ∷ 11 ∷ 0 ∷ 1 ∷ 0 ∷ 0 ∷ 0 ∷ 3 ∷ 14 ∷ 0 ∷ 15 ∷ 0 ∷ 6 ∷ 16 ∷ 0 ∷ [])
    ++ (5 ∷ 1 ∷ 0 ∷ 1 ∷ 0 ∷ 4 ∷ 2 ∷ 0 ∷ minus_one)
    ++ (3 ∷ 17 ∷ 0 ∷ 18 ∷ 0 ∷ 6 ∷ 19 ∷ 0 ∷ [])
    ++ (5 ∷ 1 ∷ 0 ∷ 3 ∷ 0 ∷ 4 ∷ 4 ∷ 0 ∷ minus_one)
    ++ (3 ∷ 20 ∷ 0 ∷ 21 ∷ 0 ∷ 6 ∷ 22 ∷ 0 ∷ [])

-- whether all tests of b bits are zero on the list x
abbrev passes : ℕ → List ℕ → Bool
passes b x = every (λ y. eqb y 0) (run (on_list (modulo P) (λ e. get_or x e 0)) (circuit_of σ (columns_of (of_bits b)))).tests

-- ---- the line: yes/no, a number and a point of 3 bits each, which is column 3
abbrev plates : List ℕ
plates = 17 ∷ 19 ∷ 3 ∷ of_bits 3

-- the totals messages of two servers: the count and server 0's totals as given, server 1's totals below them
abbrev joined_of : ℕ → List ℕ → List ℕ → List ℕ
joined_of count a b = (36 ∷ 0 ∷ bytes_of 4 count) ++ bytes_of_all 4 a ++ (36 ∷ 1 ∷ bytes_of 4 count) ++ bytes_of_all 4 b

-- (1, 1), (2, 3), (3, 5): sums 6, 14, 9 and 22
abbrev three : List ℕ
three = joined_of 3 (2 ∷ 5 ∷ 2147483646 ∷ 10 ∷ 4 ∷ 22 ∷ []) (0 ∷ 1 ∷ 7 ∷ 4 ∷ 5 ∷ 0 ∷ [])

-- (2, 1) and (2, 3)
abbrev level : List ℕ
level = joined_of 2 (0 ∷ 0 ∷ 4 ∷ 8 ∷ 4 ∷ 8 ∷ []) (0 ∷ 0 ∷ 0 ∷ 0 ∷ 0 ∷ 0 ∷ [])

-- no return
abbrev none : List ℕ
none = joined_of 0 (0 ∷ 0 ∷ 0 ∷ 0 ∷ 0 ∷ 0 ∷ []) (0 ∷ 0 ∷ 0 ∷ 0 ∷ 0 ∷ 0 ∷ [])

-- totals of no points: the sum of x × x is too small
abbrev formless : List ℕ
formless = joined_of 3 (2 ∷ 5 ∷ 6 ∷ 1 ∷ 9 ∷ 22 ∷ []) (0 ∷ 0 ∷ 0 ∷ 0 ∷ 0 ∷ 0 ∷ [])

abbrev refusal_of : List ℕ → ℕ → ℕ
refusal_of joined column = line_refusal σ 2 plates 10 joined column

-- D, slope and intercept of column 3
abbrev tells : List ℕ → ℤ → ℤ → ℤ → Bool
tells joined d k c =
    let s : Sums = line_sums σ 2 plates joined 3 in
    is_zero (determinant s -ℤ d) && (is_zero (slope s -ℤ k) && is_zero (intercept s -ℤ c))

-- recount of these: "accepted 3", and of column 3 the options 0 to 3 with 6, 14, 9 and 22
abbrev recount_three : List ℕ
recount_three = bytes_of 2 5 ++ plates ++ (2 ∷ 10 ∷ 0 ∷ []) ++ three

abbrev recounted_three : List ℕ
recounted_three =
    (97 ∷ 99 ∷ 99 ∷ 101 ∷ 112 ∷ 116 ∷ 101 ∷ 100 ∷ 32 ∷ 51 ∷ 10 ∷ [])
    ++ (49 ∷ 32 ∷ 48 ∷ 32 ∷ 50 ∷ 10 ∷ [])
    ++ (50 ∷ 32 ∷ 48 ∷ 32 ∷ 54 ∷ 10 ∷ [])
    ++ (51 ∷ 32 ∷ 48 ∷ 32 ∷ 54 ∷ 10 ∷ [])
    ++ (51 ∷ 32 ∷ 49 ∷ 32 ∷ 49 ∷ 52 ∷ 10 ∷ [])
    ++ (51 ∷ 32 ∷ 50 ∷ 32 ∷ 57 ∷ 10 ∷ [])
    ++ (51 ∷ 32 ∷ 51 ∷ 32 ∷ 50 ∷ 50 ∷ 10 ∷ [])

unfoldable pub points : List Row
points =
    row "b = 0: 2" (eqb (sheet_fault (of_bits 0)) 2)
    ∷ row "b = 1 and 12 are read" (eqb (sheet_fault (of_bits 1)) 0 && eqb (sheet_fault (of_bits 12)) 0)
    ∷ row "b = 13: 2" (eqb (sheet_fault (of_bits 13)) 2)
    ∷ row "byte 21 alone: 1" (eqb (sheet_fault (21 ∷ [])) 1)
    ∷ row "byte 22: 1" (eqb (sheet_fault (22 ∷ 1 ∷ 0 ∷ 0 ∷ 0 ∷ [])) 1)
    ∷ row "b = 1: 6 entries, 4 published, 23 wires, 4 multiplications, 6 tests, 133 bytes"
    (same (sizes_row (of_bits 1)) (1 ∷ 6 ∷ 4 ∷ 23 ∷ 4 ∷ 6 ∷ 133 ∷ 86 ∷ 1024 ∷ []))
    ∷ row "b = 12: 28 entries, 4 published, 133 wires, 26 multiplications, 28 tests, 749 bytes, N at most 128"
    (same (sizes_row (of_bits 12)) (1 ∷ 28 ∷ 4 ∷ 133 ∷ 26 ∷ 28 ∷ 749 ∷ 350 ∷ 128 ∷ []))
    ∷ row "the circuit of b = 1, byte by byte" (same (circuit_bytes σ (circuit_of σ (columns_of (of_bits 1)))) circuit_of_one)
    ∷ row "the circuit of b = 3 is read" (eqb (circuit_fault σ 10 (circuit_bytes σ (circuit_of σ (columns_of (of_bits 3))))) 0)
    ∷ row "the first four entries are published" (same (published_from 0 (columns_of (of_bits 1 ++ (17 ∷ [])))) (0 ∷ 1 ∷ 2 ∷ 3 ∷ 6 ∷ []))
    ∷ row "b = 2 encodes 3 + 4 × 1 as 3, 9, 1, 3, 1 1, 1 0"
    (same (encoding (columns_of (of_bits 2)) (7 ∷ [])) (3 ∷ 9 ∷ 1 ∷ 3 ∷ 1 ∷ 1 ∷ 1 ∷ 0 ∷ []))
    ∷ row "b = 1: the four encodings pass" (every (λ v. passes 1 (encoding (columns_of (of_bits 1)) (v ∷ []))) (count_from 0 4))
    ∷ row "b = 1: a square or a product that is none does not pass"
    (not (passes 1 (1 ∷ 0 ∷ 1 ∷ 1 ∷ 1 ∷ 1 ∷ [])) && not (passes 1 (1 ∷ 1 ∷ 1 ∷ 0 ∷ 1 ∷ 1 ∷ [])))
    ∷ row "b = 1: the bits of x and y in the other order do not pass"
    (not (passes 1 (1 ∷ 1 ∷ 0 ∷ 0 ∷ 0 ∷ 1 ∷ [])) && not (passes 1 (0 ∷ 0 ∷ 1 ∷ 0 ∷ 1 ∷ 0 ∷ [])))
    ∷ row "b = 1: 3 is a value, 4 is none"
    (eqb (make_refusal σ (of_bits 1) 2 (bytes_of 4 3) [] 1000) 6 && eqb (make_refusal σ (of_bits 1) 2 (bytes_of 4 4) [] 1000) 5)
    ∷ row "b = 3: 64 values" (eqb (lists_in (columns_of (of_bits 3))) 64)
    ∷ row "b = 12: the largest value is 4,095 × 4,095" (eqb (largest_in (columns_of (of_bits 12))) 16769025)
    ∷ row "b = 12: N = 128 opens, 129 is refused 4" (eqb (to_open (of_bits 12) 128) 0 && eqb (to_open (of_bits 12) 129) 4)
    ∷ row "recount prints the four entries as options 0 to 3" (same (recount_text σ recount_three) recounted_three)
    ∷ []

unfoldable pub lines : List Row
lines =
    row "(1, 1), (2, 3), (3, 5): D = 6, slope 12 / 6, intercept -6 / 6"
    (eqb (refusal_of three 3) 0 && tells three (pos 6) (pos 12) (negsuc 5))
    ∷ row "all x equal: 18" (eqb (refusal_of level 3) 18)
    ∷ row "no return: 18" (eqb (refusal_of none 3) 18)
    ∷ row "totals of no points: D = 3 - 36 is given" (eqb (refusal_of formless 3) 0 && tells formless (negsuc 32) (pos 12) (negsuc 122))
    ∷ row "a column of kind 19: 2" (eqb (refusal_of three 2) 2)
    ∷ row "column 0, and one past the last: 2" (eqb (refusal_of three 0) 2 && eqb (refusal_of three 4) 2)
    ∷ row "2 for the column before 12" (eqb (refusal_of [] 2) 2 && eqb (refusal_of [] 3) 12)
    ∷ row "12 before 18" (eqb (line_refusal σ 2 plates 1 level 3) 12)
    ∷ row "4 before 2 for the column" (eqb (line_refusal σ 2 (of_bits 12) 129 [] 2) 4)
    ∷ row "S, then the sheet, then N"
    (eqb (line_refusal σ 1 [] 0 [] 0) 2 && (eqb (line_refusal σ 2 (22 ∷ []) 0 [] 0) 1 && eqb (line_refusal σ 2 (of_bits 12) 0 [] 0) 2))
    ∷ []
