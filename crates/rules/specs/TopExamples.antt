-- A column with a top of its own, by rows that compute: its limits on both sides, its entries and steps, what a sheet with
-- it comes to, and the values past its top that still fit its bits.
-- Assumes nothing.
use Rattle.std.specs.Prelude.{Bool, ◌&&◌, not, List, [], ◌∷◌, ◌++◌, ℕ, zero, suc, ◌-◌, ◌/◌, ◌%◌, eqb, length, get_or}
use Rattle.algebra.specs.Lists.{every, count_from}
use Rattle.algebra.specs.Modulo.{modulo}
use Rattle.words.specs.Bytes.{bytes_of, bytes_of_all}
use Rattle.rules.specs.Columns.{sheet_fault, columns_of, published_from}
use Rattle.rules.specs.Circuit.{circuit_of, circuit_bytes}
use Rattle.rules.specs.CircuitReader.{circuit_fault}
use Rattle.rules.specs.Run.{run, on_list}
use Rattle.rules.specs.Values.{encoding}
use Rattle.rules.specs.Making.{make_refusal}
use Rattle.rules.specs.Recount.{recount_text}
use Rattle.rules.specs.Examples.{Row, row, P, σ, same, wide, to_open}
use Rattle.rules.specs.CallExamples.{sizes_row}

-- "Column kind 20: a 4-byte top T"; "Hours stop at 200"
abbrev topped : ℕ → List ℕ
topped T = 20 ∷ bytes_of 4 T

abbrev hours : List ℕ
hours = topped 200

-- n columns of the top 1, and one 17
abbrev longest : ℕ → List ℕ
longest zero = 17 ∷ []
longest (suc n) = topped 1 ++ longest n

-- the circuit of 20 1, by document 02's words: entry v; the two bit checks; v times p - 1, the first bit times 1, their sum,
-- its test; the constant p - 1, that and v, the second bit times 1, the sum, its test
abbrev circuit_of1 : List ℕ
circuit_of1 =
    (1 ∷ 0xFE ∷ 0xFF ∷ 0xFF ∷ 0x7F ∷ 2 ∷ 0 ∷ 0 ∷ [])
    ++ (2 ∷ 1 ∷ 0 ∷ 3 ∷ 2 ∷ 0 ∷ 0 ∷ 0 ∷ 5 ∷ 2 ∷ 0 ∷ 3 ∷ 0 ∷ 6 ∷ 4 ∷ 0 ∷ [])
    ++ (2 ∷ 2 ∷ 0 ∷ 3 ∷ 5 ∷ 0 ∷ 0 ∷ 0 ∷ 5 ∷ 5 ∷ 0 ∷ 6 ∷ 0 ∷ 6 ∷ 7 ∷ 0 ∷ [])
    ++ (4 ∷ 1 ∷ 0 ∷ 0xFE ∷ 0xFF ∷ 0xFF ∷ 0x7F ∷ 4 ∷ 2 ∷ 0 ∷ 1 ∷ 0 ∷ 0 ∷ 0 ∷ 3 ∷ 8 ∷ 0 ∷ 9 ∷ 0 ∷ 6 ∷ 10 ∷ 0 ∷ [])
    ++ (1 ∷ 0xFE ∷ 0xFF ∷ 0xFF ∷ 0x7F ∷ 3 ∷ 11 ∷ 0 ∷ 1 ∷ 0 ∷ 4 ∷ 5 ∷ 0 ∷ 1 ∷ 0 ∷ 0 ∷ 0 ∷ 3 ∷ 12 ∷ 0 ∷ 13 ∷ 0 ∷ 6 ∷ 14 ∷ 0 ∷ [])

-- whether all tests of the top 5 are zero on v, its three bits, and the three bits of w
abbrev passes : ℕ → ℕ → Bool
passes v w =
    let x : List ℕ = v ∷ v % 2 ∷ v / 2 % 2 ∷ v / 4 % 2 ∷ w % 2 ∷ w / 2 % 2 ∷ w / 4 % 2 ∷ [] in
    every (λ y. eqb y 0) (run (on_list (modulo P) (λ e. get_or x e 0)) (circuit_of σ (columns_of (topped 5)))).tests

-- recount of sheet 20 200, S = 2, N = 10: one entered return of 150
abbrev recount_hours : List ℕ
recount_hours =
    bytes_of 2 5
    ++ hours
    ++ (2 ∷ 10 ∷ 0 ∷ [])
    ++ (36 ∷ 0 ∷ 1 ∷ 0 ∷ 0 ∷ 0 ∷ bytes_of_all 4 (200 ∷ []))
    ++ (36 ∷ 1 ∷ 1 ∷ 0 ∷ 0 ∷ 0 ∷ bytes_of_all 4 (2147483597 ∷ []))

-- "accepted 1", "1 0 150"
abbrev recounted_hours : List ℕ
recounted_hours =
    (97 ∷ 99 ∷ 99 ∷ 101 ∷ 112 ∷ 116 ∷ 101 ∷ 100 ∷ 32 ∷ 49 ∷ 10 ∷ [])
    ++ (49 ∷ 32 ∷ 48 ∷ 32 ∷ 49 ∷ 53 ∷ 48 ∷ 10 ∷ [])

unfoldable pub tops : List Row
tops =
    row "T = 0: 2" (eqb (sheet_fault (topped 0)) 2)
    ∷ row "T = 1 is read" (eqb (sheet_fault (topped 1)) 0)
    ∷ row "T = 16,777,215 is read" (eqb (sheet_fault (topped 16777215)) 0)
    ∷ row "T = 16,777,216: 2" (eqb (sheet_fault (topped 16777216)) 2)
    ∷ row "3 bytes behind byte 20: 1" (eqb (sheet_fault (20 ∷ 200 ∷ 0 ∷ 0 ∷ [])) 1)
    ∷ row "the longest sheet has 426 bytes" (eqb (length (longest 85)) 426 && eqb (sheet_fault (longest 85)) 0)
    ∷ row "one entry more: 2" (eqb (sheet_fault (longest 85 ++ (17 ∷ []))) 2)
    ∷ row "T = 200: 17 entries, 1 published, 85 wires, 16 multiplications, 18 tests, 479 bytes"
    (same (sizes_row hours) (1 ∷ 17 ∷ 1 ∷ 85 ∷ 16 ∷ 18 ∷ 479 ∷ 226 ∷ 1024 ∷ []))
    ∷ row "the circuit of T = 1, byte by byte" (same (circuit_bytes σ (circuit_of σ (columns_of (topped 1)))) circuit_of1)
    ∷ row "the circuit of T = 200 is read" (eqb (circuit_fault σ 17 (circuit_bytes σ (circuit_of σ (columns_of hours)))) 0)
    ∷ row "only v is published" (same (published_from 0 (columns_of (hours ++ (17 ∷ [])))) (0 ∷ 17 ∷ []))
    ∷ row "T = 5 encodes 4 as 4, 0 0 1, 1 0 0"
    (same (encoding (columns_of (topped 5)) (4 ∷ [])) (4 ∷ 0 ∷ 0 ∷ 1 ∷ 1 ∷ 0 ∷ 0 ∷ []))
    ∷ row "T = 5: 0 to 5 pass with the bits of 5 - v" (every (λ v. passes v (5 - v)) (count_from 0 6))
    ∷ row "6 and 7, which fit three bits, pass with no second bits"
    (every (λ w. not (passes 6 w) && not (passes 7 w)) (count_from 0 8))
    ∷ row "T = 200: 200 is a value, 201 is none"
    (eqb (make_refusal σ hours 2 (bytes_of 4 200) [] 1000) 6 && eqb (make_refusal σ hours 2 (bytes_of 4 201) [] 1000) 5)
    ∷ row "T = 16,777,215: N = 128 opens, 129 is refused 4" (eqb (to_open wide 128) 0 && eqb (to_open wide 129) 4)
    ∷ row "T = 2,097,152: N = 1,023 opens, 1,024 is refused 4"
    (eqb (to_open (topped 2097152) 1023) 0 && eqb (to_open (topped 2097152) 1024) 4)
    ∷ row "recount prints v as option 0" (same (recount_text σ recount_hours) recounted_hours)
    ∷ []
