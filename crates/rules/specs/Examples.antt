-- Document 01, "Examples at the bench": the marked cases as one table, then the others, with cases of the readings that
-- docs/DECISIONS.md tells and of the limits. Each row says what it shows and is a test that computes; proofs/Computed has
-- them pass. TopExamples has the rows about a column with a top
-- of its own, TableExamples those about a server's table.
-- Assumes nothing.
use Rattle.std.specs.Prelude.{Bool, ◌&&◌, not, List, [], ◌∷◌, ◌++◌, ℕ, suc, ◌+◌, ◌-◌, ◌*◌, eqb, length, get_or, replicate}
use Prim.Native.String.{String}
use Rattle.algebra.specs.Modulo.{modulo}
use Rattle.words.specs.Bytes.{bytes_of, bytes_of_all, same_bytes}
use Rattle.rules.specs.Settings.{Setting, document01}
use Rattle.rules.specs.Columns.{Column, yes_no, choice, entries_in, published_from, fault_in, sheet_fault, columns_of}
use Rattle.rules.specs.Circuit.{Step, constant, multiply, test, gates_in, tests_in, wires_in, circuit_of, circuit_bytes}
use Rattle.rules.specs.CircuitReader.{circuit_fault, circuit_limits, count_in, step_wires, step_gates, step_tests}
use Rattle.rules.specs.Values.{encoding}
use Rattle.rules.specs.Judging.{folded, tau_of, d_sum, e_sum, sigma_sum, tau_sum, lets_in}
use Rattle.rules.specs.Making.{made_whole, made_share, share_length, share_message, share_of}
use Rattle.rules.specs.Table.{Lent, open_refusal, opened_table, share_refused}
use Rattle.rules.specs.Joining.{join_refusal}
use Rattle.rules.specs.Recount.{recount_text}

pub record Row : Type 0 where
  pub shows : String
  pub holds : Bool

abbrev pub row : String → Bool → Row
row shows holds = record { shows = shows; holds = holds }

abbrev pub P : ℕ
P = 2147483647

abbrev pub σ : Setting
σ = document01

abbrev pub same : List ℕ → List ℕ → Bool
same = same_bytes

-- sheet 17, and its circuit
abbrev pub yes_sheet : List Column
yes_sheet = yes_no ∷ []

abbrev circuit17 : List ℕ
circuit17 =
    0x01 ∷ 0xFE ∷ 0xFF ∷ 0xFF ∷ 0x7F ∷ 0x02 ∷ 0x00 ∷ 0x00 ∷ 0x03 ∷ 0x01 ∷ 0x00 ∷ 0x00 ∷ 0x00 ∷ 0x05 ∷ 0x01 ∷ 0x00 ∷ 0x02
    ∷ 0x00 ∷ 0x06 ∷ 0x03 ∷ 0x00 ∷ []

-- random elements: u_0 = 2, v_0 = 3, a = 5, b = 7, then any share for server 1
abbrev pub random : List ℕ
random = 2 ∷ 3 ∷ 5 ∷ 7 ∷ 10 ∷ 2000 ∷ 300000 ∷ 40000000 ∷ 2147483646 ∷ 60 ∷ 7 ∷ 888888888 ∷ 99 ∷ []

-- the return of a yes, whole and in two shares
abbrev whole_yes : List ℕ
whole_yes = made_whole σ yes_sheet 2 (1 ∷ []) random

abbrev pub honest : ℕ → ℕ → ℕ
honest i e = get_or (made_share σ yes_sheet 2 (1 ∷ []) random i) e 0

-- the false entry 2 with f(0) = 2, g(0) = 3, h(0..2) = 6, 0, 2147483645 and c = a × b, in two shares
abbrev whole_false : List ℕ
whole_false = 2 ∷ 2 ∷ 3 ∷ 6 ∷ 0 ∷ 2147483645 ∷ 5 ∷ 7 ∷ 35 ∷ []

abbrev pub cheat : ℕ → ℕ → ℕ
cheat i e = share_of (modulo P) 2 (λ k. get_or whole_false k 0) (λ j k. get_or random (4 + k) 0) i e

-- the table that server i of two opens for a sheet and N, with Q = 1
abbrev pub opened : ℕ → List ℕ → ℕ → Lent
opened i sheet returns = opened_table σ 2 i sheet returns 1 (record { bytes = []; slots = []; elements = [] })

-- what a fresh table of server 0, opened for a sheet 17, says to a sound share with the challenges r and s
abbrev to_share : ℕ → ℕ → ℕ
to_share r s =
    share_refused σ (opened 0 (17 ∷ []) 10)
    (share_message σ 77 0 (made_share σ yes_sheet 2 (1 ∷ []) random 0)) r s 22

-- opening for two servers, with Q = 1 and room enough
abbrev pub to_open : List ℕ → ℕ → ℕ
to_open sheet returns = open_refusal σ 2 0 sheet returns 1 100000 8 10000

unfoldable pub marked : List Row
marked =
    row "sheet 17 is read" (eqb (sheet_fault (17 ∷ [])) 0)
    ∷ row "it gives the circuit told" (same (circuit_bytes σ (circuit_of σ (columns_of (17 ∷ [])))) circuit17)
    ∷ row "L = 1" (eqb (entries_in yes_sheet) 1)
    ∷ row "M = 1" (eqb (gates_in yes_sheet) 1)
    ∷ row "K = 1" (eqb (tests_in yes_sheet) 1)
    ∷ row "a share message is 42 bytes" (eqb (share_length σ yes_sheet) 42)
    ∷ row "yes, u_0 = 2, v_0 = 3: h(0..2) = 6, 0, 0" (same whole_yes (1 ∷ 2 ∷ 3 ∷ 6 ∷ 0 ∷ 0 ∷ 5 ∷ 7 ∷ 35 ∷ []))
    ∷ row "a = 5, b = 7, c = 35, r = 4: d = 2147483640" (eqb (d_sum (modulo P) σ yes_sheet 2 honest 4) 2147483640)
    ∷ row "e = 2147483604" (eqb (e_sum (modulo P) σ yes_sheet 2 honest 4) 2147483604)
    ∷ row "sigma = 0" (eqb (sigma_sum (modulo P) σ yes_sheet 2 honest 4) 0)
    ∷ row "the false entry 2: r = 2 lets it in" (lets_in σ yes_sheet 2 cheat 2 9)
    ∷ row "r = 3 gives sigma 2147483629" (eqb (sigma_sum (modulo P) σ yes_sheet 2 cheat 3) 2147483629)
    ∷ row "r = 3: rejected" (not (lets_in σ yes_sheet 2 cheat 3 9))
    ∷ row "r = 1 refused 9" (eqb (to_share 1 9) 9)
    ∷ row "r = 2 taken" (eqb (to_share 2 9) 0)
    ∷ row "r = p - 1 taken" (eqb (to_share (P - 1) 9) 0)
    ∷ row "r = p refused 9" (eqb (to_share P 9) 9)
    ∷ row "b = 24: 128 times the largest value is 2147483520" (eqb (128 * (16777216 - 1)) 2147483520)
    ∷ row "N = 128 opens" (eqb (to_open (19 ∷ 24 ∷ []) 128) 0)
    ∷ row "N = 129 is refused 4" (eqb (to_open (19 ∷ 24 ∷ []) 129) 4)
    ∷ row "B = 1 refused 2" (eqb (sheet_fault (18 ∷ 1 ∷ [])) 2)
    ∷ row "B = 65 refused 2" (eqb (sheet_fault (18 ∷ 65 ∷ [])) 2)
    ∷ row "B = 2 read" (eqb (sheet_fault (18 ∷ 2 ∷ [])) 0)
    ∷ row "B = 64 read" (eqb (sheet_fault (18 ∷ 64 ∷ [])) 0)
    ∷ row "an empty sheet: 2" (eqb (sheet_fault []) 2)
    ∷ row "byte 20: 1" (eqb (sheet_fault (20 ∷ [])) 1)
    ∷ []

-- recount's example: sheet 17, 18 3; S = 2; N = 10; counts 3 and 3; the totals told
abbrev recount_input : List ℕ
recount_input =
    bytes_of 2 3
    ++ (17 ∷ 18 ∷ 3 ∷ 2 ∷ 10 ∷ 0 ∷ [])
    ++ (36 ∷ 0 ∷ 3 ∷ 0 ∷ 0 ∷ 0 ∷ bytes_of_all 4 (5 ∷ 7 ∷ 2147483646 ∷ 0 ∷ []))
    ++ (36 ∷ 1 ∷ 3 ∷ 0 ∷ 0 ∷ 0 ∷ bytes_of_all 4 (2147483644 ∷ 2147483640 ∷ 3 ∷ 1 ∷ []))

-- "accepted 3", "1 0 2", "2 0 0", "2 1 2", "2 2 1", a line each
abbrev recount_output : List ℕ
recount_output =
    (97 ∷ 99 ∷ 99 ∷ 101 ∷ 112 ∷ 116 ∷ 101 ∷ 100 ∷ 32 ∷ 51 ∷ 10 ∷ [])
    ++ (49 ∷ 32 ∷ 48 ∷ 32 ∷ 50 ∷ 10 ∷ [])
    ++ (50 ∷ 32 ∷ 48 ∷ 32 ∷ 48 ∷ 10 ∷ [])
    ++ (50 ∷ 32 ∷ 49 ∷ 32 ∷ 50 ∷ 10 ∷ [])
    ++ (50 ∷ 32 ∷ 50 ∷ 32 ∷ 49 ∷ 10 ∷ [])

-- "refused 12" and "refused 2", each with the end of its line
abbrev refused12 : List ℕ
refused12 = 114 ∷ 101 ∷ 102 ∷ 117 ∷ 115 ∷ 101 ∷ 100 ∷ 32 ∷ 49 ∷ 50 ∷ 10 ∷ []

abbrev refused2 : List ℕ
refused2 = 114 ∷ 101 ∷ 102 ∷ 117 ∷ 115 ∷ 101 ∷ 100 ∷ 32 ∷ 50 ∷ 10 ∷ []

-- a sheet with kinds 17, 18 and 19
abbrev pub all_kinds : List ℕ
all_kinds = 17 ∷ 18 ∷ 3 ∷ 19 ∷ 2 ∷ []

abbrev widest : List ℕ
widest = 17 ∷ 19 ∷ 24 ∷ 18 ∷ 2 ∷ []

-- kind 20 with the top 16,777,215; five of them and one with the top 31: 256 entries
abbrev pub wide : List ℕ
wide = 20 ∷ 255 ∷ 255 ∷ 255 ∷ 0 ∷ []

abbrev pub largest : List ℕ
largest = wide ++ wide ++ wide ++ wide ++ wide ++ (20 ∷ 31 ∷ 0 ∷ 0 ∷ 0 ∷ [])

unfoldable pub unmarked : List Row
unmarked =
    row "recount prints the text told" (same (recount_text σ recount_input) recount_output)
    ∷ row "input that ends before both bytes of N: 12" (same (recount_text σ (1 ∷ 0 ∷ 17 ∷ 2 ∷ 10 ∷ [])) refused12)
    ∷ row "nothing after N: joining's number" (same (recount_text σ (1 ∷ 0 ∷ 17 ∷ 2 ∷ 10 ∷ 0 ∷ [])) refused12)
    ∷ row "S = 1 in recount: 2" (same (recount_text σ (1 ∷ 0 ∷ 17 ∷ 1 ∷ 10 ∷ 0 ∷ [])) refused2)
    ∷ row "bit entries are not published" (same (published_from 0 (columns_of all_kinds)) (0 ∷ 1 ∷ 2 ∷ 3 ∷ 4 ∷ []))
    ∷ row "columns keep the sheet's order" (same (published_from 0 (columns_of widest)) (0 ∷ 1 ∷ 26 ∷ 27 ∷ []))
    ∷ row "values are encoded column by column"
    (same (encoding (columns_of all_kinds) (1 ∷ 2 ∷ 2 ∷ [])) (1 ∷ 0 ∷ 0 ∷ 1 ∷ 2 ∷ 0 ∷ 1 ∷ []))
    ∷ row "the earlier record wins" (eqb (sheet_fault (18 ∷ 1 ∷ 99 ∷ [])) 2)
    ∷ row "a cut body: 1" (eqb (sheet_fault (17 ∷ 18 ∷ [])) 1)
    ∷ row "256 entries are read" (eqb (sheet_fault (replicate 256 17)) 0)
    ∷ row "257 entries: 2" (eqb (sheet_fault (replicate 257 17)) 2)
    ∷ row "300 columns and then byte 99: 1, not 2" (eqb (sheet_fault (replicate 300 17 ++ (99 ∷ []))) 1)
    ∷ row "s = 0 is allowed" (eqb (to_share 2 0) 0)
    ∷ row "s = p refused 9" (eqb (to_share 2 P) 9)
    ∷ row "r = 2^32 + 4 refused 9" (eqb (to_share 4294967300 9) 9)
    ∷ row "1 or 9 servers: 2" (eqb (open_refusal σ 1 0 (17 ∷ []) 10 1 1000 8 1000) 2 && eqb (open_refusal σ 9 0 (17 ∷ []) 10 1 1000 8 1000) 2)
    ∷ row "258 servers: 2" (eqb (open_refusal σ 258 0 (17 ∷ []) 10 1 1000 8 1000) 2)
    ∷ row "own number S: 2" (eqb (open_refusal σ 2 2 (17 ∷ []) 10 1 1000 8 1000) 2)
    ∷ row "S before the sheet" (eqb (open_refusal σ 9 0 (99 ∷ []) 10 1 1000 8 1000) 2)
    ∷ row "N = 0 and 1025: 2" (eqb (to_open (17 ∷ []) 0) 2 && eqb (to_open (17 ∷ []) 1025) 2)
    ∷ row "N = 1 and 1024 open" (eqb (to_open (17 ∷ []) 1) 0 && eqb (to_open (17 ∷ []) 1024) 0)
    ∷ row "joining: 4 before 12" (eqb (join_refusal σ 2 (19 ∷ 24 ∷ []) 129 [] 100) 4)
    ∷ row "joining nothing: 12" (eqb (join_refusal σ 2 (17 ∷ []) 10 [] 100) 12)
    ∷ []

-- wires, multiplications and tests of a circuit of one entry
abbrev counts : List ℕ → List ℕ
counts s = count_in step_wires σ 1 s ∷ count_in step_gates σ 1 s ∷ count_in step_tests σ 1 s ∷ []

-- a circuit with so many wires, multiplications and tests
abbrev sized : ℕ → ℕ → ℕ → List Step
sized w m k = replicate (w - m) (constant 0) ++ replicate m (multiply 0 0) ++ replicate k (test 0)

-- the refusal of reading it
abbrev to_read : ℕ → ℕ → ℕ → ℕ
to_read w m k = circuit_fault σ 1 (circuit_bytes σ (sized w m k))

-- the refusal by the total limits alone
abbrev to_limits : ℕ → ℕ → ℕ → ℕ
to_limits w m k = fault_in (circuit_limits (sized w m k))

-- Circuits: their limits, on both sides, and their order of refusals
unfoldable pub circuits : List Row
circuits =
    row "an empty circuit: 2" (eqb (circuit_fault σ 1 []) 2)
    ∷ row "the circuit of sheet 17 is read" (eqb (circuit_fault σ 1 circuit17) 0)
    ∷ row "its wires, multiplications and tests" (same (counts circuit17) (4 ∷ 1 ∷ 1 ∷ []))
    ∷ row "a circuit of 0 or 257 entries: 2" (eqb (circuit_fault σ 0 circuit17) 2 && eqb (circuit_fault σ 257 circuit17) 2)
    ∷ row "a circuit of 256 entries is read" (eqb (circuit_fault σ 256 circuit17) 0)
    ∷ row "entry L: 3" (eqb (circuit_fault σ 1 (2 ∷ 1 ∷ 0 ∷ [])) 3)
    ∷ row "a step that names its own wire: 3" (eqb (circuit_fault σ 1 (2 ∷ 0 ∷ 0 ∷ 3 ∷ 0 ∷ 0 ∷ 1 ∷ 0 ∷ [])) 3)
    ∷ row "the constant p: 2" (eqb (circuit_fault σ 1 (1 ∷ 0xFF ∷ 0xFF ∷ 0xFF ∷ 0x7F ∷ [])) 2)
    ∷ row "kind 4 with the constant p and a wire not made: 2" (eqb (circuit_fault σ 1 (4 ∷ 9 ∷ 0 ∷ bytes_of 4 P)) 2)
    ∷ row "kind 0 and kind 7: 1" (eqb (circuit_fault σ 1 (0 ∷ 0 ∷ 0 ∷ [])) 1 && eqb (circuit_fault σ 1 (7 ∷ 0 ∷ 0 ∷ [])) 1)
    ∷ row "a cut step: 1, not 3" (eqb (circuit_fault σ 1 (6 ∷ 9 ∷ [])) 1)
    ∷ row "17,920 bytes: the first step is looked at" (eqb (circuit_fault σ 1 (replicate 17920 0)) 1)
    ∷ row "17,921 bytes: 2 before any step" (eqb (circuit_fault σ 1 (replicate 17921 0)) 2)
    ∷ row "0 entries: 2 before any step" (eqb (circuit_fault σ 0 (0 ∷ [])) 2)
    ∷ row "1 multiplication and 1 test are read" (eqb (to_read 2 1 1) 0)
    ∷ row "no multiplication: 2" (eqb (to_read 2 0 1) 2)
    ∷ row "no test: 2" (eqb (to_read 2 1 0) 2)
    ∷ row "256 multiplications are within the limits" (eqb (to_limits 257 256 1) 0)
    ∷ row "257 multiplications: 2" (eqb (to_limits 258 257 1) 2)
    ∷ row "512 tests are within the limits" (eqb (to_limits 2 1 512) 0)
    ∷ row "513 tests: 2" (eqb (to_limits 2 1 513) 2)
    ∷ row "2,048 wires are within the limits" (eqb (to_limits 2048 1 1) 0)
    ∷ row "2,049 wires: 2" (eqb (to_limits 2049 1 1) 2)
    ∷ row "no test, and then byte 99: 1, the total limits last" (eqb (circuit_fault σ 1 (circuit_bytes σ (sized 2 1 0) ++ (99 ∷ []))) 1)
    ∷ row "the largest circuit of a sheet: 1,275 wires" (eqb (suc (wires_in (columns_of largest))) 1275)
    ∷ row "7,161 bytes" (eqb (length (circuit_bytes σ (circuit_of σ (columns_of largest)))) 7161)
    ∷ []

-- a share of sheet 18 2 whose elements are 10, 20, 30, ..: h(1) = 60, h(2) = 70 and, at server 0, 10 + 20 - 1 are tested
abbrev choice_sheet : List Column
choice_sheet = choice 2 ∷ []

abbrev tens : ℕ → ℕ
tens e = 10 + 10 * e

-- the false entry 2 with h = f × g: h(0..2) = 6, 2, 2147483645, in two shares
abbrev whole_two : List ℕ
whole_two = 2 ∷ 2 ∷ 3 ∷ 6 ∷ 2 ∷ 2147483645 ∷ 5 ∷ 7 ∷ 35 ∷ []

abbrev tested : ℕ → ℕ → ℕ
tested i e = share_of (modulo P) 2 (λ k. get_or whole_two k 0) (λ j k. get_or random (4 + k) 0) i e

-- Judging: tau is told by its value
unfoldable pub taus : List Row
taus =
    row "tests 3, 5 and 7, s = 2: 3 + 10 + 28" (eqb (folded (modulo P) (3 ∷ 5 ∷ 7 ∷ []) 2) 41)
    ∷ row "s = 0: the first test" (eqb (folded (modulo P) (3 ∷ 5 ∷ 7 ∷ []) 0) 3)
    ∷ row "s = p - 1: 3 - 5 + 7" (eqb (folded (modulo P) (3 ∷ 5 ∷ 7 ∷ []) (P - 1)) 5)
    ∷ row "the tests of a share at server 0: 60 + 140 + 116" (eqb (tau_of (modulo P) σ choice_sheet 1 tens 2) 316)
    ∷ row "at another server, which adds no constant: 60 + 140 + 120" (eqb (tau_of (modulo P) σ choice_sheet 0 tens 2) 320)
    ∷ row "at s = 0: h(1)" (eqb (tau_of (modulo P) σ choice_sheet 1 tens 0) 60)
    ∷ row "the false entry 2 with h = f × g: sigma 0" (eqb (sigma_sum (modulo P) σ yes_sheet 2 tested 4) 0)
    ∷ row "its tau is 2" (eqb (tau_sum (modulo P) σ yes_sheet 2 tested 9) 2)
    ∷ row "at s = 0 too: 2, rejected"
    (eqb (tau_sum (modulo P) σ yes_sheet 2 tested 0) 2 && not (lets_in σ yes_sheet 2 tested 4 0))
    ∷ []
