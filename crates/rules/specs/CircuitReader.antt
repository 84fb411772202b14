-- Document 01, "Sheet and circuit" and "Who can cause which refusal": the reading of a circuit.
-- Assumes nothing.
use Rattle.std.specs.Prelude.{cond, ◌&&◌, List, [], ◌∷◌, ℕ, ◌+◌, ◌-◌, leb, ltb, eqb, length, get_or}
use Rattle.std.proofs.Math.Option.{Option, some, none}
use Rattle.algebra.specs.Lists.{sum_over}
use Rattle.words.specs.Bytes.{value_of, part}
use Rattle.records.specs.Outcome.{Outcome, ok, refused, or_else}
use Rattle.records.specs.Records.{Format, read}
use Rattle.rules.specs.Settings.{Setting}
use Rattle.rules.specs.Columns.{within, check, fault_in, list_in, sheet_fault, columns_of}
use Rattle.rules.specs.Circuit.{Step, constant, entry, add, scale, multiply, test, circuit_of, circuit_bytes}

-- "The body lengths of step kinds 1 to 6 are 4, 2, 4, 6, 4 and 2 bytes": wires and entries take 2 bytes each, and
-- the constants of kinds 1 and 4 take w, which is 4 in document 01's setting
abbrev pub body_lengths : Setting → List ℕ
body_lengths σ = σ.width ∷ 2 ∷ 4 ∷ (2 + σ.width) ∷ 4 ∷ 2 ∷ []

unfoldable pub step_body : Setting → ℕ → Option ℕ
step_body σ k = cond (within 1 6 k) (some (get_or (body_lengths σ) (k - 1) 0)) none

-- the step that a kind and a body say
unfoldable pub step_of : Setting → ℕ → List ℕ → Step
step_of σ k b =
    cond (eqb k 1) (constant (value_of b))
    (cond (eqb k 2) (entry (value_of b))
    (cond (eqb k 3) (add (value_of (part 0 2 b)) (value_of (part 2 2 b)))
    (cond (eqb k 4) (scale (value_of (part 0 2 b)) (value_of (part 2 σ.width b)))
    (cond (eqb k 5) (multiply (value_of (part 0 2 b)) (value_of (part 2 2 b)))
    (test (value_of b))))))

-- how many wires, multiplications and tests a step makes
unfoldable pub step_wires : Step → ℕ
step_wires (constant c) = 1
step_wires (entry e) = 1
step_wires (add a b) = 1
step_wires (scale a c) = 1
step_wires (multiply a b) = 1
step_wires (test a) = 0

unfoldable pub step_gates : Step → ℕ
step_gates (constant c) = 0
step_gates (entry e) = 0
step_gates (add a b) = 0
step_gates (scale a c) = 0
step_gates (multiply a b) = 1
step_gates (test a) = 0

unfoldable pub step_tests : Step → ℕ
step_tests (constant c) = 0
step_tests (entry e) = 0
step_tests (add a b) = 0
step_tests (scale a c) = 0
step_tests (multiply a b) = 0
step_tests (test a) = 1

-- "2: a constant outside its limits. 3: a wire not yet made, or an entry not below L." L entries, w wires made
unfoldable pub step_fault : Setting → ℕ → ℕ → Step → ℕ
step_fault σ l w (constant c) = check (ltb c σ.modulus) 2
step_fault σ l w (entry e) = check (ltb e l) 3
step_fault σ l w (add a b) = check (ltb a w && ltb b w) 3
step_fault σ l w (scale a c) = or_else (check (ltb c σ.modulus) 2) (check (ltb a w) 3)
step_fault σ l w (multiply a b) = check (ltb a w && ltb b w) 3
step_fault σ l w (test a) = check (ltb a w) 3

unfoldable pub judged_step : ℕ → Step → Outcome Step
judged_step fault k = cond (eqb fault 0) (ok k) (refused fault)

unfoldable pub judge_step : Setting → ℕ → List Step → ℕ → List ℕ → Outcome Step
judge_step σ l done k body = judged_step (step_fault σ l (sum_over step_wires done) (step_of σ k body)) (step_of σ k body)

abbrev pub step_format : Setting → ℕ → Format Step
step_format σ l = record { body_of = step_body σ; at_fault = 1; judge = judge_step σ l }

-- "wires at most 2,048, multiplications M 1 to 256, tests K 1 to 512"
unfoldable pub circuit_limits : List Step → Outcome (List Step)
circuit_limits ks =
    cond (leb (sum_over step_wires ks) 2048 && (within 1 256 (sum_over step_gates ks) && within 1 512 (sum_over step_tests ks)))
    (ok ks) (refused 2)

unfoldable pub limited_circuit : Outcome (List Step) → Outcome (List Step)
limited_circuit (ok ks) = circuit_limits ks
limited_circuit (refused n) = refused n

-- "the total limits last (L of a circuit and its bytes before any step)"
unfoldable pub read_circuit : Setting → ℕ → List ℕ → Outcome (List Step)
read_circuit σ l s =
    cond (within 1 256 l && leb (length s) σ.circuit_limit) (limited_circuit (read (step_format σ l) s)) (refused 2)

-- The call that reads a circuit of l entries: its refusal, and the numbers of wires, multiplications and tests
unfoldable pub circuit_fault : Setting → ℕ → List ℕ → ℕ
circuit_fault σ l s = fault_in (read_circuit σ l s)

unfoldable pub count_in : (Step → ℕ) → Setting → ℕ → List ℕ → ℕ
count_in f σ l s = sum_over f (list_in (read_circuit σ l s))

-- The call that writes a sheet's circuit: "Sheet to circuit: sheet, 14"
unfoldable pub sheet_circuit : Setting → List ℕ → List ℕ
sheet_circuit σ sheet = circuit_bytes σ (circuit_of σ (columns_of sheet))

unfoldable pub sheet_circuit_refusal : Setting → List ℕ → ℕ → ℕ
sheet_circuit_refusal σ sheet room = or_else (sheet_fault sheet) (check (leb (length (sheet_circuit σ sheet)) room) 14)
