-- The C functions of whoever writes a sheet. Each promise is an equality with rules' definitions at document 01's setting.
-- Assumes nothing.
use Rattle.std.specs.Prelude.{◌≡◌, cond, List, ℕ, eqb, length}
use Rattle.records.specs.Answers.{Writes, if_done}
use Rattle.rules.specs.Settings.{document01}
use Rattle.rules.specs.Columns.{sheet_fault, columns_of}
use Rattle.rules.specs.EveryReturn.{lists_in, every_return_bytes, every_return_length, every_return_refusal}
use Rattle.rules.specs.CircuitReader.{sheet_circuit, sheet_circuit_refusal, circuit_fault, count_in, step_wires, step_gates, step_tests}
use Rattle.rules.specs.Sizes.{Sizes, sizes_of}

-- pool_sizes: the nine numbers behind the pointers, before and after
abbrev pub nine : ℕ → ℕ → ℕ → ℕ → ℕ → ℕ → ℕ → ℕ → ℕ → Sizes
nine c e p w m k b s n = record {
  columns = c;
  entries = e;
  published = p;
  wires = w;
  multiplications = m;
  tests = k;
  circuit_bytes = b;
  share_bytes = s;
  greatest_returns = n;
}

pub record TellsSizes (sheet : List ℕ) (before : Sizes) (r : ℕ) (after : Sizes) : Type 0 where
  pub answer_is : r ≡ sheet_fault sheet
  pub sizes_are : after ≡ cond (eqb (sheet_fault sheet) 0) (sizes_of document01 sheet) before

-- pool_circuit
abbrev pub WritesCircuit : List ℕ → List ℕ → ℕ → ℕ → List ℕ → ℕ → Type 0
WritesCircuit sheet out written =
    Writes (sheet_circuit_refusal document01 sheet (length out)) (sheet_circuit document01 sheet)
    (length (sheet_circuit document01 sheet)) out written

-- pool_read_circuit: the counts behind the pointers
pub record ReadsCircuit (entries : ℕ) (circuit : List ℕ) (w m k : ℕ) (r w' m' k' : ℕ) : Type 0 where
  pub answer_is : r ≡ circuit_fault document01 entries circuit
  pub wires_is : w' ≡ if_done (circuit_fault document01 entries circuit) (count_in step_wires document01 entries circuit) w
  pub multiplications_is : m' ≡ if_done (circuit_fault document01 entries circuit) (count_in step_gates document01 entries circuit) m
  pub tests_is : k' ≡ if_done (circuit_fault document01 entries circuit) (count_in step_tests document01 entries circuit) k

-- pool_every_return: every legal list of values, and their count behind the pointer
pub record WritesEveryReturn (sheet out : List ℕ) (lists written : ℕ) (r : ℕ) (out' : List ℕ) (lists' written' : ℕ) : Type 0 where
  pub values : Writes (every_return_refusal sheet (length out)) (every_return_bytes sheet) (every_return_length sheet) out written r out' written'
  pub lists_is : lists' ≡ if_done (every_return_refusal sheet (length out)) (lists_in (columns_of sheet)) lists
