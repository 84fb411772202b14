-- What the functions that write do to a buffer, and the answer of the circuit writer. Assumes nothing.
use Rattle.std.specs.Prelude.{◌≡◌, List, ◌∷◌, ℕ, ◌+◌, ◌-◌, ◌*◌, ◌≤◌, length}
use Rattle.words.specs.Bytes.{splice}
use Rattle.rules.specs.Settings.{document01}
use Rattle.rules.specs.Circuit.{Step, constant, add, bit_sum}
use Rattle.rules.specs.CircuitReader.{sheet_circuit, sheet_circuit_refusal}
use Rattle.records.specs.Outcome.{Outcome}
use Rattle.records.specs.Answers.{answered, only_if}

-- s became t: the n bytes ys stand from place at, nothing else changed, and next is the place behind them
pub record Put (s : List ℕ) (at n : ℕ) (ys t : List ℕ) (next : ℕ) : Type 0 where
  pub written : t ≡ splice s at ys
  pub long : length ys ≡ n
  pub behind : next ≡ at + n
  pub room : at + n ≤ length s
  pub same : length t ≡ length s

-- the second sum of a top n of b bits: the constant p - n is wire q, and w is the entry wire of the number
abbrev pub rest_steps : ℕ → ℕ → ℕ → ℕ → List Step
rest_steps n b w q = constant (document01.modulus - n) ∷ add q w ∷ bit_sum b (w + 1 + 3 * b) (q + 1)

-- the answer where a buffer of so many bytes is lent
unfoldable pub written_of : List ℕ → ℕ → Outcome ℕ
written_of sheet room = answered (sheet_circuit_refusal document01 sheet room) (length (sheet_circuit document01 sheet))

-- the buffer afterwards
unfoldable pub circuit_in : List ℕ → List ℕ → List ℕ
circuit_in sheet out =
    only_if (sheet_circuit_refusal document01 sheet (length out)) (splice out 0 (sheet_circuit document01 sheet)) out
