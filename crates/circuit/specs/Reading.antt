-- The kinds of steps by their kind bytes, and the answer of the circuit reader, by the cases of rules' `read_circuit` at document
-- 01's setting. Assumes nothing.
use Rattle.std.specs.Prelude.{◌≡◌, cond, ◌&&◌, List, ℕ, ◌+◌, ◌-◌, ◌≤◌, ◌<◌, leb, get_or, Option, Some, None}
use Rattle.std.proofs.Math.Logic.{◌⊎◌}
use Rattle.algebra.specs.Lists.{sum_over}
use Rattle.records.specs.Outcome.{Outcome, ok, refused}
use Rattle.rules.specs.Settings.{document01}
use Rattle.rules.specs.Columns.{within}
use Rattle.rules.specs.Circuit.{Step}
use Rattle.rules.specs.CircuitReader.{body_lengths, step_wires, step_gates, step_tests, read_circuit}
use Rattle.circuit.specs.declared.Counts.{Counts}
use Rattle.circuit.specs.declared.StepKind.{StepKind}
use Rattle.circuit.specs.declared.StepKind.TheVariants as kind

abbrev pub code_of : StepKind → ℕ
code_of kind.Constant = 1
code_of kind.Entry = 2
code_of kind.Add = 3
code_of kind.Scale = 4
code_of kind.Multiply = 5
code_of kind.Test = 6

-- the kind of a byte; none of another than 1 to 6
abbrev pub IsKindOf : ℕ → Option StepKind → Type 0
IsKindOf byte None = (byte < 1) ⊎ (6 < byte)
IsKindOf byte (Some k) = byte ≡ code_of k

-- a table of body lengths: entry k - 1 is the body length of step kind k
pub record BodyTable (t : List ℕ) : Type 0 where
  pub rule : (k : ℕ) → 1 ≤ k → k ≤ 6 → get_or t (k - 1) 0 ≡ get_or (body_lengths document01) (k - 1) 0

abbrev pub counts_of : List Step → Counts
counts_of ks =
    record { wires = sum_over step_wires ks; multiplications = sum_over step_gates ks; tests = sum_over step_tests ks }

-- counts with a step of a kind more
abbrev pub counted : StepKind → Counts → Counts
counted kind.Constant c = record c { wires = c.wires + 1 }
counted kind.Entry c = record c { wires = c.wires + 1 }
counted kind.Add c = record c { wires = c.wires + 1 }
counted kind.Scale c = record c { wires = c.wires + 1 }
counted kind.Multiply c = record c { wires = c.wires + 1; multiplications = c.multiplications + 1 }
counted kind.Test c = record c { tests = c.tests + 1 }

-- a circuit that is read has its counts, one that is refused the number
unfoldable pub reading_in : Outcome (List Step) → Outcome Counts
reading_in (ok ks) = ok (counts_of ks)
reading_in (refused n) = refused n

unfoldable pub reading_of : ℕ → List ℕ → Outcome Counts
reading_of entries s = reading_in (read_circuit document01 entries s)

-- "wires at most 2,048, multiplications M 1 to 256, tests K 1 to 512", of counts
abbrev pub limited_counts : Counts → Outcome Counts
limited_counts c = cond (leb c.wires 2048 && (within 1 256 c.multiplications && within 1 512 c.tests)) (ok c) (refused 2)
