-- What pool_read_circuit leaves, from the answer of the circuit's reader. Assumes nothing.
use mathlib.Core.Path.{◌≡◌, refl, sym}
use mathlib.Core.List.{List}
use Prim.Native.Nat.{ℕ}
use native.Mathlib.Omega.{arith}
use borrow.Author.Tests.{ne_eqb}
use Rattle.records.specs.Outcome.{Outcome, ok, refused}
use Rattle.rules.specs.Settings.{document01}
use Rattle.rules.specs.Columns.{fault_in, list_in}
use Rattle.rules.specs.Circuit.{Step}
use Rattle.rules.specs.CircuitReader.{read_circuit, circuit_fault, count_in}
use Rattle.rules.proofs.Circuits.Refusals.{circuit_refusals}
use Rattle.circuit.specs.declared.Counts.{Counts}
use Rattle.circuit.specs.Reading.{reading_in, reading_of}
use Rattle.records.specs.Answers.{if_done}
use Rattle.pool_sheets.specs.Calls.{ReadsCircuit}

module _ (l : ℕ) (s : List ℕ) (w m k : ℕ) where
  pub circuit_refused : (n : ℕ) → reading_of l s ≡ refused n → ReadsCircuit l s w m k n w m k
  unfolding reading_of reading_in circuit_fault fault_in if_done
  circuit_refused n h = outcome (read_circuit document01 l s) refl h
    where
      outcome : (r : Outcome (List Step)) → read_circuit document01 l s ≡ r → reading_in r ≡ refused n
          → ReadsCircuit l s w m k n w m k
      outcome (ok ks) q g = let z : ◌≡◌ {A = ℕ} 0 1 = cc in absurd (omega arith)
      outcome (refused f) q g =
          let same : f ≡ n = cc in
          let some = circuit_refusals document01 l s f q in
          let none = ne_eqb f 0 (λ z. omega (arith, some.0)) in
          rw (sym same) (record {
            answer_is = rw q refl;
            wires_is = rw (q, none) refl;
            multiplications_is = rw (q, none) refl;
            tests_is = rw (q, none) refl;
          })

  pub circuit_counted : (c : Counts) → reading_of l s ≡ ok c
      → ReadsCircuit l s w m k 0 c.wires c.multiplications c.tests
  unfolding reading_of reading_in circuit_fault fault_in count_in list_in if_done
  circuit_counted c h = outcome (read_circuit document01 l s) refl h
    where
      outcome : (r : Outcome (List Step)) → read_circuit document01 l s ≡ r → reading_in r ≡ ok c
          → ReadsCircuit l s w m k 0 c.wires c.multiplications c.tests
      outcome (ok ks) q g =
          record {
            answer_is = rw q refl;
            wires_is = rw q cc;
            multiplications_is = rw q cc;
            tests_is = rw q cc;
          }
      outcome (refused f) q g = let z : ◌≡◌ {A = ℕ} 0 1 = cc in absurd (omega arith)
