-- The run of any circuit makes as many wires, inputs and tests as its steps say. A sheet's circuit has as many as the walk
-- over its columns, so its counts are the sheet's. Assumes nothing.
use mathlib.Core.Path.{◌≡◌}
use mathlib.Core.List.{List, [], ◌∷◌}
use Prim.Native.Nat.{ℕ, suc, ◌+◌}
use native.Mathlib.Omega.{arith}
use lib.ListN.{length, length-append}
use Rattle.algebra.specs.Lists.{sum_over}
use Rattle.rules.specs.Settings.{Setting}
use Rattle.rules.specs.Columns.{Column}
use Rattle.rules.specs.Circuit.{Step, constant, entry, add, scale, multiply, test, circuit_of, wires_in, gates_in, tests_in}
use Rattle.rules.specs.CircuitReader.{step_wires, step_gates, step_tests}
use Rattle.rules.specs.Run.{Meaning, Trace, nothing, step_run, run_from, run}
use Rattle.rules.proofs.Circuits.Walk.{walk_is_run}

module _ {X : Type 0} (μ : Meaning X) where
  record Makes (s s' : Trace X) (wires gates tests : ℕ) : Type 0 where
    wires_made_lem : length s'.wires ≡ length s.wires + wires
    lefts_made : length s'.lefts ≡ length s.lefts + gates
    tests_made : length s'.tests ≡ length s.tests + tests

  step_makes : (s : Trace X) (k : Step) → Makes s (step_run μ s k) (step_wires k) (step_gates k) (step_tests k)
  unfolding step_run step_wires step_gates step_tests
  step_makes s (constant c) = search (arith, length-append)
  step_makes s (entry e) = search (arith, length-append)
  step_makes s (add a b) = search (arith, length-append)
  step_makes s (scale a c) = search (arith, length-append)
  step_makes s (multiply a b) = search (arith, length-append)
  step_makes s (test a) = search (arith, length-append)

  run_makes : (ks : List Step) (s : Trace X)
      → Makes s (run_from μ s ks) (sum_over step_wires ks) (sum_over step_gates ks) (sum_over step_tests ks)
  unfolding run_from sum_over
  run_makes [] s = search arith
  run_makes (k ∷ ks) s =
      let one = step_makes s k in
      let rest = run_makes ks (step_run μ s k) in
      search arith

-- wires that hold nothing
plain : Meaning Unit
plain = record {
  none = tt;
  entry_at = λ e. tt;
  constant_of = λ c. tt;
  plus = λ a b. tt;
  times = λ a c. tt;
  gate = λ t u v. tt;
}

pub record Counted (σ : Setting) (cs : List Column) : Type 0 where
  pub wires_are : sum_over step_wires (circuit_of σ cs) ≡ suc (wires_in cs)
  pub gates_are : sum_over step_gates (circuit_of σ cs) ≡ gates_in cs
  pub tests_are : sum_over step_tests (circuit_of σ cs) ≡ tests_in cs

pub circuit_counts : (σ : Setting) (cs : List Column) → Counted σ cs
unfolding run
circuit_counts σ cs =
    let m = run_makes plain (circuit_of σ cs) nothing in
    let w = walk_is_run σ plain cs in
    search (arith, w)
