-- A sheet's circuit is a circuit: its bytes are read without refusal, as its own steps. A sound step that is written is read
-- again, since its wire and entry numbers fit 2 bytes and its constants an element; the totals are within their limits.
-- Assumes nothing.
use mathlib.Core.Path.{◌≡◌, refl, sym, ◌∙◌, ap, ap₂}
use mathlib.Core.List.{List, [], ◌∷◌, ◌++◌, append-nil, append_assoc}
use mathlib.Core.Option.{some}
use Prim.Native.Nat.{ℕ, suc, ◌+◌, ◌^◌, ◌≤◌, ◌<◌}
use native.Mathlib.Nat.{le_refl}
use native.Mathlib.Omega.{arith}
use borrow.Author.Tests.{le-leb, lt-ltb}
use lib.ListN.{length, length-append}
use lib.Seq.{take_all}
use Rattle.algebra.specs.Lists.{sum_over}
use Rattle.words.specs.Bytes.{bytes_of, value_of, part}
use Rattle.words.proofs.Numbers.{length_bytes, value_bytes_lem}
use Rattle.records.specs.Outcome.{ok, or_else}
use Rattle.records.specs.Records.{read_from, read}
use Rattle.records.proofs.Runs.{read_record}
use Rattle.rules.specs.Settings.{Setting, Facts}
use Rattle.rules.specs.Columns.{Column, entries_in, read_sheet}
use Rattle.rules.specs.Circuit.{Step, constant, entry, add, scale, multiply, test, step_bytes, circuit_bytes, circuit_of}
use Rattle.rules.specs.Circuit.{wires_in, gates_in, tests_in}
use Rattle.rules.specs.CircuitReader.{step_body, step_of, step_wires, step_fault, judged_step, judge_step}
use Rattle.rules.specs.CircuitReader.{step_format, circuit_limits, limited_circuit, read_circuit}
use Rattle.rules.proofs.Circuits.Limits.{limits, within_is}
use Rattle.rules.proofs.Circuits.Size.{circuit_fits}
use Rattle.rules.proofs.Circuits.Counts.{circuit_counts}
use Rattle.rules.proofs.Circuits.Sound.{Sound, Steps, steps[], steps∷, circuit_sound}

wires_next : (done : List Step) (k : Step) → sum_over step_wires (done ++ (k ∷ [])) ≡ sum_over step_wires done + step_wires k
unfolding sum_over
wires_next [] k = omega arith
wires_next (a ∷ done) k = omega (arith, wires_next done k)

steps_grow : {σ : Setting} {l w w' : ℕ} {ks : List Step} → Steps σ l w ks w' → w ≤ w'
steps_grow steps[] = omega arith
steps_grow (steps∷ h r) = omega (arith, steps_grow r)

module _ (σ : Setting) (l : ℕ) where
  no_fault_lem : (w : ℕ) (k : Step) → Sound σ l w k → step_fault σ l w k ≡ 0
  unfolding step_fault or_else
  no_fault_lem w (constant c) h = rw (lt-ltb c σ.modulus h)
  no_fault_lem w (entry e) h = rw (lt-ltb e l h)
  no_fault_lem w (add a b) h = rw (lt-ltb a w h.0, lt-ltb b w h.1)
  no_fault_lem w (scale a c) h = rw (lt-ltb c σ.modulus h.0, lt-ltb a w h.1)
  no_fault_lem w (multiply a b) h = rw (lt-ltb a w h.0, lt-ltb b w h.1)
  no_fault_lem w (test a) h = rw (lt-ltb a w h)

  judged_is : (done : List Step) (k k' : Step) → k' ≡ k → Sound σ l (sum_over step_wires done) k
      → judged_step (step_fault σ l (sum_over step_wires done) k') k' ≡ ok k
  unfolding judged_step
  judged_is done k k' e h = rw (e, no_fault_lem (sum_over step_wires done) k h)

  module _ (fits : σ.modulus ≤ 256 ^ σ.width) (few-entries : l ≤ 65536) where
    value_two : (v : ℕ) → v < 65536 → value_of (bytes_of 2 v) ≡ v
    value_two v h = value_bytes_lem 2 v h

    value_element : (c : ℕ) → c < σ.modulus → value_of (bytes_of σ.width c) ≡ c
    value_element c h = value_bytes_lem σ.width c (omega arith)

    -- a wire number and what follows it
    first_wire : (a : ℕ) (t : List ℕ) → a < 65536 → value_of (part 0 2 (bytes_of 2 a ++ t)) ≡ a
    unfolding bytes_of
    first_wire a t h = value_two a h

    second_number : (a n v : ℕ) → value_of (part 2 n (bytes_of 2 a ++ bytes_of n v)) ≡ value_of (bytes_of n v)
    unfolding bytes_of
    second_number a n v = ap value_of (take_all n (bytes_of n v) (rw length_bytes (le_refl n)))

    pair_length : (a n v : ℕ) → length (bytes_of 2 a ++ bytes_of n v) ≡ 2 + n
    pair_length a n v = simp (length-append, length_bytes)

    -- one step, written and read
    step_back : (k : Step) (rest : List ℕ) (done : List Step) → sum_over step_wires done ≤ 65536
        → Sound σ l (sum_over step_wires done) k
        → read_from (step_format σ l) (step_bytes σ k ++ rest) 0 done ≡ read_from (step_format σ l) rest 0 (done ++ (k ∷ []))
    unfolding step_bytes step_body judge_step step_of
    step_back (constant c) rest done most h =
        read_record (step_format σ l) 1 (bytes_of σ.width c) (constant c) rest done
        (ap some (sym (length_bytes σ.width c)))
        (judged_is done (constant c) _ (ap constant (value_element c h)) h)
    step_back (entry e) rest done most h =
        read_record (step_format σ l) 2 (bytes_of 2 e) (entry e) rest done
        (ap some (sym (length_bytes 2 e)))
        (judged_is done (entry e) _ (ap entry (value_two e (omega arith))) h)
    step_back (add a b) rest done most h =
        read_record (step_format σ l) 3 (bytes_of 2 a ++ bytes_of 2 b) (add a b) rest done
        (ap some (sym (pair_length a 2 b)))
        (judged_is done (add a b) _
        (ap₂ add (first_wire a (bytes_of 2 b) (omega arith)) (second_number a 2 b ∙ value_two b (omega arith))) h)
    step_back (scale a c) rest done most h =
        read_record (step_format σ l) 4 (bytes_of 2 a ++ bytes_of σ.width c) (scale a c) rest done
        (ap some (sym (pair_length a σ.width c)))
        (judged_is done (scale a c) _
        (ap₂ scale (first_wire a (bytes_of σ.width c) (omega arith)) (second_number a σ.width c ∙ value_element c h.0)) h)
    step_back (multiply a b) rest done most h =
        read_record (step_format σ l) 5 (bytes_of 2 a ++ bytes_of 2 b) (multiply a b) rest done
        (ap some (sym (pair_length a 2 b)))
        (judged_is done (multiply a b) _
        (ap₂ multiply (first_wire a (bytes_of 2 b) (omega arith)) (second_number a 2 b ∙ value_two b (omega arith))) h)
    step_back (test a) rest done most h =
        read_record (step_format σ l) 6 (bytes_of 2 a) (test a) rest done
        (ap some (sym (length_bytes 2 a)))
        (judged_is done (test a) _ (ap test (value_two a (omega arith))) h)

    -- a run of sound steps, written and read
    steps_back : {w w' : ℕ} {ks : List Step} → Steps σ l w ks w' → w' ≤ 65536
        → (done : List Step) → sum_over step_wires done ≡ w
        → read_from (step_format σ l) (circuit_bytes σ ks) 0 done ≡ ok (done ++ ks)
    unfolding read_from circuit_bytes
    steps_back steps[] most done e = ap ok (sym (append-nil done))
    steps_back (steps∷ {k = k} {ks} h r) most done e =
        let h' : Sound σ l (sum_over step_wires done) k = rw e h in
        step_back k (circuit_bytes σ ks) done (omega (arith, steps_grow r)) h'
        ∙ steps_back r most (done ++ (k ∷ [])) (wires_next done k ∙ ap (◌+ step_wires k) e)
        ∙ ap ok (append_assoc done (k ∷ []) ks)

module _ (σ : Setting) (facts : Facts σ) (s : List ℕ) (cs : List Column) (is_read : read_sheet s ≡ ok cs) where
  steps_are_read : read (step_format σ (entries_in cs)) (circuit_bytes σ (circuit_of σ cs)) ≡ ok (circuit_of σ cs)
  unfolding sum_over
  steps_are_read =
      let m = limits s cs is_read in
      steps_back σ (entries_in cs) facts.fits (omega arith) (circuit_sound σ facts cs m.in_limits) (omega arith) [] refl

  limits_are_kept : circuit_limits (circuit_of σ cs) ≡ ok (circuit_of σ cs)
  unfolding circuit_limits
  limits_are_kept =
      let m = limits s cs is_read in
      let c = circuit_counts σ cs in
      rw (
        c.wires_are,
        c.gates_are,
        c.tests_are,
        le-leb (suc (wires_in cs)) 2048 (omega arith),
        within_is 1 256 (gates_in cs) m.some_gates (omega arith),
        within_is 1 512 (tests_in cs) m.some_tests (omega arith),
      )

  pub circuit_is_read : read_circuit σ (entries_in cs) (circuit_bytes σ (circuit_of σ cs)) ≡ ok (circuit_of σ cs)
  unfolding read_circuit limited_circuit
  circuit_is_read =
      let m = limits s cs is_read in
      rw (
        within_is 1 256 (entries_in cs) m.some_entries m.entries_most,
        le-leb (length (circuit_bytes σ (circuit_of σ cs))) σ.circuit_limit (circuit_fits σ s cs is_read facts),
        steps_are_read,
      )
      limits_are_kept
