-- The run of one column's steps: it adds the column's own inputs and tests, and leaves wire 0 as it was. By the kinds of
-- columns, each a run of bit checks and then its sums; numbers and points are in NumberRuns. Assumes nothing.
use mathlib.Core.Path.{◌≡◌, refl, sym, ◌∙◌, ap}
use mathlib.Core.List.{List, [], ◌∷◌, ◌++◌, append-nil}
use Prim.Native.Nat.{ℕ, suc, ◌+◌, ◌-◌, ◌*◌, ◌^◌, ◌≤◌, ◌<◌}
use native.Mathlib.Omega.{arith}
use lib.ListN.{length}
use Rattle.algebra.specs.Lists.{tabulate}
use Rattle.rules.specs.Settings.{Setting}
use Rattle.rules.specs.Columns.{Column, yes_no, choice, number, top, point, bit_length}
use Rattle.rules.specs.Circuit.{Step, constant, add, test, bit_checks, option_sum, option_adds, bit_sum}
use Rattle.rules.specs.Circuit.{top_sums, top_steps, column_steps, wires_of, bits_of, products_at}
use Rattle.rules.specs.Run.{Meaning, Trace, make_wire, wire_at, step_run, run_from}
use Rattle.rules.specs.Walk.{sum_from, less_one, bits_at, column_lefts, column_rights, bit_tests, weighted, number_test}
use Rattle.rules.specs.Walk.{rest_test, column_tests}
use Rattle.rules.proofs.Circuits.Growth.{run_append, last_wire, old_wire, more_wires, Grown, one_wire, one_test}
use Rattle.rules.proofs.Circuits.Growth.{then, grown_is, grown_to, scale_run, test_run, add_run}
use Rattle.rules.proofs.Circuits.NumberRuns.{number_run, point_run}
use Rattle.rules.proofs.Circuits.Stretches.{Before, after, before_is, Bits, after_bits, bits_run, Summed, options_run, sum_run}

module _ {X : Type 0} (σ : Setting) (μ : Meaning X) where
  choice_run : (n : ℕ) (s : Trace X) (e w t : ℕ) → Before σ μ s w t
      → Grown μ s (run_from μ s (column_steps σ e w (choice n))) (3 * n + n)
      (tabulate (λ i. μ.entry_at (e + i)) n)
      (tabulate (λ i. less_one σ μ (e + i)) n)
      (column_tests σ μ e t (choice n))
  unfolding column_steps column_tests bit_tests run_from
  choice_run n s e w t b =
      rw (run_append μ (bit_checks n e w) (option_adds n w q ++ (test (option_sum q n) ∷ [])) s)
      (rw (run_append μ (option_adds n w q) (test (option_sum q n) ∷ []) s1)
      (grown_to μ (test_run μ s2 (option_sum q n) sums.sum_wire)
      (grown_is μ (then μ bits.bits_grown (then μ sums.sum_grown (one_test μ s2 v)))
      (omega arith) (append-nil _) (append-nil _) refl)))
    where
      q : ℕ
      q = w + 3 * n

      v : X
      v = sum_from σ μ (μ.constant_of (σ.modulus - 1)) (λ i. μ.entry_at (e + i)) n

      s1 : Trace X
      s1 = run_from μ s (bit_checks n e w)

      s2 : Trace X
      s2 = run_from μ s1 (option_adds n w q)

      bits : Bits σ μ s s1 n e w t
      bits = bits_run σ μ n s e w t b

      now : Before σ μ s1 q (t + n)
      now = after_bits σ μ b bits

      sums : Summed σ μ s1 s2 n (option_sum q n) v
      sums =
          options_run σ μ (λ i. μ.entry_at (e + i)) n s1 w q now.minus_one_lem now.wires_are (omega arith)
          bits.bits_wires

  -- the two sums of a top: wire w holds v, and the wires from suc w its 2b bit entries
  tops_run : (b n : ℕ) (s : Trace X) (e w q : ℕ) → length s.wires ≡ q → suc w + 3 * (2 * b) ≤ q
      → wire_at μ s w ≡ μ.entry_at e → ((j : ℕ) → j < 2 * b → wire_at μ s (suc w + 3 * j) ≡ μ.entry_at (suc e + j))
      → Grown μ s (run_from μ s (top_sums σ w q b n)) (suc (2 * b) + suc (suc (2 * b))) [] []
      (number_test σ μ e (suc e) b ∷ rest_test σ μ n e (suc e + b) b ∷ [])
  unfolding top_sums number_test rest_test weighted run_from step_run
  tops_run b n s e w q len fits v_wire at =
      grown_to μ
      (ap (λ z. run_from μ z (bit_sum b (suc w) q ++ rest)) (scale_run μ s w v_wire m)
      ∙ run_append μ (bit_sum b (suc w) q) rest s1
      ∙ ap (λ z. run_from μ z (bit_sum b (suc w + 3 * b) (suc (suc q'))))
      (add_run μ s3 (suc q') (last_wire μ s2 c (suc q') long2) w (kept3 w (omega arith) ∙ v_wire)))
      (grown_is μ
      (then μ (one_wire μ s y) (then μ first (then μ (one_wire μ s2 c) (then μ (one_wire μ s3 z) second))))
      (omega arith) refl refl refl)
    where
      m : ℕ
      m = σ.modulus - 1

      q' : ℕ
      q' = q + 2 * b

      rest : List Step
      rest = constant (σ.modulus - n) ∷ add (suc q') w ∷ bit_sum b (suc w + 3 * b) (suc (suc q'))

      y : X
      y = μ.times (μ.entry_at e) m

      c : X
      c = μ.constant_of (σ.modulus - n)

      z : X
      z = μ.plus c (μ.entry_at e)

      s1 : Trace X
      s1 = make_wire y s

      s2 : Trace X
      s2 = run_from μ s1 (bit_sum b (suc w) q)

      s3 : Trace X
      s3 = make_wire c s2

      s4 : Trace X
      s4 = make_wire z s3

      long1 : length s1.wires ≡ suc q
      long1 = more_wires μ s y ∙ omega arith

      first : Grown μ s1 s2 (2 * b) [] [] (sum_from σ μ y (λ i. μ.times (μ.entry_at (suc e + i)) (2 ^ i)) b ∷ [])
      first =
          sum_run σ μ (λ i. μ.entry_at (suc e + i)) y b s1 (suc w) q (last_wire μ s y q len) long1 (omega arith)
          (λ j l. old_wire μ s y (suc w + 3 * j) (omega arith) ∙ at j (omega arith))

      long2 : length s2.wires ≡ suc q'
      long2 = omega (arith, first.made, long1)

      long3 : length s3.wires ≡ suc (suc q')
      long3 = more_wires μ s2 c ∙ omega (arith, long2)

      kept3 : (k : ℕ) → k < q → wire_at μ s3 k ≡ wire_at μ s k
      kept3 k l =
          old_wire μ s2 c k (omega (arith, long2)) ∙ first.kept k (omega (arith, long1)) ∙ old_wire μ s y k (omega arith)

      bit : (j : ℕ) → j < b → wire_at μ s4 (suc w + 3 * b + 3 * j) ≡ μ.entry_at (suc e + b + j)
      bit j l =
          let k : suc w + 3 * b + 3 * j ≡ suc w + 3 * (b + j) = omega arith in
          let i : suc e + (b + j) ≡ suc e + b + j = omega arith in
          ap (wire_at μ s4) k
          ∙ old_wire μ s3 z (suc w + 3 * (b + j)) (omega (arith, long3))
          ∙ kept3 (suc w + 3 * (b + j)) (omega arith)
          ∙ at (b + j) (omega arith)
          ∙ ap μ.entry_at i

      second : Grown μ s4 (run_from μ s4 (bit_sum b (suc w + 3 * b) (suc (suc q')))) (2 * b) [] []
          (sum_from σ μ z (λ i. μ.times (μ.entry_at (suc e + b + i)) (2 ^ i)) b ∷ [])
      second =
          sum_run σ μ (λ i. μ.entry_at (suc e + b + i)) z b s4 (suc w + 3 * b) (suc (suc q'))
          (last_wire μ s3 z (suc (suc q')) long3) (more_wires μ s3 z ∙ omega (arith, long3)) (omega arith) bit

  top_run : (b n : ℕ) (s : Trace X) (e w t : ℕ) → Before σ μ s w t
      → Grown μ s (run_from μ s (top_steps σ e w b n)) (10 * b + 4)
      (tabulate (λ i. μ.entry_at (suc e + i)) (2 * b))
      (tabulate (λ i. less_one σ μ (suc e + i)) (2 * b))
      (bit_tests σ μ (suc e) t (2 * b) ++ (number_test σ μ e (suc e) b ∷ rest_test σ μ n e (suc e + b) b ∷ []))
  unfolding top_steps bit_tests run_from step_run
  top_run b n s e w t before =
      grown_to μ (run_append μ (bit_checks (2 * b) (suc e) (suc w)) (top_sums σ w q b n) s1)
      (grown_is μ (then μ (one_wire μ s x) (then μ bits.bits_grown sums)) (omega arith) (append-nil _) (append-nil _) refl)
    where
      q : ℕ
      q = suc w + 3 * (2 * b)

      x : X
      x = μ.entry_at e

      s1 : Trace X
      s1 = make_wire x s

      s2 : Trace X
      s2 = run_from μ s1 (bit_checks (2 * b) (suc e) (suc w))

      first : Before σ μ s1 (suc w) t
      first = before_is σ μ (after σ μ before (one_wire μ s x) 0 refl) (omega arith) (omega arith)

      bits : Bits σ μ s1 s2 (2 * b) (suc e) (suc w) t
      bits = bits_run σ μ (2 * b) s1 (suc e) (suc w) t first

      v_wire : wire_at μ s2 w ≡ x
      v_wire = bits.bits_grown.kept w (omega (arith, first.wires_are)) ∙ last_wire μ s x w before.wires_are

      sums : Grown μ s2 (run_from μ s2 (top_sums σ w q b n)) (suc (2 * b) + suc (suc (2 * b))) [] []
          (number_test σ μ e (suc e) b ∷ rest_test σ μ n e (suc e + b) b ∷ [])
      sums = tops_run b n s2 e w q (after_bits σ μ first bits).wires_are (omega arith) v_wire bits.bits_wires

  no_products : {s s' : Trace X} {n : ℕ} {ls rs ts : List X} → Grown μ s s' n ls rs ts → Grown μ s s' n (ls ++ []) (rs ++ []) ts
  no_products g = grown_is μ g refl (sym (append-nil _)) (sym (append-nil _)) refl

  pub column_run : (c : Column) (s : Trace X) (e w t : ℕ) → Before σ μ s w t
      → Grown μ s (run_from μ s (column_steps σ e w c)) (wires_of c)
      (column_lefts σ μ e c) (column_rights σ μ e c) (column_tests σ μ e t c)
  unfolding column_steps wires_of bits_of bits_at products_at column_lefts column_rights bit_tests column_tests
  column_run yes_no s e w t b = no_products (bits_run σ μ 1 s e w t b).bits_grown
  column_run (choice n) s e w t b = no_products (choice_run n s e w t b)
  column_run (number n) s e w t b = no_products (number_run σ μ n s e w t b)
  column_run (top n) s e w t b = no_products (top_run (bit_length n) n s e w t b)
  column_run (point n) s e w t b = point_run σ μ n s e w t b
