-- The runs of the checks of a number, and of the columns made of them: a number, and a point with its two products. Each stretch
-- keeps the wires before it, so that the entry wires serve every check. Assumes nothing.
use mathlib.Core.Path.{◌≡◌, refl, sym, ◌∙◌, ap}
use mathlib.Core.List.{List, [], ◌∷◌, ◌++◌, append-nil, append_assoc}
use Prim.Native.Nat.{ℕ, suc, ◌+◌, ◌-◌, ◌*◌, ◌<◌}
use native.Mathlib.Omega.{arith}
use lib.ListN.{length}
use Rattle.algebra.specs.Lists.{tabulate}
use Rattle.algebra.proofs.Tables.{length_tabulate, tabulate_append, tabulate_cong}
use Rattle.rules.specs.Settings.{Setting}
use Rattle.rules.specs.Columns.{number, point}
use Rattle.rules.specs.Circuit.{Step, add, scale, test, bit_checks, bit_sum, number_checks, product_check, point_checks, point_steps}
use Rattle.rules.specs.Circuit.{column_steps}
use Rattle.rules.specs.Run.{Meaning, Trace, make_wire, make_gate, wire_at, step_run, run_from}
use Rattle.rules.specs.Walk.{less_one, bit_tests, weighted, number_test, number_tests, product_test, column_tests}
use Rattle.rules.proofs.Circuits.Growth.{run_append, last_wire, old_wire, more_wires, Grown, one_wire, one_test, one_gate}
use Rattle.rules.proofs.Circuits.Growth.{then, grown_is, grown_to, scale_run, test_run, add_run, multiply_run}
use Rattle.rules.proofs.Circuits.Stretches.{Before, after, before_is, Bits, after_bits, bits_run, sum_run}

module _ {X : Type 0} (σ : Setting) (μ : Meaning X) where
  -- the kind 19 checks of entry v: wire a holds it
  pub checks_run : (v a e w n : ℕ) (s : Trace X) (t : ℕ) → Before σ μ s w t → a < w → wire_at μ s a ≡ μ.entry_at v
      → Grown μ s (run_from μ s (number_checks σ a e w n)) (5 * n + 1)
      (tabulate (λ i. μ.entry_at (e + i)) n)
      (tabulate (λ i. less_one σ μ (e + i)) n)
      (number_tests σ μ v e t n)
  unfolding number_checks number_tests bit_tests number_test weighted run_from
  checks_run v a e w n s t b low v_wire =
      grown_to μ
      (run_append μ (bit_checks n e w) (scale a m ∷ bit_sum n w q) s
      ∙ ap (λ z. run_from μ z (bit_sum n w q))
      (scale_run μ s1 a (bits.bits_grown.kept a (omega (arith, b.wires_are)) ∙ v_wire) m))
      (grown_is μ (then μ bits.bits_grown (then μ (one_wire μ s1 y) sums)) (omega arith) (append-nil _) (append-nil _) refl)
    where
      m : ℕ
      m = σ.modulus - 1

      q : ℕ
      q = w + 3 * n

      y : X
      y = μ.times (μ.entry_at v) m

      s1 : Trace X
      s1 = run_from μ s (bit_checks n e w)

      s2 : Trace X
      s2 = make_wire y s1

      bits : Bits σ μ s s1 n e w t
      bits = bits_run σ μ n s e w t b

      now : Before σ μ s1 q (t + n)
      now = after_bits σ μ b bits

      sums : Grown μ s2 (run_from μ s2 (bit_sum n w q)) (2 * n) [] [] (number_test σ μ v e n ∷ [])
      sums =
          sum_run σ μ (λ i. μ.entry_at (e + i)) y n s2 w q
          (last_wire μ s1 y q now.wires_are)
          (more_wires μ s1 y ∙ omega (arith, now.wires_are))
          (omega arith)
          (λ j l. old_wire μ s1 y (w + 3 * j) (omega (arith, now.wires_are)) ∙ bits.bits_wires j l)

  pub number_run : (n : ℕ) (s : Trace X) (e w t : ℕ) → Before σ μ s w t
      → Grown μ s (run_from μ s (column_steps σ e w (number n))) (suc (3 * n) + suc (2 * n))
      (tabulate (λ i. μ.entry_at (suc e + i)) n)
      (tabulate (λ i. less_one σ μ (suc e + i)) n)
      (column_tests σ μ e t (number n))
  unfolding column_steps column_tests run_from step_run
  number_run n s e w t b =
      grown_is μ
      (then μ (one_wire μ s (μ.entry_at e))
      (checks_run e w (suc e) (suc w) n (make_wire (μ.entry_at e) s) t
      (before_is σ μ (after σ μ b (one_wire μ s (μ.entry_at e)) 0 refl) (omega arith) (omega arith)) (omega arith)
      (last_wire μ s (μ.entry_at e) w b.wires_are)))
      (omega arith) refl refl refl

  -- a product's check: the wires a, b and c hold x, y and z
  product_run : (a b c w : ℕ) (s : Trace X) (t : ℕ) (x y z : X) → Before σ μ s w t → a < w → b < w → c < w
      → wire_at μ s a ≡ x → wire_at μ s b ≡ y → wire_at μ s c ≡ z
      → Grown μ s (run_from μ s (product_check σ a b c w)) 3 (x ∷ []) (y ∷ [])
      (μ.plus (μ.gate (suc t) x y) (μ.times z (σ.modulus - 1)) ∷ [])
  unfolding product_check run_from
  product_run a b c w s t x y z before ha hb hc xa yb zc =
      grown_to μ
      (ap (λ k. run_from μ k (scale c m ∷ add w (suc w) ∷ test (suc (suc w)) ∷ []))
      (multiply_run μ s a xa b t yb before.gates_are)
      ∙ ap (λ k. run_from μ k (add w (suc w) ∷ test (suc (suc w)) ∷ []))
      (scale_run μ s1 c (old_wire μ s0 o c (omega (arith, before.wires_are)) ∙ zc) m)
      ∙ ap (λ k. run_from μ k (test (suc (suc w)) ∷ []))
      (add_run μ s2 w (old_wire μ s1 v w (omega (arith, n1)) ∙ last_wire μ s0 o w before.wires_are)
      (suc w) (last_wire μ s1 v (suc w) n1))
      ∙ test_run μ s3 (suc (suc w)) (last_wire μ s2 k (suc (suc w)) n2))
      (then μ (one_gate μ s x y)
      (then μ (one_wire μ s0 o) (then μ (one_wire μ s1 v) (then μ (one_wire μ s2 k) (one_test μ s3 k)))))
    where
      m : ℕ
      m = σ.modulus - 1

      o : X
      o = μ.gate (suc t) x y

      v : X
      v = μ.times z m

      k : X
      k = μ.plus o v

      s0 : Trace X
      s0 = make_gate x y s

      s1 : Trace X
      s1 = make_wire o s0

      s2 : Trace X
      s2 = make_wire v s1

      s3 : Trace X
      s3 = make_wire k s2

      n1 : length s1.wires ≡ suc w
      n1 = more_wires μ s0 o ∙ omega (arith, before.wires_are)

      n2 : length s2.wires ≡ suc (suc w)
      n2 = more_wires μ s1 v ∙ omega (arith, n1)

  two_rows : (g : ℕ → X) (a n : ℕ) (l : List X)
      → tabulate (λ i. g (a + i)) n ++ (tabulate (λ i. g (a + n + i)) n ++ l) ≡ tabulate (λ i. g (a + i)) (2 * n) ++ l
  two_rows g a n l =
      let double : n + n ≡ 2 * n = omega arith in
      sym (append_assoc (tabulate (λ i. g (a + i)) n) (tabulate (λ i. g (a + n + i)) n) l)
      ∙ ap (◌++ l)
      (ap (tabulate (λ i. g (a + i)) n ++◌) (tabulate_cong _ _ n (λ i h. place i))
      ∙ sym (tabulate_append (λ i. g (a + i)) n n) ∙ ap (tabulate (λ i. g (a + i))) double)
    where
      place : (i : ℕ) → g (a + n + i) ≡ g (a + (n + i))
      place i = let e : a + n + i ≡ a + (n + i) = omega arith in ap g e

  pub point_run : (n : ℕ) (s : Trace X) (e w t : ℕ) → Before σ μ s w t
      → Grown μ s (run_from μ s (point_steps σ e w n)) (10 * n + 12)
      (tabulate (λ i. μ.entry_at (e + 4 + i)) (2 * n) ++ (μ.entry_at e ∷ μ.entry_at e ∷ []))
      (tabulate (λ i. less_one σ μ (e + 4 + i)) (2 * n) ++ (μ.entry_at e ∷ μ.entry_at (e + 2) ∷ []))
      (column_tests σ μ e t (point n))
  unfolding point_steps point_checks column_tests product_test run_from step_run
  point_run n s e w t b =
      grown_to μ (run_append μ k1 (k2 ++ (p1 ++ p2)) s4 ∙ run_append μ k2 (p1 ++ p2) s5 ∙ run_append μ p1 p2 s6)
      (grown_is μ (then μ four (then μ c1 (then μ c2 (then μ d1 d2)))) (omega arith)
      (two_rows μ.entry_at (e + 4) n _) (two_rows (less_one σ μ) (e + 4) n _) refl)
    where
      entry_of : ℕ → X
      entry_of = μ.entry_at

      q : ℕ
      q = w + 4 + (5 * n + 1) + (5 * n + 1)

      k1 : List Step
      k1 = number_checks σ w (e + 4) (w + 4) n

      k2 : List Step
      k2 = number_checks σ (w + 2) (e + 4 + n) (w + 4 + (5 * n + 1)) n

      p1 : List Step
      p1 = product_check σ w w (w + 1) q

      p2 : List Step
      p2 = product_check σ w (w + 2) (w + 3) (q + 3)

      s1 : Trace X
      s1 = make_wire (entry_of e) s

      s2 : Trace X
      s2 = make_wire (entry_of (e + 1)) s1

      s3 : Trace X
      s3 = make_wire (entry_of (e + 2)) s2

      s4 : Trace X
      s4 = make_wire (entry_of (e + 3)) s3

      s5 : Trace X
      s5 = run_from μ s4 k1

      s6 : Trace X
      s6 = run_from μ s5 k2

      s7 : Trace X
      s7 = run_from μ s6 p1

      n1 : length s1.wires ≡ w + 1
      n1 = more_wires μ s (entry_of e) ∙ omega (arith, b.wires_are)

      n2 : length s2.wires ≡ w + 2
      n2 = more_wires μ s1 (entry_of (e + 1)) ∙ omega (arith, n1)

      n3 : length s3.wires ≡ w + 3
      n3 = more_wires μ s2 (entry_of (e + 2)) ∙ omega (arith, n2)

      w3 : wire_at μ s4 (w + 3) ≡ entry_of (e + 3)
      w3 = last_wire μ s3 (entry_of (e + 3)) (w + 3) n3

      w2 : wire_at μ s4 (w + 2) ≡ entry_of (e + 2)
      w2 = old_wire μ s3 (entry_of (e + 3)) (w + 2) (omega (arith, n3)) ∙ last_wire μ s2 (entry_of (e + 2)) (w + 2) n2

      w1 : wire_at μ s4 (w + 1) ≡ entry_of (e + 1)
      w1 =
          old_wire μ s3 (entry_of (e + 3)) (w + 1) (omega (arith, n3))
          ∙ old_wire μ s2 (entry_of (e + 2)) (w + 1) (omega (arith, n2))
          ∙ last_wire μ s1 (entry_of (e + 1)) (w + 1) n1

      w0 : wire_at μ s4 w ≡ entry_of e
      w0 =
          old_wire μ s3 (entry_of (e + 3)) w (omega (arith, n3))
          ∙ old_wire μ s2 (entry_of (e + 2)) w (omega (arith, n2))
          ∙ old_wire μ s1 (entry_of (e + 1)) w (omega (arith, n1))
          ∙ last_wire μ s (entry_of e) w b.wires_are

      four : Grown μ s s4 4 [] [] []
      four =
          then μ (one_wire μ s (entry_of e))
          (then μ (one_wire μ s1 (entry_of (e + 1)))
          (then μ (one_wire μ s2 (entry_of (e + 2))) (one_wire μ s3 (entry_of (e + 3)))))

      b4 : Before σ μ s4 (w + 4) t
      b4 = before_is σ μ (after σ μ b four 0 refl) refl (omega arith)

      c1 : Grown μ s4 s5 (5 * n + 1) (tabulate (λ i. entry_of (e + 4 + i)) n) (tabulate (λ i. less_one σ μ (e + 4 + i)) n)
          (number_tests σ μ e (e + 4) t n)
      c1 = checks_run e w (e + 4) (w + 4) n s4 t b4 (omega arith) w0

      b5 : Before σ μ s5 (w + 4 + (5 * n + 1)) (t + n)
      b5 = after σ μ b4 c1 n (length_tabulate (λ i. entry_of (e + 4 + i)) n)

      c2 : Grown μ s5 s6 (5 * n + 1) (tabulate (λ i. entry_of (e + 4 + n + i)) n)
          (tabulate (λ i. less_one σ μ (e + 4 + n + i)) n) (number_tests σ μ (e + 2) (e + 4 + n) (t + n) n)
      c2 =
          checks_run (e + 2) (w + 2) (e + 4 + n) (w + 4 + (5 * n + 1)) n s5 (t + n) b5 (omega arith)
          (c1.kept (w + 2) (omega (arith, b4.wires_are)) ∙ w2)

      b6 : Before σ μ s6 q (t + n + n)
      b6 = after σ μ b5 c2 n (length_tabulate (λ i. entry_of (e + 4 + n + i)) n)

      kept6 : (k : ℕ) → k < w + 4 → wire_at μ s6 k ≡ wire_at μ s4 k
      kept6 k l = c2.kept k (omega (arith, b5.wires_are)) ∙ c1.kept k (omega (arith, b4.wires_are))

      d1 : Grown μ s6 s7 3 (entry_of e ∷ []) (entry_of e ∷ []) (product_test σ μ (t + n + n) e e (e + 1) ∷ [])
      d1 =
          product_run w w (w + 1) q s6 (t + n + n) _ _ _ b6 (omega arith) (omega arith) (omega arith)
          (kept6 w (omega arith) ∙ w0) (kept6 w (omega arith) ∙ w0) (kept6 (w + 1) (omega arith) ∙ w1)

      b7 : Before σ μ s7 (q + 3) (suc (t + n + n))
      b7 = before_is σ μ (after σ μ b6 d1 1 refl) refl (omega arith)

      kept7 : (k : ℕ) → k < w + 4 → wire_at μ s7 k ≡ wire_at μ s4 k
      kept7 k l = d1.kept k (omega (arith, b6.wires_are)) ∙ kept6 k l

      d2 : Grown μ s7 (run_from μ s7 p2) 3 (entry_of e ∷ []) (entry_of (e + 2) ∷ [])
          (product_test σ μ (suc (t + n + n)) e (e + 2) (e + 3) ∷ [])
      d2 =
          product_run w (w + 2) (w + 3) (q + 3) s7 (suc (t + n + n)) _ _ _ b7 (omega arith) (omega arith) (omega arith)
          (kept7 w (omega arith) ∙ w0) (kept7 (w + 2) (omega arith) ∙ w2) (kept7 (w + 3) (omega arith) ∙ w3)
