-- The run of the parts of a column: a bit check, a row of them, the sum of the options, the sum of the bits by weight. Each
-- starts where wire 0 holds the constant p - 1, and says what it adds to the trace and which wire holds its result.
-- Assumes nothing.
use mathlib.Core.Path.{◌≡◌, refl, sym, ◌∙◌, ap, ap₂}
use mathlib.Core.List.{List, [], ◌∷◌}
use Prim.Native.Nat.{ℕ, zero, suc, ◌+◌, ◌-◌, ◌*◌, ◌^◌, ◌≤◌, ◌<◌}
use native.Mathlib.Nat.{add-zero}
use native.Mathlib.Decide.{ℕ_discrete}
use native.Mathlib.Omega.{arith}
use lib.ListN.{length, length-append}
use Rattle.algebra.specs.Lists.{tabulate}
use Rattle.algebra.proofs.Tables.{length_tabulate}
use Rattle.rules.specs.Settings.{Setting}
use Rattle.rules.specs.Circuit.{entry, add, scale, multiply, test, bit_check, bit_checks, option_sum, option_adds, bit_adds}
use Rattle.rules.specs.Circuit.{bit_sum}
use Rattle.rules.specs.Run.{Meaning, Trace, make_wire, make_gate, make_test, wire_at, step_run, run_from}
use Rattle.rules.specs.Walk.{sum_from, less_one, bit_out}
use Rattle.rules.proofs.Circuits.Growth.{run_append, last_wire, old_wire, more_wires, Grown, stay, one_wire, one_gate, one_test}
use Rattle.rules.proofs.Circuits.Growth.{then, grown_is, grown_to, scale_run, test_run, add_run, multiply_run}

module _ {X : Type 0} (σ : Setting) (μ : Meaning X) where
  -- before a column: w wires, t multiplications, and wire 0 holds the constant p - 1
  pub record Before (s : Trace X) (w t : ℕ) : Type 0 where
    pub some_wires : 0 < w
    pub wires_are : length s.wires ≡ w
    pub gates_are : length s.lefts ≡ t
    pub minus_one_lem : wire_at μ s 0 ≡ μ.constant_of (σ.modulus - 1)

  pub after : {s s' : Trace X} {w t n : ℕ} {ls rs ts : List X} → Before s w t → Grown μ s s' n ls rs ts
      → (g : ℕ) → length ls ≡ g → Before s' (w + n) (t + g)
  after {s} {ls = ls} b a g e = record {
    some_wires = omega arith;
    wires_are = omega arith;
    gates_are = ap length a.lefts_are ∙ length-append s.lefts ls ∙ ap₂ ◌+◌ b.gates_are e;
    minus_one_lem = a.kept 0 (omega arith) ∙ b.minus_one_lem;
  }

  pub before_is : {s : Trace X} {w t w' t' : ℕ} → Before s w t → w ≡ w' → t ≡ t' → Before s w' t'
  before_is b e f = record {
    some_wires = omega arith;
    wires_are = b.wires_are ∙ e;
    gates_are = b.gates_are ∙ f;
    minus_one_lem = b.minus_one_lem;
  }

  -- ---- one bit check
  pub record Bit (s s' : Trace X) (e w t : ℕ) : Type 0 where
    pub bit_grown : Grown μ s s' 3 (μ.entry_at e ∷ []) (less_one σ μ e ∷ []) (bit_out σ μ e t ∷ [])
    pub bit_wire : wire_at μ s' w ≡ μ.entry_at e

  pub bit_run : (s : Trace X) (e w t : ℕ) → Before s w t → Bit s (run_from μ s (bit_check e w)) e w t
  unfolding bit_check run_from less_one bit_out step_run
  bit_run s e w t b = record {
    bit_grown =
        grown_to μ whole
        (then μ (one_wire μ s x)
        (then μ (one_wire μ s1 y)
        (then μ (one_gate μ s2 x y) (then μ (one_wire μ (make_gate x y s2) o) (one_test μ s3 o)))));
    bit_wire = ap (λ z. wire_at μ z w) whole ∙ old_wire μ (make_gate x y s2) o w (omega (arith, n2, b.wires_are)) ∙ at2;
  }
    where
      x : X
      x = μ.entry_at e

      y : X
      y = μ.plus x (μ.constant_of (σ.modulus - 1))

      o : X
      o = μ.gate (suc t) x y

      s1 : Trace X
      s1 = make_wire x s

      s2 : Trace X
      s2 = make_wire y s1

      s3 : Trace X
      s3 = make_wire o (make_gate x y s2)

      n1 : length s1.wires ≡ suc w
      n1 = more_wires μ s x ∙ omega arith

      n2 : length s2.wires ≡ suc (suc w)
      n2 = more_wires μ s1 y ∙ ap (◌+ 1) n1 ∙ omega arith

      at1 : wire_at μ s1 w ≡ x
      at1 = last_wire μ s x w b.wires_are

      at2 : wire_at μ s2 w ≡ x
      at2 = old_wire μ s1 y w (omega (arith, n1)) ∙ at1

      zero1 : wire_at μ s1 0 ≡ μ.constant_of (σ.modulus - 1)
      zero1 = old_wire μ s x 0 (omega arith) ∙ b.minus_one_lem

      whole : run_from μ s (entry e ∷ add w 0 ∷ multiply w (suc w) ∷ test (suc (suc w)) ∷ []) ≡ make_test o s3
      whole =
          ap (λ z. run_from μ z (multiply w (suc w) ∷ test (suc (suc w)) ∷ [])) (add_run μ s1 w at1 0 zero1)
          ∙ ap (λ z. run_from μ z (test (suc (suc w)) ∷ []))
          (multiply_run μ s2 w at2 (suc w) t (last_wire μ s1 y (suc w) n1) b.gates_are)
          ∙ test_run μ s3 (suc (suc w)) (last_wire μ (make_gate x y s2) o (suc (suc w)) n2)

  -- ---- n bit checks
  pub record Bits (s s' : Trace X) (n e w t : ℕ) : Type 0 where
    pub bits_grown : Grown μ s s' (3 * n)
        (tabulate (λ i. μ.entry_at (e + i)) n)
        (tabulate (λ i. less_one σ μ (e + i)) n)
        (tabulate (λ i. bit_out σ μ (e + i) (t + i)) n)
    pub bits_wires : (j : ℕ) → j < n → wire_at μ s' (w + 3 * j) ≡ μ.entry_at (e + j)

  pub after_bits : {s s' : Trace X} {n e w t : ℕ} → Before s w t → Bits s s' n e w t → Before s' (w + 3 * n) (t + n)
  after_bits {n = n} {e} b r = after b r.bits_grown n (length_tabulate (λ i. μ.entry_at (e + i)) n)

  pub bits_run : (n : ℕ) (s : Trace X) (e w t : ℕ) → Before s w t → Bits s (run_from μ s (bit_checks n e w)) n e w t
  unfolding bit_checks run_from tabulate
  bits_run zero s e w t b = record { bits_grown = stay μ s; bits_wires = λ j l. absurd (omega arith) }
  bits_run (suc n) s e w t b =
      rw (run_append μ (bit_checks n e w) (bit_check (e + n) (w + 3 * n)) s) (go (bits_run n s e w t b))
    where
      s' : Trace X
      s' = run_from μ s (bit_checks n e w)

      s'' : Trace X
      s'' = run_from μ s' (bit_check (e + n) (w + 3 * n))

      go : Bits s s' n e w t → Bits s s'' (suc n) e w t
      go r = record {
        bits_grown = grown_is μ (then μ r.bits_grown last.bit_grown) (omega arith) refl refl refl;
        bits_wires = λ j l. at j l (ℕ_discrete j n);
      }
        where
          now : Before s' (w + 3 * n) (t + n)
          now = after_bits b r

          last : Bit s' s'' (e + n) (w + 3 * n) (t + n)
          last = bit_run s' (e + n) (w + 3 * n) (t + n) now

          at : (j : ℕ) → j < suc n → Dec (j ≡ n) → wire_at μ s'' (w + 3 * j) ≡ μ.entry_at (e + j)
          at j l (yes q) =
              ap (λ k. wire_at μ s'' (w + 3 * k)) q ∙ last.bit_wire ∙ ap (λ k. μ.entry_at (e + k)) (sym q)
          at j l (no q) =
              last.bit_grown.kept (w + 3 * j) (omega (arith, now.wires_are)) ∙ r.bits_wires j (omega arith)

  -- ---- a sum: n wires, of which this one holds this value
  pub record Summed (s s' : Trace X) (n wire : ℕ) (value : X) : Type 0 where
    pub sum_grown : Grown μ s s' n [] [] []
    pub sum_wire : wire_at μ s' wire ≡ value

  -- the sum of n options, whose entry wires are w, w + 3, ..; q is the next wire
  pub options_run : (f : ℕ → X) (n : ℕ) (s : Trace X) (w q : ℕ)
      → wire_at μ s 0 ≡ μ.constant_of (σ.modulus - 1) → length s.wires ≡ q → w + 3 * n ≤ q
      → ((j : ℕ) → j < n → wire_at μ s (w + 3 * j) ≡ f j)
      → Summed s (run_from μ s (option_adds n w q)) n (option_sum q n) (sum_from σ μ (μ.constant_of (σ.modulus - 1)) f n)
  unfolding option_adds option_sum sum_from run_from
  options_run f zero s w q z len fits at = record { sum_grown = stay μ s; sum_wire = z }
  options_run f (suc n) s w q z len fits at =
      rw (run_append μ (option_adds n w q) (add (option_sum q n) (w + 3 * n) ∷ []) s)
      (go (options_run f n s w q z len (omega arith) (λ j l. at j (omega arith))))
    where
      s' : Trace X
      s' = run_from μ s (option_adds n w q)

      acc : X
      acc = sum_from σ μ (μ.constant_of (σ.modulus - 1)) f n

      go : Summed s s' n (option_sum q n) acc
          → Summed s (run_from μ s' (add (option_sum q n) (w + 3 * n) ∷ [])) (suc n) (q + n) (μ.plus acc (f n))
      go r = record {
        sum_grown = grown_to μ is (grown_is μ (then μ r.sum_grown (one_wire μ s' v)) (omega arith) refl refl refl);
        sum_wire =
            ap (λ z. wire_at μ z (q + n)) is ∙ last_wire μ s' v (q + n) (omega (arith, r.sum_grown.made, len));
      }
        where
          v : X
          v = μ.plus acc (f n)

          is : step_run μ s' (add (option_sum q n) (w + 3 * n)) ≡ make_wire v s'
          is =
              add_run μ s' (option_sum q n) r.sum_wire (w + 3 * n)
              (r.sum_grown.kept (w + 3 * n) (omega arith) ∙ at n (omega arith))

  -- the sum of n bits by weight, whose entry wires are w, w + 3, ..; it starts from wire q, the last one
  pub weighted_run : (f : ℕ → X) (v : X) (n : ℕ) (s : Trace X) (w q : ℕ)
      → wire_at μ s q ≡ v → length s.wires ≡ suc q → w + 3 * n ≤ q
      → ((j : ℕ) → j < n → wire_at μ s (w + 3 * j) ≡ f j)
      → Summed s (run_from μ s (bit_adds n w q)) (2 * n) (q + 2 * n) (sum_from σ μ v (λ i. μ.times (f i) (2 ^ i)) n)
  unfolding bit_adds sum_from run_from
  weighted_run f v zero s w q z len fits at =
      record { sum_grown = stay μ s; sum_wire = ap (wire_at μ s) (add-zero q) ∙ z }
  weighted_run f v (suc n) s w q z len fits at =
      rw (run_append μ (bit_adds n w q) (scale (w + 3 * n) (2 ^ n) ∷ add (q + 2 * n) (suc (q + 2 * n)) ∷ []) s)
      (go (weighted_run f v n s w q z len (omega arith) (λ j l. at j (omega arith))))
    where
      s' : Trace X
      s' = run_from μ s (bit_adds n w q)

      acc : X
      acc = sum_from σ μ v (λ i. μ.times (f i) (2 ^ i)) n

      y : X
      y = μ.times (f n) (2 ^ n)

      go : Summed s s' (2 * n) (q + 2 * n) acc
          → Summed s (run_from μ s' (scale (w + 3 * n) (2 ^ n) ∷ add (q + 2 * n) (suc (q + 2 * n)) ∷ []))
          (2 * suc n) (q + 2 * suc n) (μ.plus acc y)
      go r = record {
        sum_grown =
            grown_to μ whole
            (grown_is μ (then μ r.sum_grown (then μ (one_wire μ s' y) (one_wire μ s1 x))) (omega arith) refl refl refl);
        sum_wire =
            ap (λ z. wire_at μ z (q + 2 * suc n)) whole
            ∙ last_wire μ s1 x (q + 2 * suc n) (omega (arith, more_wires μ s' y, long));
      }
        where
          x : X
          x = μ.plus acc y

          s1 : Trace X
          s1 = make_wire y s'

          long : length s'.wires ≡ suc (q + 2 * n)
          long = omega (arith, r.sum_grown.made)

          whole : run_from μ s' (scale (w + 3 * n) (2 ^ n) ∷ add (q + 2 * n) (suc (q + 2 * n)) ∷ []) ≡ make_wire x s1
          whole =
              ap (λ z. step_run μ z (add (q + 2 * n) (suc (q + 2 * n))))
              (scale_run μ s' (w + 3 * n) (r.sum_grown.kept (w + 3 * n) (omega arith) ∙ at n (omega arith)) (2 ^ n))
              ∙ add_run μ s1 (q + 2 * n) (old_wire μ s' y (q + 2 * n) (omega (arith, long)) ∙ r.sum_wire)
              (suc (q + 2 * n)) (last_wire μ s' y (suc (q + 2 * n)) long)

  -- the sum of n bits by weight, tested
  pub sum_run : (f : ℕ → X) (v : X) (n : ℕ) (s : Trace X) (w q : ℕ)
      → wire_at μ s q ≡ v → length s.wires ≡ suc q → w + 3 * n ≤ q
      → ((j : ℕ) → j < n → wire_at μ s (w + 3 * j) ≡ f j)
      → Grown μ s (run_from μ s (bit_sum n w q)) (2 * n) [] [] (sum_from σ μ v (λ i. μ.times (f i) (2 ^ i)) n ∷ [])
  unfolding bit_sum run_from
  sum_run f v n s w q z len fits at =
      rw (run_append μ (bit_adds n w q) (test (q + 2 * n) ∷ []) s)
      (grown_to μ (test_run μ s' (q + 2 * n) sums.sum_wire)
      (grown_is μ (then μ sums.sum_grown (one_test μ s' total)) (omega arith) refl refl refl))
    where
      s' : Trace X
      s' = run_from μ s (bit_adds n w q)

      total : X
      total = sum_from σ μ v (λ i. μ.times (f i) (2 ^ i)) n

      sums : Summed s s' (2 * n) (q + 2 * n) total
      sums = weighted_run f v n s w q z len fits at
