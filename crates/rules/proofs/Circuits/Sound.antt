-- A sheet's circuit is a run of sound steps: each names only wires already made and entries below L, and its constants are
-- below p. Part by part the wires are counted, so that each part starts where the one before it ends. Assumes nothing.
use mathlib.Core.Path.{◌≡◌, sym, subst}
use mathlib.Core.List.{List, [], ◌∷◌, ◌++◌}
use Prim.Native.Nat.{ℕ, zero, suc, ◌+◌, ◌-◌, ◌*◌, ◌^◌, ◌≤◌, ◌<◌}
use native.Mathlib.Nat.{pow-le-pow_right}
use native.Mathlib.Omega.{arith}
use Rattle.algebra.specs.Lists.{All, all[], all∷}
use Rattle.rules.specs.Settings.{Setting, Facts}
use Rattle.rules.specs.Columns.{Column, yes_no, choice, number, top, point, bit_length, entries_of, entries_in}
use Rattle.rules.specs.Circuit.{Step, constant, entry, add, scale, multiply, test, bit_check, bit_checks, option_sum}
use Rattle.rules.specs.Circuit.{option_adds, bit_adds, bit_sum, top_sums, top_steps, number_checks, product_check, point_checks, point_steps}
use Rattle.rules.specs.Circuit.{column_steps, wires_of, circuit_from, circuit_of, wires_in}
use Rattle.rules.specs.CircuitReader.{step_wires}
use Rattle.rules.proofs.Circuits.BitLength.{bit_length_lem}
use Rattle.rules.proofs.Circuits.Limits.{InLimits}

-- a step without a fault, where there are l entries and w wires are made
abbrev pub Sound : Setting → ℕ → ℕ → Step → Type 0
Sound σ l w (constant c) = c < σ.modulus
Sound σ l w (entry e) = e < l
Sound σ l w (add a b) = (a < w) × (b < w)
Sound σ l w (scale a c) = (c < σ.modulus) × (a < w)
Sound σ l w (multiply a b) = (a < w) × (b < w)
Sound σ l w (test a) = a < w

-- a run of sound steps, from w wires to w'
pub data Steps (σ : Setting) (l : ℕ) : ℕ → List Step → ℕ → Type 0 where
  steps[] : {w : ℕ} → Steps σ l w [] w
  steps∷ : {w w' : ℕ} {k : Step} {ks : List Step} → Sound σ l w k → Steps σ l (w + step_wires k) ks w'
      → Steps σ l w (k ∷ ks) w'

module _ (σ : Setting) (l : ℕ) where
  next : {w w' : ℕ} (k : Step) {ks : List Step} → Sound σ l w k → Steps σ l (w + step_wires k) ks w' → Steps σ l w (k ∷ ks) w'
  next k s r = steps∷ s r

  steps++ : {w w' w'' : ℕ} {a b : List Step} → Steps σ l w a w' → Steps σ l w' b w'' → Steps σ l w (a ++ b) w''
  steps++ steps[] q = q
  steps++ (steps∷ s r) q = steps∷ s (steps++ r q)

  steps_to : {w w' w'' : ℕ} {a : List Step} → w' ≡ w'' → Steps σ l w a w' → Steps σ l w a w''
  steps_to {w} {a = a} e s = subst (λ k. Steps σ l w a k) e s

  steps_from : {w w' w'' : ℕ} {a : List Step} → w ≡ w'' → Steps σ l w'' a w' → Steps σ l w a w'
  steps_from {w' = w'} {a = a} e s = subst (λ k. Steps σ l k a w') (sym e) s

  bit_sound : (e w : ℕ) → 0 < w → e < l → Steps σ l w (bit_check e w) (w + 3)
  unfolding bit_check step_wires
  bit_sound e w some h =
      next (entry e) h
      (next (add w 0) (omega arith, omega arith)
      (next (multiply w (suc w)) (omega arith, omega arith)
      (next (test (suc (suc w))) (omega arith) (steps_to (omega arith) steps[]))))

  bits_sound : (n e w : ℕ) → 0 < w → e + n ≤ l → Steps σ l w (bit_checks n e w) (w + 3 * n)
  unfolding bit_checks
  bits_sound zero e w some h = steps_to (omega arith) steps[]
  bits_sound (suc n) e w some h =
      steps++ (bits_sound n e w some (omega arith))
      (steps_to (omega arith) (bit_sound (e + n) (w + 3 * n) (omega arith) (omega arith)))

  sum_below : (q n : ℕ) → 0 < q → option_sum q n < q + n
  unfolding option_sum
  sum_below q zero h = omega arith
  sum_below q (suc n) h = omega arith

  options_sound : (n w q : ℕ) → 0 < q → w + 3 * n ≤ q → Steps σ l q (option_adds n w q) (q + n)
  unfolding option_adds step_wires
  options_sound zero w q some h = steps_to (omega arith) steps[]
  options_sound (suc n) w q some h =
      steps++ (options_sound n w q some (omega arith))
      (next (add (option_sum q n) (w + 3 * n)) (sum_below q n some, omega arith) (steps_to (omega arith) steps[]))

  -- ---- with constants: 2 ^ 24 is below p
  module _ (facts : Facts σ) where
    weights_sound : (n w q : ℕ) → w + 3 * n ≤ q → n ≤ 24 → Steps σ l (suc q) (bit_adds n w q) (suc q + 2 * n)
    unfolding bit_adds step_wires
    weights_sound zero w q h few = steps_to (omega arith) steps[]
    weights_sound (suc n) w q h few =
        let less : n ≤ 24 = omega arith in
        let most : 2 ^ n ≤ 2 ^ 24 = pow-le-pow_right (omega arith) less in
        steps++ (weights_sound n w q (omega arith) (omega arith))
        (next (scale (w + 3 * n) (2 ^ n)) (omega arith, omega arith)
        (next (add (q + 2 * n) (suc (q + 2 * n))) (omega arith, omega arith) (steps_to (omega arith) steps[])))

    sum_sound : (n w q : ℕ) → w + 3 * n ≤ q → n ≤ 24 → Steps σ l (suc q) (bit_sum n w q) (suc q + 2 * n)
    unfolding bit_sum step_wires
    sum_sound n w q h few =
        steps++ (weights_sound n w q h few) (next (test (q + 2 * n)) (omega arith) (steps_to (omega arith) steps[]))

    top_sound : (b n e w : ℕ) → b ≤ 24 → 1 ≤ n → 0 < w → e + suc (2 * b) ≤ l
        → Steps σ l w (top_steps σ e w b n) (w + (10 * b + 4))
    unfolding top_steps top_sums step_wires
    top_sound b n e w few some-top some fits =
        next (entry e) (omega arith)
        (steps_from (omega arith)
        (steps++ (bits_sound (2 * b) (suc e) (suc w) (omega arith) (omega arith))
        (next (scale w (σ.modulus - 1)) (omega arith, omega arith)
        (steps_from (omega arith)
        (steps++ (sum_sound b (suc w) q (omega arith) few)
        (next (constant (σ.modulus - n)) (omega arith)
        (next (add (suc (q + 2 * b)) w) (omega arith, omega arith)
        (steps_from (omega arith)
        (steps_to (omega arith) (sum_sound b (suc w + 3 * b) (suc (suc (q + 2 * b))) (omega arith) few))))))))))
      where
        q : ℕ
        q = suc w + 3 * (2 * b)

    checks_sound : (a e w n : ℕ) → n ≤ 24 → a < w → e + n ≤ l → Steps σ l w (number_checks σ a e w n) (w + (5 * n + 1))
    unfolding number_checks step_wires
    checks_sound a e w n few h fits =
        steps++ (bits_sound n e w (omega arith) fits)
        (next (scale a (σ.modulus - 1)) (omega arith, omega arith)
        (steps_from (omega arith) (steps_to (omega arith) (sum_sound n w (w + 3 * n) (omega arith) few))))

    product_sound : (a b c w : ℕ) → a < w → b < w → c < w → Steps σ l w (product_check σ a b c w) (w + 3)
    unfolding product_check step_wires
    product_sound a b c w ha hb hc =
        next (multiply a b) (ha, hb)
        (next (scale c (σ.modulus - 1)) (omega arith, omega arith)
        (next (add w (suc w)) (omega arith, omega arith)
        (next (test (suc (suc w))) (omega arith) (steps_to (omega arith) steps[]))))

    point_sound : (n e w : ℕ) → n ≤ 12 → 0 < w → e + (4 + 2 * n) ≤ l → Steps σ l w (point_steps σ e w n) (w + (10 * n + 12))
    unfolding point_steps point_checks step_wires
    point_sound n e w few some fits =
        next (entry e) (omega arith)
        (next (entry (e + 1)) (omega arith)
        (next (entry (e + 2)) (omega arith)
        (next (entry (e + 3)) (omega arith)
        (steps_from (omega arith)
        (steps++ (checks_sound w (e + 4) (w + 4) n (omega arith) (omega arith) (omega arith))
        (steps++ (checks_sound (w + 2) (e + 4 + n) (w + 4 + (5 * n + 1)) n (omega arith) (omega arith) (omega arith))
        (steps++ (product_sound w w (w + 1) q (omega arith) (omega arith) (omega arith))
        (steps_to (omega arith) (product_sound w (w + 2) (w + 3) (q + 3) (omega arith) (omega arith) (omega arith))))))))))
      where
        q : ℕ
        q = w + 4 + (5 * n + 1) + (5 * n + 1)

    column_sound : (c : Column) → InLimits c → (e w : ℕ) → 0 < w → e + entries_of c ≤ l
        → Steps σ l w (column_steps σ e w c) (w + wires_of c)
    unfolding column_steps entries_of wires_of step_wires
    column_sound yes_no h e w some fits = bits_sound 1 e w some fits
    column_sound (choice n) h e w some fits =
        steps++ (bits_sound n e w some fits)
        (steps++ (options_sound n w (w + 3 * n) (omega arith) (omega arith))
        (next (test (option_sum (w + 3 * n) n)) (sum_below (w + 3 * n) n (omega arith)) (steps_to (omega arith) steps[])))
    column_sound (number n) h e w some fits =
        next (entry e) (omega arith)
        (steps_from (omega arith)
        (steps_to (omega arith) (checks_sound w (suc e) (suc w) n h.1 (omega arith) (omega arith))))
    column_sound (top n) h e w some fits =
        top_sound (bit_length n) n e w (bit_length_lem n h.0 h.1).bits_most h.0 some fits
    column_sound (point n) h e w some fits = point_sound n e w h.1 some fits

    sheet_sound : (cs : List Column) → All InLimits cs → (e w : ℕ) → 0 < w → e + entries_in cs ≤ l
        → Steps σ l w (circuit_from σ e w cs) (w + wires_in cs)
    unfolding circuit_from entries_in wires_in
    sheet_sound [] all[] e w some fits = steps_to (omega arith) steps[]
    sheet_sound (c ∷ cs) (all∷ h hs) e w some fits =
        steps++ (column_sound c h e w some (omega arith))
        (steps_to (omega arith) (sheet_sound cs hs (e + entries_of c) (w + wires_of c) (omega arith) (omega arith)))

pub circuit_sound : (σ : Setting) → Facts σ → (cs : List Column) → All InLimits cs
    → Steps σ (entries_in cs) 0 (circuit_of σ cs) (suc (wires_in cs))
unfolding circuit_of step_wires
circuit_sound σ facts cs h =
    next σ (entries_in cs) (constant (σ.modulus - 1)) (omega arith)
    (steps_to σ (entries_in cs) (omega arith) (sheet_sound σ (entries_in cs) facts cs h 0 1 (omega arith) (omega arith)))
