-- What pool_line tells of the closing messages of a pool: its promise, and the line of a pool whose returns keep their form.
-- Assumes the promise of the call.
use mathlib.Core.Path.{◌≡◌, refl, sym, ap, ◌∙◌}
use mathlib.Core.Bool.{Bool, true, false, not}
use mathlib.Core.List.{List}
use Prim.Native.Nat.{ℕ}
use native.Mathlib.Omega.{arith}
use borrow.Author.Tests.{eqb-true, ne_eqb}
use lib.Dec.{eqb}
use lib.IntN.{ℤ, pos, negsuc}
use Rattle.algebra.specs.Lists.{In}
use Rattle.rules.specs.Settings.{document01}
use Rattle.rules.specs.Columns.{check}
use Rattle.rules.specs.Pools.{Pool, columns, KeepsForm}
use Rattle.rules.specs.WholeRun.{closings, Closed}
use Rattle.rules.specs.Line.{Sums, determinant, slope, intercept, is_zero, names_point, line_sums, line_refusal, sums_of, Fitted}
use Rattle.rules.proofs.Runs.FittedLine.{document01_line_run}
use Rattle.pool_totals.specs.Calls.{signed_if, TellsLine}
use Rattle.calls.specs.Lines.{points_of, LineOf, LineTold}

-- a signed number behind a pointer
signed_kept : (f : ℕ) (new old x : ℤ) → x ≡ signed_if f new old → (f ≡ 0 → ⊥) → x ≡ old
unfolding signed_if
signed_kept f new old x e z = e ∙ rw (ne_eqb f 0 z) refl

signed_done : (f : ℕ) (new old x : ℤ) → x ≡ signed_if f new old → f ≡ 0 → x ≡ new
unfolding signed_if
signed_done f new old x e z = e ∙ rw z refl

-- the check of D fails exactly where D is 0
not_by : (b : Bool) → check (not b) 18 ≡ 18 → b ≡ true
not_by true e = refl
not_by false e = absurd (omega arith)

zero_said : (z : ℤ) → check (not (is_zero z)) 18 ≡ 18 → z ≡ pos 0
unfolding is_zero
zero_said (pos n) e = ap pos (eqb-true n 0 (not_by (eqb n 0) e))
zero_said (negsuc n) e = absurd (omega arith)

zero_fails : (z : ℤ) → z ≡ pos 0 → check (not (is_zero z)) 18 ≡ 18
unfolding is_zero
zero_fails z e = rw e

module _ (𝓟 : Pool document01) (joined : List ℕ) (joined_are : joined ≡ closings document01 𝓟) (closed : Closed document01 𝓟)
    (column : ℕ) (names : names_point column (columns document01 𝓟) ≡ true)
    (determinant₀ slope₀ intercept₀ : ℤ) (a : ℕ) (determinant' slope' intercept' : ℤ)
    (t : TellsLine 𝓟.servers 𝓟.sheet 𝓟.returns joined column determinant₀ slope₀ intercept₀ a determinant' slope' intercept') where
  abbrev refusal : ℕ
  refusal = line_refusal document01 𝓟.servers 𝓟.sheet 𝓟.returns joined column

  abbrev points : Sums
  points = sums_of (points_of 𝓟 column closed.ids)

  module _ (keeps : (id : ℕ) → In id closed.ids → KeepsForm document01 𝓟 id) where
    abbrev line : Fitted document01 𝓟 column closed.ids
    line = document01_line_run 𝓟 closed keeps column names

    sums_are : line_sums document01 𝓟.servers 𝓟.sheet joined column ≡ points
    sums_are = ap (λ (x : List ℕ). line_sums document01 𝓟.servers 𝓟.sheet x column) joined_are ∙ line.sums_are

    number : a ≡ check (not (is_zero (determinant points))) 18
    number =
        t.answer_is
        ∙ ap (λ (x : List ℕ). line_refusal document01 𝓟.servers 𝓟.sheet 𝓟.returns x column) joined_are
        ∙ line.refused_only
        ∙ ap (λ (s : Sums). check (not (is_zero (determinant s))) 18) line.sums_are

    whole : LineOf 𝓟 column closed.ids a determinant' slope' intercept'
    whole =
        let none : a ≡ 0 → refusal ≡ 0 = λ z. sym t.answer_is ∙ z in
        let d = determinant points in
        let said : determinant (line_sums document01 𝓟.servers 𝓟.sheet (closings document01 𝓟) column) ≡ d =
        ap determinant line.sums_are in
        record {
          fitted = line;
          number = number;
          refused_when = (
            λ e. line.zero_when.0 (said ∙ zero_said d (sym number ∙ e)),
            λ h. number ∙ zero_fails d (sym said ∙ line.zero_when.1 h),
          );
          told = λ z. (
            signed_done refusal _ _ _ t.determinant_is (none z) ∙ ap determinant sums_are,
            signed_done refusal _ _ _ t.slope_is (none z) ∙ ap slope sums_are,
            signed_done refusal _ _ _ t.intercept_is (none z) ∙ ap intercept sums_are,
          );
        }

  pub line_told : LineTold 𝓟 column determinant₀ slope₀ intercept₀ a determinant' slope' intercept'
  line_told = record {
    ids = closed.ids;
    distinct = closed.distinct;
    same_ids = closed.same_ids;
    kept = λ h.
        let z : refusal ≡ 0 → ⊥ = λ q. h (t.answer_is ∙ q) in (
          signed_kept refusal _ _ _ t.determinant_is z,
          signed_kept refusal _ _ _ t.slope_is z,
          signed_kept refusal _ _ _ t.intercept_is z,
        );
    whole = whole;
  }
