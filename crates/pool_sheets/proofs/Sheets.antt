-- What pool_sizes leaves, from the answer of `sizes::measure`: by the cases of the sheet's refusal. Assumes nothing.
use mathlib.Core.Path.{◌≡◌, refl, sym}
use mathlib.Core.Bool.{Bool, true, false, cond}
use mathlib.Core.List.{List}
use Prim.Native.Nat.{ℕ}
use native.Mathlib.Omega.{arith}
use borrow.Author.Tests.{eqb-true}
use lib.Dec.{eqb}
use Rattle.records.specs.Outcome.{ok, refused}
use Rattle.rules.specs.Settings.{document01}
use Rattle.rules.specs.Columns.{sheet_fault}
use Rattle.rules.specs.Sizes as rules
use Rattle.sizes.specs.declared.Sizes as code
use Rattle.sizes.specs.Room.{in_code, told_of}
use Rattle.pool_sheets.specs.Calls.{nine, TellsSizes}

module _ (s : List ℕ) where
  pub sizes_refused : (before : rules.Sizes) (n : ℕ) → told_of s ≡ refused n → TellsSizes s before n before
  unfolding told_of
  sizes_refused before n = by_fault (eqb (sheet_fault s) 0) refl
    where
      by_fault : (b : Bool) → eqb (sheet_fault s) 0 ≡ b
          → cond b (ok (in_code (rules.sizes_of document01 s))) (refused (sheet_fault s)) ≡ refused n
          → TellsSizes s before n before
      by_fault true e h = let z : ◌≡◌ {A = ℕ} 0 1 = cc in absurd (omega arith)
      by_fault false e h = let same : sheet_fault s ≡ n = cc in record { answer_is = sym same; sizes_are = rw e refl }

  pub sizes_told : (before : rules.Sizes) (z : code.Sizes) → told_of s ≡ ok z
      → TellsSizes s before 0
      (nine z.columns z.entries z.published z.wires z.multiplications z.tests z.circuit z.share z.greatest)
  unfolding told_of in_code
  sizes_told before z = by_fault (eqb (sheet_fault s) 0) refl
    where
      by_fault : (b : Bool) → eqb (sheet_fault s) 0 ≡ b
          → cond b (ok (in_code (rules.sizes_of document01 s))) (refused (sheet_fault s)) ≡ ok z
          → TellsSizes s before 0
          (nine z.columns z.entries z.published z.wires z.multiplications z.tests z.circuit z.share
          z.greatest)
      by_fault true e h =
          let same : in_code (rules.sizes_of document01 s) ≡ z = cc in
          record { answer_is = sym (eqb-true (sheet_fault s) 0 e); sizes_are = rw (e, sym same) refl }
      by_fault false e h = let z : ◌≡◌ {A = ℕ} 0 1 = cc in absurd (omega arith)
