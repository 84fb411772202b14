-- What an answer of the reader tells, by the cases of the reading. Assumes nothing.
use mathlib.Core.Path.{◌≡◌, refl, sym, ap, ◌∙◌}
use mathlib.Core.Logic.{⊎_elim}
use mathlib.Core.List.{List}
use Prim.Native.Nat.{ℕ}
use native.Mathlib.Omega.{arith}
use Rattle.records.specs.Outcome.{Outcome, ok, refused}
use Rattle.rules.specs.Columns.{Column, read_sheet, fault_in, sheet_fault, columns_of}
use Rattle.rules.proofs.Circuits.Refusals.{sheet_refusals, sheet_read, sheet_fault_lem}
use Rattle.columns.specs.declared.Counts.{Counts}
use Rattle.columns.specs.Counting.{counts_of}
use Rattle.sheet.specs.Reading.{reading, reading_of}

module _ (s : List ℕ) where
  pub reading_refused : (n : ℕ) → reading_of s ≡ refused n → (sheet_fault s ≡ n) × (n ≡ 0 → ⊥)
  unfolding reading_of reading fault_in
  reading_refused n h = outcome (read_sheet s) refl h
    where
      outcome : (r : Outcome (List Column)) → read_sheet s ≡ r → reading r ≡ refused n → (fault_in r ≡ n) × (n ≡ 0 → ⊥)
      outcome (ok cs) q g = let z : ◌≡◌ {A = ℕ} 0 1 = cc in absurd (omega arith)
      outcome (refused m) q g =
          let e : m ≡ n = cc in
          (e, λ z. ⊎_elim (λ l. omega arith) (λ l. omega arith) (sheet_refusals s m q))

  pub reading_counts : (k : Counts) → reading_of s ≡ ok k
      → (read_sheet s ≡ ok (columns_of s)) × (k ≡ counts_of (columns_of s))
  unfolding reading_of reading
  reading_counts k h = outcome (read_sheet s) refl h
    where
      outcome : (r : Outcome (List Column)) → read_sheet s ≡ r → reading r ≡ ok k
          → (read_sheet s ≡ ok (columns_of s)) × (k ≡ counts_of (columns_of s))
      outcome (ok cs) q g =
          let e : counts_of cs ≡ k = cc in
          let f = sheet_fault_lem s cs q in
          (sheet_read s f.0, sym e ∙ ap counts_of (sym f.1))
      outcome (refused m) q g = let z : ◌≡◌ {A = ℕ} 0 1 = cc in absurd (omega arith)
