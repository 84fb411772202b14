-- The parts of a table's judgement, test by test: the one that fails, or the last where the others hold. Assumes nothing.
use mathlib.Core.Path.{◌≡◌, refl, sym, ◌∙◌}
use mathlib.Core.Bool.{Bool, true, false, ◌&&◌}
use mathlib.Core.List.{List}
use Prim.Native.Nat.{ℕ, ◌+◌, ◌-◌, ◌*◌, ◌≤◌}
use native.Mathlib.Omega.{arith}
use borrow.Author.Tests.{le-leb, lt-leb, leb-true, leb-false}
use lib.Dec.{leb}
use lib.ListN.{length, take, drop}
use Rattle.std.specs.Prelude.{Result, Ok, Err, is_ok}
use Rattle.words.specs.Bytes.{part, elements_of, all_below}
use Rattle.records.specs.Outcome.{ok, or_else}
use Rattle.records.specs.Refusals.{fault_of}
use Rattle.records.specs.declared.Refusal.{Refusal}
use Rattle.records.proofs.Outcome.{or_none}
use Rattle.records.proofs.Refusals.{number_nonzero}
use Rattle.rules.specs.Settings.{document01}
use Rattle.rules.specs.Columns.{check, read_sheet, columns_of, returns_fault, totals_fault, totals_fit}
use Rattle.rules.specs.Table.{header_length, sheet_in, columns_in}
use Rattle.rules.proofs.Circuits.Limits.{within_is}
use Rattle.rules.proofs.Circuits.Refusals.{sheet_read}
use Rattle.layout.specs.Places.{totals_at, ids_at}
use Rattle.layout.specs.Numbers.{table_of}
use Rattle.layout.specs.declared.Table.{Table}
use Rattle.table.proofs.Header.{and_assoc}
use Rattle.table.specs.Reading.{length_of, Headed, counts_sound_at, totals_sound_at}

-- ---- the sheet x of a table, as the code cuts it out: it is read
module _ (T : List ℕ) (k : Table) (h : Headed T k) (x : List ℕ) (ex : x ≡ part header_length k.sheet T) where
  sheet_cut_lem : x ≡ sheet_in document01 T
  unfolding table_of
  sheet_cut_lem = rw h.says at ex

  pub cut_reads : read_sheet x ≡ ok (columns_of x)
  cut_reads = rw sheet_cut_lem (sheet_read (sheet_in document01 T) h.no_fault_lem)

  -- the limit on N
  cut_fault : or_else (returns_fault k.returns) (totals_fault document01 k.returns (columns_of x))
      ≡ check (totals_fit document01 k.returns (columns_in document01 T)) 4
  cut_fault =
      rw (sheet_cut_lem, within_is 1 1024 k.returns h.limited.returns_some h.limited.returns_most, or_none)

  fit_of_lem : (b : Bool) → check b 4 ≡ 0 → b ≡ true
  fit_of_lem true e = refl
  fit_of_lem false e = absurd (omega arith)

  unfit_of : (b : Bool) → (check b 4 ≡ 0 → ⊥) → b ≡ false
  unfit_of true e = absurd (e refl)
  unfit_of false e = refl

  -- what the answer of the code's check tells
  pub fits_is : (r : Result (Unit {0}) Refusal)
      → fault_of r ≡ or_else (returns_fault k.returns) (totals_fault document01 k.returns (columns_of x))
      → is_ok r ≡ totals_fit document01 k.returns (columns_in document01 T)
  fits_is (Ok u) e = sym (fit_of_lem _ (sym (e ∙ cut_fault)))
  fits_is (Err f) e = sym (unfit_of _ (λ z. number_nonzero f (e ∙ cut_fault ∙ z)))

-- ---- counts, where so many returns wait
few_is : (d w n : ℕ) → leb d n && leb w (n - d) ≡ leb (d + w) n
few_is d w n = decided (leb d n) refl
  where
    waiting : d ≤ n → (c : Bool) → leb w (n - d) ≡ c → c ≡ leb (d + w) n
    waiting h true e = let l = leb-true w (n - d) e in sym (le-leb (d + w) n (omega arith))
    waiting h false e = let l = leb-false w (n - d) e in sym (lt-leb (d + w) n (omega arith))

    decided : (b : Bool) → leb d n ≡ b → b && leb w (n - d) ≡ leb (d + w) n
    decided true e = waiting (leb-true d n e) (leb w (n - d)) refl
    decided false e = let l = leb-false d n e in sym (lt-leb (d + w) n (omega arith))

-- the tests of the code, one after another: v says of all but the last whether they hold
pub counts_are : (k : Table) (waiting : ℕ) (T : List ℕ) (v : Bool)
    → v ≡ ((totals_fit document01 k.returns (columns_in document01 T) && leb (length_of k) (length T)) && leb k.decided k.returns)
    && leb waiting (k.returns - k.decided)
    → v && leb k.entered k.decided ≡ counts_sound_at k waiting T
unfolding counts_sound_at
counts_are k waiting T v e = rw (e, ← few_is k.decided waiting k.returns) (simp and_assoc)

-- ---- totals, as the code cuts them out
module _ (k : Table) (T : List ℕ) where
  pub totals_cut : all_below 2147483647
      (elements_of 4 (take (ids_at k.sheet k.published - totals_at k.sheet) (drop (totals_at k.sheet) T)))
      ≡ totals_sound_at k T
  unfolding totals_sound_at
  totals_cut = let e : ids_at k.sheet k.published - totals_at k.sheet ≡ 4 * k.published = omega arith in rw e
