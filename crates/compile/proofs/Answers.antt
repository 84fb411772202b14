-- The answers of the circuit writer: which refusal there is, and what each answer leaves in the buffer. The sheet's refusal
-- comes first, then 14. Assumes nothing.
use mathlib.Core.Path.{◌≡◌, sym}
use mathlib.Core.List.{List}
use Prim.Native.Nat.{ℕ, ◌≤◌, ◌<◌}
use native.Mathlib.Omega.{arith}
use borrow.Author.Tests.{ne_eqb, le-leb, lt-leb}
use lib.ListN.{length}
use Rattle.words.specs.Bytes.{splice}
use Rattle.records.specs.Outcome.{Outcome, ok, refused}
use Rattle.records.proofs.Outcome.{or_none, or_first}
use Rattle.rules.specs.Settings.{document01}
use Rattle.rules.specs.Columns.{read_sheet, columns_of}
use Rattle.rules.specs.CircuitReader.{sheet_circuit, sheet_circuit_refusal}
use Rattle.rules.proofs.Circuits.Refusals.{sheet_fault_lem}
use Rattle.rules.specs.Sizes.{circuit_size}
use Rattle.rules.proofs.Circuits.Limits.{limits}
use Rattle.rules.proofs.Circuits.Size.{circuit_size_is}
use Rattle.columns.specs.declared.Counts.{Counts}
use Rattle.columns.specs.Counting.{counts_of, Small}
use Rattle.columns.proofs.Taken.{columns_small}
use Rattle.sizes.specs.Room.{steps_size}
use Rattle.sizes.proofs.Room.{adds_made_lem, scales_made_lem}
use Rattle.sheet.specs.Reading.{reading_of}
use Rattle.sheet.proofs.Answers.{reading_refused}
use Rattle.records.specs.Answers.{answered, only_if}
use Rattle.compile.specs.Writing.{written_of, circuit_in}

-- what `write` promises of its answer and of the buffer
abbrev Answers : List ℕ → List ℕ → Outcome ℕ → List ℕ → Type 0
Answers s out r t = (r ≡ written_of s (length out)) × (t ≡ circuit_in s out)

module _ (s out : List ℕ) where
  refuse : (n : ℕ) → sheet_circuit_refusal document01 s (length out) ≡ n → (n ≡ 0 → ⊥) → Answers s out (refused n) out
  unfolding written_of circuit_in answered only_if
  refuse n e z = (rw (e, ne_eqb n 0 z), rw (e, ne_eqb n 0 z))

  -- the sheet is refused
  pub refuse_sheet : (n : ℕ) → reading_of s ≡ refused n → Answers s out (refused n) out
  unfolding sheet_circuit_refusal
  refuse_sheet n e = let r = reading_refused s n e in refuse n (rw r.0 (or_first n _ r.1)) r.1

  module _ (is_read : read_sheet s ≡ ok (columns_of s)) where
    pub refuse_short : length out < length (sheet_circuit document01 s) → Answers s out (refused 14) out
    unfolding sheet_circuit_refusal
    refuse_short h =
        refuse 14 (rw ((sheet_fault_lem s (columns_of s) is_read).0, or_none, lt-leb (length (sheet_circuit document01 s)) (length out) h))
        (λ z. omega arith)

    pub done : (n : ℕ) (t : List ℕ) → n ≡ length (sheet_circuit document01 s) → n ≤ length out
        → t ≡ splice out 0 (sheet_circuit document01 s) → Answers s out (ok n) t
    unfolding written_of circuit_in answered only_if sheet_circuit_refusal
    done n t e h p =
        let fits : length (sheet_circuit document01 s) ≤ length out = omega arith in
        let none : sheet_circuit_refusal document01 s (length out) ≡ 0
        = rw ((sheet_fault_lem s (columns_of s) is_read).0, or_none, le-leb (length (sheet_circuit document01 s)) (length out) fits) in
        (rw (none, e), rw none p)

-- ---- a sheet that is read, by its counts
module _ (s : List ℕ) where
  pub counts_small : read_sheet s ≡ ok (columns_of s) → (c : Counts) → c ≡ counts_of (columns_of s) → Small 256 c
  counts_small is_read c e =
      let l = limits s (columns_of s) is_read in
      rw e (columns_small 256 (columns_of s) l.in_limits l.entries_most)

  pub size_is : (c : Counts) → c ≡ counts_of (columns_of s) → steps_size c ≡ length (sheet_circuit document01 s)
  unfolding steps_size circuit_size sheet_circuit
  size_is c e = rw (e, adds_made_lem (columns_of s), scales_made_lem (columns_of s)) (sym (circuit_size_is document01 (columns_of s)))
