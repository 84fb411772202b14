-- The refusals of the call in their order, by the cases of each check; what its answer tells of them, and what a call that is
-- not refused may write. Assumes nothing.
use mathlib.Core.Path.{◌≡◌, refl, sym, ◌∙◌}
use mathlib.Core.Bool.{Bool, true, false, cond}
use mathlib.Core.List.{List}
use Prim.Native.Nat.{ℕ, ◌*◌, ◌≤◌, ◌<◌}
use native.Mathlib.Nat.{mul-le-mul}
use native.Mathlib.Omega.{arith}
use borrow.Author.Tests.{lt-leb, le-leb, leb-true, eq-eqb, ne_eqb, eqb-true, eqb-false}
use lib.Dec.{leb, eqb}
use lib.ListN.{length}
use Rattle.words.specs.Bytes.{splice}
use Rattle.records.specs.Outcome.{ok, refused, or_else}
use Rattle.records.specs.Answers.{only_if}
use Rattle.records.proofs.Outcome.{or_none, or_first, or_zero}
use Rattle.rules.specs.Columns.{read_sheet, sheet_fault, columns_of, check}
use Rattle.rules.specs.EveryReturn.{lists_in, every_return_bytes, every_return_length, every_return_refusal, most_lists}
use Rattle.rules.proofs.Circuits.Limits.{limits}
use Rattle.rules.proofs.Circuits.Refusals.{sheet_read, sheet_fault_lem}
use Rattle.every_return.specs.Listing.{Writable, listed_of, lists_out}
use Rattle.every_return.specs.declared.Lists.{Lists}

check_zero : (b : Bool) (n : ℕ) → check b n ≡ 0 → (n ≡ 0 → ⊥) → b ≡ true
check_zero true n h z = refl
check_zero false n h z = absurd (z h)

-- what a sheet's lists come to
abbrev pub found : List ℕ → Lists
found s = record { columns = length (columns_of s); lists = lists_in (columns_of s); written = every_return_length s }

module _ (s : List ℕ) (room : ℕ) where
  abbrev refusal : ℕ
  refusal = every_return_refusal s room

  -- ---- the refusals
  pub refused_sheet : (n : ℕ) → sheet_fault s ≡ n → (n ≡ 0 → ⊥) → refusal ≡ n
  unfolding every_return_refusal
  refused_sheet n e z = rw e (or_first n _ z)

  module _ (is_read : read_sheet s ≡ ok (columns_of s)) where
    after_sheet : refusal
        ≡ or_else (check (leb (lists_in (columns_of s)) most_lists) 17) (check (leb (every_return_length s) room) 14)
    unfolding every_return_refusal
    after_sheet = rw (sheet_fault_lem s (columns_of s) is_read).0 (or_none _)

    pub refused_many : most_lists < lists_in (columns_of s) → refusal ≡ 17
    unfolding or_else
    refused_many h = after_sheet ∙ rw (lt-leb (lists_in (columns_of s)) most_lists h)

    module _ (few : lists_in (columns_of s) ≤ most_lists) where
      after_count : refusal ≡ check (leb (every_return_length s) room) 14
      after_count = after_sheet ∙ rw (le-leb (lists_in (columns_of s)) most_lists few) (or_none _)

      pub refused_room : room < every_return_length s → refusal ≡ 14
      refused_room h = after_count ∙ rw (lt-leb (every_return_length s) room h)

      pub not_refused : every_return_length s ≤ room → refusal ≡ 0
      not_refused h = after_count ∙ rw (le-leb (every_return_length s) room h)

  -- ---- the answer by the refusal
  pub answer_refused : (n : ℕ) → refusal ≡ n → (n ≡ 0 → ⊥) → listed_of s room ≡ refused n
  unfolding listed_of
  answer_refused n e z = rw (e, ne_eqb n 0 z)

  pub answer_done : refusal ≡ 0 → listed_of s room ≡ ok (found s)
  unfolding listed_of
  answer_done e = rw (eq-eqb refusal 0 e)

  -- ---- the refusal by the answer
  refused_by_lem : (b : Bool) (n : ℕ) → cond b (ok (found s)) (refused refusal) ≡ refused n
      → (b ≡ false) × (refusal ≡ n)
  refused_by_lem true n e = let z : ◌≡◌ {A = ℕ} 0 1 = cc in absurd (omega arith)
  refused_by_lem false n e = (refl, cc)

  done_by : (b : Bool) (d : Lists) → cond b (ok (found s)) (refused refusal) ≡ ok d
      → (b ≡ true) × (d ≡ found s)
  done_by true d e = (refl, cc)
  done_by false d e = let z : ◌≡◌ {A = ℕ} 0 1 = cc in absurd (omega arith)

  pub listed_refused : (n : ℕ) → listed_of s room ≡ refused n → (refusal ≡ n) × (n ≡ 0 → ⊥)
  unfolding listed_of
  listed_refused n e =
      let r = refused_by_lem (eqb refusal 0) n e in
      (r.1, λ z. eqb-false refusal 0 r.0 (r.1 ∙ z))

  pub listed_done : (d : Lists) → listed_of s room ≡ ok d → (refusal ≡ 0) × (d ≡ found s)
  unfolding listed_of
  listed_done d e =
      let r = done_by (eqb refusal 0) d e in
      (eqb-true refusal 0 r.0, r.1)

-- 4 bytes for each value of each list are few
pub bytes_few : (s : List ℕ) → read_sheet s ≡ ok (columns_of s) → (lists : ℕ) → lists ≤ most_lists
    → 4 * length (columns_of s) * lists ≤ 4194304
bytes_few s e lists h =
    let m = limits s (columns_of s) e in
    let most : 4 * length (columns_of s) ≤ 1024 = omega (arith, m.columns_most, m.entries_most) in
    mul-le-mul most h

-- ---- what the buffer holds then
module _ (s out : List ℕ) where
  pub out_kept : (n : ℕ) → listed_of s (length out) ≡ refused n → out ≡ lists_out s out
  unfolding lists_out only_if
  out_kept n e =
      let r = listed_refused s (length out) n e in
      sym (rw (r.0, ne_eqb n 0 r.1) refl)

  module _ (d : Lists) (e : listed_of s (length out) ≡ ok d) where
    none : every_return_refusal s (length out) ≡ 0
    none = (listed_done s (length out) d e).0

    pub out_put : splice out 0 (every_return_bytes s) ≡ lists_out s out
    unfolding lists_out only_if
    out_put = sym (rw none refl)

    pub writable : Writable s d.columns d.lists out
    unfolding every_return_refusal every_return_length
    writable =
        let a = or_zero (sheet_fault s) _ none in
        let b = or_zero (check (leb (lists_in (columns_of s)) most_lists) 17) _ a.1 in
        let long = 4 * length (columns_of s) * lists_in (columns_of s) in
        let fits = check_zero (leb long (length out)) 14 b.1 (λ z. omega arith) in
        rw (listed_done s (length out) d e).1 (record {
          is_read = sheet_read s a.0;
          columns_are = refl;
          lists_are = refl;
          room = leb-true long (length out) fits;
        })
