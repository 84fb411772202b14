-- The refusals before any message is looked at, in their order: each check that passes is put away, and the first that fails is the
-- answer. And what such an answer tells. Assumes nothing.
use mathlib.Core.Path.{◌≡◌, sym}
use mathlib.Core.List.{List}
use Prim.Native.Nat.{ℕ, ◌≤◌}
use native.Mathlib.Omega.{arith}
use Rattle.records.specs.Outcome.{ok, refused, or_else}
use Rattle.records.specs.Refusals.{number_of}
use Rattle.records.specs.Answers.{answered}
use Rattle.records.specs.declared.Refusal.{Refusal}
use Rattle.records.proofs.Outcome.{or_zero}
use Rattle.records.proofs.Refusals.{first_counts, second_counts}
use Rattle.rules.specs.Settings.{document01}
use Rattle.rules.specs.Columns.{Column, within, published_in, read_sheet, columns_of}
use Rattle.rules.specs.Columns.{sheet_fault, servers_fault, returns_fault, totals_fault}
use Rattle.rules.proofs.Circuits.Limits.{within_both}
use Rattle.rules.proofs.Circuits.Refusals.{sheet_fault_lem, sheet_read, sheet_limits_lem}
use Rattle.steps.proofs.Parts.{check_holds}
use Rattle.totals_message.specs.Totals.{Limited}
use Rattle.joining.specs.Calls.{pool_fault, pooled}
use Rattle.joining.proofs.Faults.{refused_by, done_by, done_told}

-- ---- by the checks
module _ (servers : ℕ) (sheet : List ℕ) (returns : ℕ) where
  abbrev columns : List Column
  columns = columns_of sheet

  refused_for : (r : Refusal) → number_of r ≡ pool_fault servers sheet returns → refused (number_of r) ≡ pooled servers sheet returns
  unfolding pooled answered
  refused_for r e = refused_by r _ _ e

  pub servers_refused : (r : Refusal) → number_of r ≡ servers_fault servers → refused (number_of r) ≡ pooled servers sheet returns
  unfolding pool_fault
  servers_refused r e = refused_for r (first_counts r _ _ e)

  module _ (some : 0 ≡ servers_fault servers) where
    pub sheet_refused : (r : Refusal) → number_of r ≡ sheet_fault sheet → refused (number_of r) ≡ pooled servers sheet returns
    unfolding pool_fault
    sheet_refused r e = refused_for r (second_counts _ _ _ some (first_counts r _ _ e))

    module _ (is_read : read_sheet sheet ≡ ok columns) where
      abbrev returns_faults : ℕ
      returns_faults = or_else (returns_fault returns) (totals_fault document01 returns columns)

      after_sheet : (f : ℕ) → f ≡ returns_faults → f ≡ pool_fault servers sheet returns
      unfolding pool_fault
      after_sheet f e = second_counts _ _ _ some (second_counts _ _ _ (sym (sheet_fault_lem sheet columns is_read).0) e)

      pub returns_refused : (r : Refusal) → number_of r ≡ returns_faults → refused (number_of r) ≡ pooled servers sheet returns
      returns_refused r e = refused_for r (after_sheet _ e)

      pub all_passed : (p : ℕ) → 0 ≡ returns_faults → p ≡ published_in columns → ok p ≡ pooled servers sheet returns
      unfolding pooled answered
      all_passed p e q = done_by _ _ p (after_sheet 0 e) q

-- ---- what an answer tells: S, N and the sheet are within their limits, and p entries are published
pub record Poolable (servers : ℕ) (sheet : List ℕ) (returns p : ℕ) : Type 0 where
  pub none : pool_fault servers sheet returns ≡ 0
  pub published_are : p ≡ published_in (columns_of sheet)
  pub is_read : read_sheet sheet ≡ ok (columns_of sheet)
  pub limited : Limited servers p
  pub few_returns : returns ≤ 1024

module _ (servers : ℕ) (sheet : List ℕ) (returns : ℕ) where
  pub passed : (p : ℕ) → p ≡ published_in (columns_of sheet) → pool_fault servers sheet returns ≡ 0 → Poolable servers sheet returns p
  unfolding pool_fault
  passed p q e =
      let a = or_zero (servers_fault servers) _ e in
      let s = within_both 2 8 servers (check_holds (within 2 8 servers) 1 a.0) in
      let b = or_zero (sheet_fault sheet) _ a.1 in
      let l = sheet_limits_lem sheet b.0 in
      let c = or_zero (returns_fault returns) _ b.1 in
      record {
        none = e;
        published_are = q;
        is_read = sheet_read sheet b.0;
        limited = record { some = s.0; few = s.1; small = omega (arith, l.published_most, l.entries_most) };
        few_returns = (within_both 1 1024 returns (check_holds (within 1 1024 returns) 1 c.0)).1;
      }

  pub pooled_done : (p : ℕ) → ok p ≡ pooled servers sheet returns → Poolable servers sheet returns p
  unfolding pooled answered
  pooled_done p e =
      let d = done_told (pool_fault servers sheet returns) _ p e in
      passed p d.1 d.0
