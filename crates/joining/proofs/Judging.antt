-- The refusals of joining behind those that come before any message is looked at: each check that passes is put away, and the first
-- that fails is the answer. Assumes nothing.
use mathlib.Core.Path.{◌≡◌, sym, ◌∙◌}
use mathlib.Core.List.{List}
use Prim.Native.Nat.{ℕ, ◌*◌, ◌≤◌, ◌<◌}
use borrow.Author.Tests.{lt-leb, le-leb}
use lib.Dec.{leb}
use Rattle.records.specs.Outcome.{ok, refused, or_else}
use Rattle.records.specs.Refusals.{number_of}
use Rattle.records.specs.Answers.{answered}
use Rattle.records.specs.declared.Refusal.{Refusal}
use Rattle.records.specs.declared.Refusal.TheVariants as why
use Rattle.records.proofs.Outcome.{or_none, or_assoc}
use Rattle.records.proofs.Refusals.{first_counts, second_counts}
use Rattle.rules.specs.Settings.{document01}
use Rattle.rules.specs.Columns.{check, published_in, columns_of}
use Rattle.rules.specs.Joining.{join_refusal}
use Rattle.totals_message.specs.Totals.{joined_fault_at}
use Rattle.totals_message.proofs.Totals.{joined_fault_lem}
use Rattle.joining.specs.Calls.{pool_fault, pooled, judged}
use Rattle.joining.proofs.Faults.{refused_by, done_by, refused_told}
use Rattle.joining.proofs.Pooling.{Poolable}

module _ (servers : ℕ) (sheet : List ℕ) (returns : ℕ) (joined : List ℕ) (room : ℕ) where
  abbrev refusal : ℕ
  refusal = join_refusal document01 servers sheet returns joined room

  by_pool : refusal
      ≡ or_else (pool_fault servers sheet returns)
      (or_else (joined_fault_at servers (published_in (columns_of sheet)) returns joined)
      (check (leb (4 * published_in (columns_of sheet)) room) 14))
  unfolding join_refusal pool_fault
  by_pool = rw (or_assoc, or_assoc, or_assoc, joined_fault_lem servers (columns_of sheet) returns joined)

  refused_for : (r : Refusal) → number_of r ≡ refusal → refused (number_of r) ≡ judged servers sheet returns joined room
  unfolding judged answered
  refused_for r e = refused_by r _ _ e

  pub pool_refused : (r : Refusal) → refused (number_of r) ≡ pooled servers sheet returns
      → refused (number_of r) ≡ judged servers sheet returns joined room
  unfolding pooled answered
  pool_refused r e = refused_for r (first_counts r _ _ (refused_told _ _ _ e) ∙ sym by_pool)

  -- p entries are published
  module _ (p : ℕ) (h : Poolable servers sheet returns p) where
    after_pool : (f : ℕ) → f ≡ or_else (joined_fault_at servers p returns joined) (check (leb (4 * p) room) 14) → f ≡ refusal
    after_pool f e = e ∙ sym (by_pool ∙ rw (h.none, or_none, ← h.published_are))

    pub fault_refused : (r : Refusal) → number_of r ≡ joined_fault_at servers p returns joined
        → refused (number_of r) ≡ judged servers sheet returns joined room
    fault_refused r e = refused_for r (after_pool _ (first_counts r _ _ e))

    module _ (sound : 0 ≡ joined_fault_at servers p returns joined) where
      after_fault : (f : ℕ) → f ≡ check (leb (4 * p) room) 14 → f ≡ refusal
      after_fault f e = after_pool f (second_counts _ _ _ sound e)

      pub room_refused : room < 4 * p → refused 14 ≡ judged servers sheet returns joined room
      room_refused l = refused_for why.Room (after_fault 14 (rw (lt-leb (4 * p) room l)))

      pub judged_fit : 4 * p ≤ room → ok (4 * p) ≡ judged servers sheet returns joined room
      unfolding judged answered
      judged_fit l = done_by _ _ (4 * p) (after_fault 0 (rw (le-leb (4 * p) room l))) (rw h.published_are)
