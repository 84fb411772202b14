-- What a call leaves: where it is refused the table that was there, else the new one. Assumes nothing.
use mathlib.Core.Path.{◌≡◌, sym, ◌∙◌}
use mathlib.Core.List.{List}
use Prim.Native.Nat.{ℕ, ◌<◌}
use borrow.Author.Tests.{ne_eqb}
use lib.ListN.{length}
use Rattle.std.specs.Prelude.{Some, None}
use Rattle.slots.specs.declared.Slot.{Slot}
use Rattle.slots.specs.Slots.{applied}
use Rattle.rules.specs.Table.{Lent}
use Rattle.waiting.specs.Changes.{records_at, lent, unless_refused, Changes}

module _ (refusal : ℕ) (new T : Lent) where
  pub kept : (n : ℕ) → refusal ≡ n → (n ≡ 0 → ⊥) → unless_refused refusal new T ≡ T
  unfolding unless_refused
  kept n e z = rw (e, ne_eqb n 0 z)

  pub renewed : refusal ≡ 0 → unless_refused refusal new T ≡ new
  unfolding unless_refused
  renewed e = rw e

  -- a call that is refused changes nothing
  pub refused_changes : (n : ℕ) → refusal ≡ n → (n ≡ 0 → ⊥) → Changes refusal new T n None T.bytes T.elements
  refused_changes n e z = record { refusal_is = sym e; within = tt; table_is = sym (kept n e z) }

  pub done_changes : (at : ℕ) (x : Slot) (t es : List ℕ) → refusal ≡ 0 → at < length T.slots
      → lent t (applied T.slots (Some (records_at at x))) es ≡ new → Changes refusal new T 0 (Some (records_at at x)) t es
  done_changes at x t es e h l = record { refusal_is = sym e; within = h; table_is = l ∙ sym (renewed e) }
