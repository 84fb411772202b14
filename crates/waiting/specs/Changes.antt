-- What a call does to the list of records, and what a call on a table leaves: the bytes and the numbers that it was lent, and
-- the list with its change.
-- Assumes nothing.
use Rattle.std.specs.Prelude.{◌≡◌, cond, List, ℕ, ◌<◌, eqb, length, IfSome}
use Rattle.std.specs.Prelude.{Option, None, Some, Result, Ok, Err}
use Rattle.slots.specs.declared.Slot.{Slot}
use Rattle.slots.specs.declared.Change.{Change}
use Rattle.slots.specs.Slots.{applied}
use Rattle.rules.specs.Table.{Lent}
use Rattle.waiting.specs.declared.writing.Sent.{Sent}

abbrev pub records_at : ℕ → Slot → Change
records_at at slot = record { at = at; slot = slot }

-- what a call that writes a message does to the list
module _ {E : Type 0} where
  abbrev pub change_of : Result Sent E → Option Change
  change_of (Ok x) = Some x.change
  change_of (Err e) = None

-- the three parts
abbrev pub lent : List ℕ → List Slot → List ℕ → Lent
lent t xs es = record { bytes = t; slots = xs; elements = es }

-- the new table, or where the call is refused the one that was there
unfoldable pub unless_refused : ℕ → Lent → Lent → Lent
unless_refused refusal new old = cond (eqb refusal 0) new old

-- a call on the table T, with its refusal and the table after it where it is not refused: r is the number that the call answers
-- and c what it does to the list, t and es are the bytes and the numbers that it leaves
pub record Changes (refusal : ℕ) (new T : Lent) (r : ℕ) (c : Option Change) (t es : List ℕ) : Type 0 where
  pub refusal_is : r ≡ refusal
  pub within : IfSome c (λ x. x.at < length T.slots)
  pub table_is : lent t (applied T.slots c) es ≡ unless_refused refusal new T
