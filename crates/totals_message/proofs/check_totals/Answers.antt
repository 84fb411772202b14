-- `totals_message::check_totals` meets its contract. Each test that led to a return is put into the definition, which then
-- computes. Assumes nothing.
use mathlib.Core.Path.{sym, ◌∙◌}
use borrow.Author.Tests.{eq-eqb, ne_eqb, le-leb, lt-leb}
use Rattle.totals_message.specs.Totals.{joined_fault_at}
use Rattle.totals_message.proofs.check_totals.Goals as goal

pub returns-then-joined-published : goal.returns-then-joined-published
unfolding joined_fault_at
returns-then-joined-published c = rw (ne_eqb _ _ c.if-joined-published.true)

pub returns-then-not-all_totals_sound : goal.returns-then-not-all_totals_sound
unfolding joined_fault_at
returns-then-not-all_totals_sound c =
    rw (
      eq-eqb _ _ c.if-joined-published.false,
      rw c.accepted_count-accepted.ensures at (sym c.all_totals_sound.ensures ∙ c.if-not-all_totals_sound.true),
    )

pub returns-then-returns-accepted : goal.returns-then-returns-accepted
unfolding joined_fault_at
returns-then-returns-accepted c =
    rw (
      eq-eqb _ _ c.if-joined-published.false,
      rw c.accepted_count-accepted.ensures at (sym c.all_totals_sound.ensures ∙ c.if-not-all_totals_sound.false),
      lt-leb _ _ (rw c.accepted_count-accepted.ensures at c.if-returns-accepted.true),
    )

pub returns : goal.returns
unfolding joined_fault_at
returns c =
    rw (
      eq-eqb _ _ c.if-joined-published.false,
      rw c.accepted_count-accepted.ensures at (sym c.all_totals_sound.ensures ∙ c.if-not-all_totals_sound.false),
      le-leb _ _ (rw c.accepted_count-accepted.ensures at c.if-returns-accepted.false),
    )
