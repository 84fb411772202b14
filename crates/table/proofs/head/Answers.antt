-- `table::head` meets its contract: where the start is sound, the answer of the sheet's reader decides (`head_refused`,
-- `head_counted`). Assumes nothing.
use mathlib.Core.Path.{sym, ◌∙◌}
use Rattle.table.proofs.Header.{head_not_started, head_refused, head_counted}
use Rattle.table.proofs.head.Goals as goal

pub returns-then-not-start_sound : goal.returns-then-not-start_sound
returns-then-not-start_sound c = head_not_started c.args.t.now (sym c.start_sound.ensures.sound ∙ c.if-not-start_sound.true)

pub returns-in_default : goal.returns-in_default
returns-in_default c =
    head_refused _ c.read_u16-n.result c.read_u16-n.ensures _ c.sheet_part.ensures
    (sym c.start_sound.ensures.sound ∙ c.if-not-start_sound.false) _ (sym c.in_default.ensures)

pub returns : goal.returns
returns c =
    rw (
      c.from.ensures,
      c.from-2.ensures,
      c.read_u16.ensures,
      c.read_u16-2.ensures,
      c.read_u16-3.ensures,
      c.read_u16-4.ensures,
      c.read_u16-n.ensures,
    )
    (head_counted _ c.read_u16-n.result c.read_u16-n.ensures _ c.sheet_part.ensures
    (sym c.start_sound.ensures.sound ∙ c.if-not-start_sound.false) _ (sym c.in-Ok.ensures))
