-- `table::totals_sound` meets its contract: the part that is tested is that of the totals (`totals_cut`).
-- Assumes nothing.
use mathlib.Core.Path.{◌∙◌}
use Rattle.table.proofs.Judged.{totals_cut}
use Rattle.table.proofs.totals_sound.Goals as goal

pub returns : goal.returns
returns c =
    c.below.ensures
    ∙ rw (c.ids_place-end.ensures, c.totals_place-start.ensures)
    (totals_cut c.args.k c.args.t.now)
