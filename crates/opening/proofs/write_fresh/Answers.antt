-- `opening::write_fresh` meets its contract: header, sheet and zeros are put one behind the other (`fresh_written`).
-- Assumes nothing.
use Rattle.opening.proofs.FreshTable.{fresh_written}
use Rattle.opening.proofs.write_fresh.Goals as goal

pub returns : goal.returns
returns c =
    let g = c.args in
    cc (
      fresh_written g.servers g.own g.sheet.now g.returns g.least g.size g.table.now c.requires,
      c.clear.ensures,
      c.copy.ensures,
      c.write_start.ensures,
    )
