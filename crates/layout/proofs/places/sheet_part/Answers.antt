-- `layout::places::sheet_part` meets its contract: a part from a place to n behind it is n long (`span`). Assumes nothing.
use Rattle.rules.specs.Table.{header_length}
use Rattle.steps.proofs.Parts.{span}
use Rattle.layout.proofs.places.sheet_part.Goals as goal

pub returns : goal.returns
returns c = let a = c.args in span header_length a.n a.t.now
