-- `sheet::cursor::start` meets its contract: no columns come to nothing. Assumes nothing.
use mathlib.Core.Path.{refl}
use Rattle.rules.specs.Columns.{entries_in, published_in}
use Rattle.rules.specs.Circuit.{gates_in}
use Rattle.sheet.specs.Cursor.{bytes_in}
use Rattle.sheet.proofs.cursor.start.Goals as goal

pub returns : goal.returns
unfolding bytes_in entries_in published_in gates_in
returns c = refl
