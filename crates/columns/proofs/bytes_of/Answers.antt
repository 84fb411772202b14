-- `columns::bytes_of` meets its contract: a byte that is a kind has that kind's bytes, and any other has none. Assumes nothing.
use mathlib.Core.Path.{sym, ap, ◌∙◌}
use Rattle.columns.specs.Kinds.{with_kind, bytes_of_kind}
use Rattle.columns.proofs.bytes_of.Goals as goal

pub returns-in-Some : goal.returns-in-Some
returns-in-Some c = c.bytes.ensures ∙ ap bytes_of_kind (rw c.in-Some.is at c.of.ensures)

pub returns-in-None : goal.returns-in-None
unfolding bytes_of_kind
returns-in-None c = sym (ap with_kind (rw c.in-None.is at c.of.ensures))
