-- `circuit::read` meets its contract: the entries and the bytes are tested first; the table of body lengths keeps
-- its rule, by the test of its six entries (`tested`). Assumes nothing.
use mathlib.Core.Path.{refl}
use native.Mathlib.Omega.{arith}
use borrow.Author.Rules.{rules}
use Rattle.std.proofs.lemmas.Grind.{common_steps}
use Rattle.algebra.specs.Lists.{every, count_from}
use Rattle.rules.specs.CircuitReader.{read_circuit}
use Rattle.circuit.specs.Reading.{reading_in, reading_of}
use Rattle.circuit.proofs.BodyTable.{tested}
use Rattle.circuit.proofs.read.Goals as goal

pub returns-then-not-contains : goal.returns-then-not-contains
unfolding reading_of reading_in read_circuit
returns-then-not-contains c = grind (arith, common_steps)

pub steps-requires : goal.steps-requires
unfolding every count_from
steps-requires c = (tested _ refl, search rules)

pub returns : goal.returns
unfolding reading_of read_circuit
returns c = grind (arith, common_steps)
