-- `prover::fill_products` meets its contract: its loop fills the buffer by the rule of its products, each from the value that stands
-- there (`unfilled`). Assumes nothing.
use lib.ListN.{length}
use Rattle.walk.specs.Walks.{members}
use Rattle.walk.proofs.Filling.{Filling}
use Rattle.prover.specs.Curves.{product_of}
use Rattle.prover.proofs.fill_products.Given as goal

abbrev pub invariant-loop-j : goal.invariant-loop-j
invariant-loop-j l = Filling (λ j. product_of (length l.tables.falls.now) (members l.initial.out j) l.d j) l.initial.out l.out l.j
