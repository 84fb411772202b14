-- `round_two::verdict` meets its contract: it is the test of one sum, then of the other. Assumes nothing.
use borrow.Author.Tests.{ne_eqb}
use Rattle.rules.specs.Messages.{both_zero}
use Rattle.round_two.proofs.verdict.Goals as goal

pub returns-then-element_sum-eq0 : goal.returns-then-element_sum-eq0
unfolding both_zero
returns-then-element_sum-eq0 c =
    rw (← c.element_sum.ensures, ← c.element_sum-then-element_sum-eq0.ensures, c.if-element_sum-eq0.true)

pub returns-else-element_sum-eq0 : goal.returns-else-element_sum-eq0
unfolding both_zero
returns-else-element_sum-eq0 c = rw (← c.element_sum.ensures, ne_eqb c.element_sum.result 0 c.if-element_sum-eq0.false)
