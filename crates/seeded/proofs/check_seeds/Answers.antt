-- `seeded::check_seeds` meets its contract: each test that led to a return is put into the definition. Assumes nothing.
use mathlib.Core.Path.{sym, ◌∙◌}
use mathlib.Core.Bool.{true, false}
use borrow.Author.Tests.{eq-eqb, ne_eqb}
use Rattle.seeded.proofs.Refusals.{wrong_random, wrong_seeds, by_elements}
use Rattle.seeded.proofs.check_seeds.Goals as goal
use Rattle.seeded.proofs.check_seeds.Goals.{then-random-ne16-via-then-random-ne16 as not_four}
use Rattle.seeded.proofs.check_seeds.Goals.{then-random-ne16-via-else-random-ne16+then-seeds-others as not_many}
use Rattle.seeded.proofs.check_seeds.Goals.{then-random-ne16-via-else-random-ne16+else-seeds-others+then-not-below as not_below}

pub returns-then-random-ne16 : goal.returns-then-random-ne16
returns-then-random-ne16 c =
    elim c.then-random-ne16.branch [
      | not_four w ↦ wrong_random _ _ _ (ne_eqb _ _ w.if-random-ne16.true)
      | not_many w ↦ wrong_seeds _ _ _ (eq-eqb _ _ w.if-random-ne16.false) (ne_eqb _ _ w.if-seeds-others.true)
      | not_below w ↦
          by_elements _ _ _ false (eq-eqb _ _ w.if-random-ne16.false) (eq-eqb _ _ w.if-seeds-others.false)
          (sym w.below.ensures ∙ w.if-not-below.true)
    ]

pub returns : goal.returns
returns c =
    by_elements _ _ _ true (eq-eqb _ _ c.if-random-ne16.false) (eq-eqb _ _ c.if-seeds-others.false)
    (sym c.below.ensures ∙ c.if-not-below.false)
