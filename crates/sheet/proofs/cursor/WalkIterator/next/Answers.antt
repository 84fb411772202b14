-- The walk's next column: the cursor stands before a column, or behind the last. Assumes nothing.
use mathlib.Core.Path.{refl}
use Rattle.sheet.proofs.Walks.{stands_by_place, walk_end, walk_next}
use Rattle.sheet.proofs.cursor.WalkIterator.next.Goals as goal

pub returns-then-self-before-clause-steps : goal.returns-then-self-before-clause-steps
returns-then-self-before-clause-steps c =
    let w = c.args.self.now in (refl, (walk_end _ _ w.is_read w.walks c.if-self-before.true, refl))

pub next-step-requires : goal.next-step-requires
next-step-requires c = let w = c.args.self.now in stands_by_place _ _ w.is_read w.walks c.if-self-before.false

pub invariant_of-self : goal.invariant_of-self
invariant_of-self c =
    let w = c.args.self.now in
    record {
      is_read = w.is_read;
      walks = walk_next (stands_by_place _ _ w.is_read w.walks c.if-self-before.false) _ c.next-step.ensures;
    }
