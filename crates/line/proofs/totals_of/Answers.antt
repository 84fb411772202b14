-- `line::totals_of` meets its contract: the four totals stand among those that can be summed. Assumes nothing.
use native.Mathlib.Omega.{arith}
use Rattle.line.proofs.totals_of.Goals as goal

pub total-requires : goal.total-requires
total-requires c = let p = c.requires in p.summable _ (omega (arith, p.four))

pub total-requires-2 : goal.total-requires-2
total-requires-2 c = let p = c.requires in p.summable _ (omega (arith, p.four))

pub total-requires-3 : goal.total-requires-3
total-requires-3 c = let p = c.requires in p.summable _ (omega (arith, p.four))

pub total-requires-4 : goal.total-requires-4
total-requires-4 c = let p = c.requires in p.summable _ (omega (arith, p.four))

pub returns : goal.returns
returns c =
    rw (
      c.from.ensures,
      c.accepted_count.ensures,
      c.total.ensures,
      c.total-2.ensures,
      c.total-3.ensures,
      c.total-4.ensures,
    )
