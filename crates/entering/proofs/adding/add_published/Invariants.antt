-- `entering::adding::add_published` meets its contract. The loop's invariant: the totals before the cursor are added (`Added`);
-- the measure is what is left of the sheet. Assumes nothing.
use Prim.Native.Nat.{◌-◌}
use Rattle.entering.specs.Totals.{Adds}
use Rattle.entering.proofs.AddedColumns.{Added}
use Rattle.entering.proofs.adding.add_published.Given as goal

abbrev pub invariant-loop-c : goal.invariant-loop-c
invariant-loop-c l = Adds l.initial.t l.k l.xs × Added l.initial.t l.k l.xs l.t l.c

abbrev pub decreases-loop-c : goal.decreases-loop-c
decreases-loop-c l = l.k.sheet - l.c.at
