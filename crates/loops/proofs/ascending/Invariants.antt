-- `loops::ascending`: its loop runs through the products of the rule x - i.
use Rattle.std.proofs.Common.{◌+◌}
use Rattle.algebra.specs.Ops.{minus}
use Rattle.field.specs.Residues.{residues}
use Rattle.loops.proofs.Running.{Running}
use Rattle.loops.proofs.ascending.Given as goal

abbrev pub invariant-loop-i : goal.invariant-loop-i
invariant-loop-i l = Running (λ i. minus residues l.x (residues.ι (0 + i))) l.initial.out l.out l.acc l.i
