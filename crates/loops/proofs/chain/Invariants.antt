-- `loops::chain`: its loop runs through the products of the rule that is s everywhere.
use Rattle.loops.proofs.Running.{Running}
use Rattle.loops.proofs.chain.Given as goal

abbrev pub invariant-loop-place : goal.invariant-loop-place
invariant-loop-place l = Running (λ i. l.s) l.initial.out l.out l.acc l.place-index
