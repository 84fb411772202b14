-- `dot::inner_wide`. The invariants: low and high are the sums of the parts of the products so far. In the first loop a turn is
-- below 2 ^ 64, being four products of elements; the second goes on from the first four quarters.
use Rattle.std.proofs.Common.{get_or}
use Rattle.dot.proofs.Parts.{Parts}
use Rattle.dot.proofs.Fours.{Quarters}
use Rattle.dot.proofs.inner_wide.Given as goal

abbrev pub invariant-quarters : goal.invariant-quarters
invariant-quarters l = Quarters (λ i. get_or l.a i 0) (λ i. get_or l.b i 0) l.q l.low l.high l.i

abbrev pub invariant-rest : goal.invariant-rest
invariant-rest l = Parts (λ i. get_or l.a i 0) (λ i. get_or l.b i 0) l.low l.high l.i
