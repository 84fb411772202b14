-- `dot::inner`. The invariant: low and high are the sums of the parts of the products so far, which leave the inner
-- product so far; each part is bounded, so for 65536 products the sums fit.
use Rattle.std.proofs.Common.{get_or, length}
use Rattle.dot.proofs.Parts.{Parts}
use Rattle.dot.proofs.inner.Given as goal

abbrev pub invariant-loop-x : goal.invariant-loop-x
invariant-loop-x l = Parts (λ i. get_or l.a i 0) (λ i. get_or l.b i 0) l.low l.high (length l.yielded)
