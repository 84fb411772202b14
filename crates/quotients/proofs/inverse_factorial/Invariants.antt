-- `quotients::inverse_factorial`: acc is 1 over the factorial of the number of inverses so far.
use Rattle.std.proofs.Common.{◌≡◌, ◌+◌, ◌*◌, ◌/◌}
use Rattle.quotients.specs.Factorials.{inverse_factorial}
use Rattle.quotients.proofs.inverse_factorial.Given as goal

abbrev pub invariant-loop-a : goal.invariant-loop-a
invariant-loop-a l = l.acc ≡ inverse_factorial (l.a-index * 4)

abbrev pub invariant-loop-inverse : goal.invariant-loop-inverse
invariant-loop-inverse l = l.acc ≡ inverse_factorial (l.n / 4 * 4 + l.inverse-index)
