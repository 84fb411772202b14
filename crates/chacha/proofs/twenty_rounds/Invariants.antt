-- The loop of `chacha::twenty_rounds`: the counter's double rounds are done.
use Rattle.std.proofs.Common.{◌≡◌}
use Rattle.chacha.specs.ChaCha.{rounds}
use Rattle.chacha.proofs.twenty_rounds.Given as goal

abbrev pub invariant-loop : goal.invariant-loop
invariant-loop l = l.s ≡ rounds l.counter l.initial.s
