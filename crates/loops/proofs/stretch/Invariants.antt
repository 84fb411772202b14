-- `loops::stretch`: its loop goes on with the powers from the first k.
use Rattle.loops.proofs.Stretches.{Stretched}
use Rattle.loops.proofs.stretch.Given as goal

abbrev pub invariant-loop-i : goal.invariant-loop-i
invariant-loop-i l = Stretched l.s l.k l.by l.initial.out l.out l.i
