-- `prover::scale` meets its contract: its loop fills the buffer by the rule of its products. Assumes nothing.
use Prim.Native.Nat.{◌-◌}
use lib.ListN.{length}
use Rattle.walk.proofs.Filling.{Filling}
use Rattle.prover.specs.Curves.{scaled_at}
use Rattle.prover.proofs.scale.Given as goal

abbrev pub invariant-loop-j : goal.invariant-loop-j
invariant-loop-j l = Filling (scaled_at (length l.initial.out - 1) l.y) l.initial.out l.out l.j
