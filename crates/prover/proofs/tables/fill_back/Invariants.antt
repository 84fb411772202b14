-- `prover::tables::fill_back` meets its contract: its loop fills the buffer with the inverses in the other order. Assumes nothing.
use Prim.Native.Nat.{◌-◌}
use lib.ListN.{length}
use Rattle.field.specs.Residues.{residues}
use Rattle.walk.proofs.Filling.{Filling}
use Rattle.prover.proofs.tables.fill_back.Given as goal

abbrev pub invariant-loop-i : goal.invariant-loop-i
invariant-loop-i l = Filling (λ i. residues.inv (length l.initial.out - i)) l.initial.out l.out l.i
