-- `prover::tables::Tables::scaled_shift` meets its contract: a difference times a weight. Assumes nothing.
use mathlib.Core.Path.{ap₂, ◌∙◌}
use native.Mathlib.Nat.{mod-lt}
use native.Mathlib.Omega.{arith}
use lib.Dec.{lit<}
use Rattle.field.specs.Residues.{residues}
use Rattle.prover.proofs.Weighted.{weights_long, weight_at, weight_low}
use Rattle.prover.proofs.tables.Tables.scaled_shift.Goals as goal

pub bounds-self-0 : goal.bounds-self-0
bounds-self-0 c = omega (arith, weights_long c.args.self.weighted)

pub mul-requires : goal.mul-requires
mul-requires c = (rw c.sub.ensures (mod-lt _ (lit< tt)), weight_low c.args.self.weighted 0)

pub returns : goal.returns
returns c = c.mul.ensures ∙ ap₂ residues.◌⊗◌ c.sub.ensures (weight_at c.args.self.weighted 0 (omega arith))
