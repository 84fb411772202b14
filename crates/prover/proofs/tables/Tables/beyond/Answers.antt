-- `prover::tables::Tables::beyond` meets its contract: the part of the table is the stretch of the inverses. Assumes nothing.
use mathlib.Core.Path.{refl, sym, ap₂, ◌∙◌}
use native.Mathlib.Omega.{arith}
use Rattle.field.specs.Residues.{residues}
use Rattle.field.proofs.Below.{sum_below}
use Rattle.prover.proofs.Backwards.{back_long, fall_at_lem, fall_low, stretch_long, stretch_elements, inner_stretch}
use Rattle.prover.proofs.tables.Tables.beyond.Goals as goal

pub slice_bounds-inner_wide-end : goal.slice_bounds-inner_wide-end
slice_bounds-inner_wide-end c =
    omega (arith, back_long c.args.self.ready)

pub inner_wide-requires : goal.inner_wide-requires
inner_wide-requires c =
    let l = stretch_long c.args.self.ready c.args.i c.requires.1 in (
      c.requires.0 ∙ sym l,
      omega (arith, c.args.self.ready.few, c.requires.0),
      c.requires.2,
      stretch_elements c.args.self.ready c.args.i,
    )

pub mul-requires : goal.mul-requires
mul-requires c =
    (rw c.inner_wide.ensures (sum_below _ _), fall_low c.args.self.ready _ c.requires.1)

pub returns : goal.returns
returns c =
    c.mul.ensures
    ∙ ap₂ residues.◌⊗◌
    (c.inner_wide.ensures
    ∙ inner_stretch c.args.self.ready c.args.scaled.now _ c.args.i c.requires.0 c.requires.1 refl)
    (fall_at_lem c.args.self.ready _ c.requires.1)
