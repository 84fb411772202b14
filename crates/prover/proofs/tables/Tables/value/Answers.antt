-- `prover::tables::Tables::value` meets its contract: at a point the given value, beyond them the one that follows. Assumes nothing.
use mathlib.Core.Path.{◌∙◌}
use native.Mathlib.Omega.{arith}
use Rattle.prover.proofs.CurveValues.{scaled_long, scaled_elements, value_given, value_follows}
use Rattle.prover.proofs.tables.Tables.value.Goals as goal

pub beyond-requires : goal.beyond-requires
beyond-requires c =
    let k = c.if-j-y.false in (
      scaled_long c.requires.0 c.args.self.ready.few,
      omega (arith, c.requires.0.size, c.requires.1),
      scaled_elements c.requires.0 c.args.self.ready.few,
    )

pub returns-then-j-y : goal.returns-then-j-y
returns-then-j-y c =
    value_given c.requires.0 c.args.self.ready.few c.args.j c.if-j-y.true

pub returns-else-j-y : goal.returns-else-j-y
returns-else-j-y c =
    c.beyond.ensures ∙ value_follows c.requires.0 c.args.self.ready.few c.args.j c.if-j-y.false c.requires.1
