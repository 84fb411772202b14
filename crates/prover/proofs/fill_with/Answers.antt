-- `prover::fill_with` meets its contract: f by its values, then the products with g, which is f, corrected. Assumes nothing.
use mathlib.Core.Path.{refl}
use Prim.Native.Nat.{◌≤◌}
use native.Mathlib.Omega.{arith}
use Rattle.rules.specs.Columns.{columns_of}
use Rattle.rules.specs.Circuit.{gates_in}
use Rattle.prover.proofs.Inputs.{h_from}
use Rattle.prover.proofs.fill_with.Goals as goal

pub returns : goal.returns
returns c =
    let f = c.curve_f-products in
    let most : gates_in (columns_of c.args.sheet.now) ≤ 256 = omega (arith, c.args.tables.ready.few, c.requires.degree.0) in
    h_from c.args.x.now (columns_of c.args.sheet.now) c.args.u c.args.v
    most c.requires.entries.1 c.requires.entries.2 c.requires.entries.0.elements
    c.fill_from.ensures c.requires.degree.0 c.requires.degree.1 refl f.ensures.0 c.sub-d.ensures
