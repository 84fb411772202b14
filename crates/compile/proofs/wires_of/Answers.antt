-- `compile::wires_of` meets its contract: a column's wires are those of its steps of kinds 1 to 5. Assumes nothing.
use mathlib.Core.Path.{◌≡◌, ap, ◌∙◌}
use mathlib.Core.List.{[], ◌∷◌}
use native.Mathlib.Omega.{arith}
use Rattle.rules.specs.Columns.{Column}
use Rattle.rules.specs.Circuit.{wires_of}
use Rattle.rules.proofs.Tables.RoomTold.{column_wires}
use Rattle.columns.specs.Counting.{counts_of}
use Rattle.columns.specs.Kinds.{from_code}
use Rattle.columns.proofs.Sums.{constants, entries, adds, scales, gates, total_one}
use Rattle.columns.proofs.Taken.{column_small, small_more}
use Rattle.sizes.specs.Room.{wires_made}
use Rattle.sizes.proofs.Room.{adds_made_lem, scales_made_lem}
use Rattle.compile.proofs.wires_of.Goals as goal

wires_one : (k : Column) → wires_made (counts_of (k ∷ [])) ≡ wires_of k
unfolding wires_made
wires_one k =
    omega (
      arith,
      total_one constants k,
      adds_made_lem (k ∷ []),
      scales_made_lem (k ∷ []),
      total_one entries k,
      total_one adds k,
      total_one scales k,
      total_one gates k,
      column_wires k,
    )

pub columns_wires-requires : goal.columns_wires-requires
columns_wires-requires c =
    let small = column_small (from_code c.args.column) c.requires in
    rw c.counts_of.ensures (small_more (omega arith) small)

pub returns : goal.returns
returns c =
    c.columns_wires.ensures
    ∙ ap wires_made c.counts_of.ensures
    ∙ wires_one (from_code c.args.column)
