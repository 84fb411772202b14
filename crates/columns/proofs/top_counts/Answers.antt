-- `columns::top_counts`: each count is that of the definition. Assumes nothing.
use mathlib.Core.Path.{refl}
use Prim.Native.Nat.{◌*◌}
use native.Mathlib.Numerals.{add-one}
use Rattle.rules.specs.Columns.{entries_of, published_of, largest_of}
use Rattle.rules.specs.Circuit.{constants_of, gates_of, products_at, products_of, tests_of}
use Rattle.columns.proofs.Taken.{counts_one}
use Rattle.columns.proofs.top_counts.Goals as goal

pub returns : goal.returns
unfolding entries_of published_of constants_of gates_of products_of products_at tests_of largest_of
returns c = rw (counts_one _, ← c.requires.1, add-one (2 * c.args.b)) refl
