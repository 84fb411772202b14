-- `columns::none`: no columns have no counts. Assumes nothing.
use Rattle.rules.specs.Columns.{entries_in, published_in, largest_in}
use Rattle.rules.specs.Circuit.{constants_in, gates_in, products_in, tests_in}
use Rattle.columns.proofs.none.Goals as goal

pub returns : goal.returns
unfolding entries_in published_in constants_in gates_in products_in tests_in largest_in
returns c =
    let e = c.default.ensures in
    λ i. record {
      columns = e.0 i;
      entries = e.1.0 i;
      published = e.1.1.0 i;
      constants = e.1.1.1.0 i;
      gates = e.1.1.1.1.0 i;
      products = e.1.1.1.1.1.0 i;
      tests = e.1.1.1.1.1.1.0 i;
      largest = e.1.1.1.1.1.1.1 i;
    }
