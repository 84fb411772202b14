-- `every_return::write_column` meets its contract. The loop's invariant: the first k values of the column are put
-- (`column_put`), and the count says the next one (`Counted`). Assumes nothing.
use mathlib.Core.Path.{◌≡◌}
use Prim.Native.Nat.{◌/◌, ◌%◌}
use Rattle.every_return.specs.Listing.{column_put}
use Rattle.every_return.proofs.Counting.{Counted}
use Rattle.every_return.proofs.write_column.Given as goal

abbrev pub invariant-loop-k : goal.invariant-loop-k
invariant-loop-k l =
    (l.out ≡ column_put (λ n. n / l.behind % l.values) l.size l.place l.initial.out l.k)
    × Counted l.behind l.values l.k l.count
