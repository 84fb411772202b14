-- A table of body lengths keeps its rule where it passes one test over its six entries, which is computed for the table of
-- the code. Assumes nothing.
use mathlib.Core.Path.{◌≡◌}
use mathlib.Core.Bool.{Bool, true}
use mathlib.Core.List.{List}
use Prim.Native.Nat.{ℕ, ◌-◌}
use native.Mathlib.Omega.{arith}
use borrow.Author.Tests.{eqb-true}
use lib.Dec.{eqb}
use lib.ListN.{get_or}
use Rattle.algebra.specs.Lists.{every, count_from}
use Rattle.algebra.proofs.Members.{all_in, every_all, count_in_lem}
use Rattle.rules.specs.Settings.{document01}
use Rattle.rules.specs.CircuitReader.{body_lengths}
use Rattle.circuit.specs.Reading.{BodyTable}

abbrev pub right : List ℕ → ℕ → Bool
right t k = eqb (get_or t (k - 1) 0) (get_or (body_lengths document01) (k - 1) 0)

-- a table that passes the test at kinds 1 to 6 keeps the rule
pub tested : (t : List ℕ) → every (right t) (count_from 1 6) ≡ true → BodyTable t
tested t h =
    record {
      rule =
          λ k lo hi.
          eqb-true _ _ (all_in k (count_from 1 6) (every_all (right t) (count_from 1 6) h) (count_in_lem 1 6 k lo (omega arith)));
    }
