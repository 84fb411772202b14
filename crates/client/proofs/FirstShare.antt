-- The elements of server 0's share, by their places. Assumes nothing.
use mathlib.Core.List.{List}
use Prim.Native.Nat.{ℕ}
use lib.ListN.{length, get_or}
use Rattle.client.specs.Pieces.{rest_of}

abbrev pub rest_at : List ℕ → ℕ → List ℕ → ℕ → ℕ
rest_at random others w e = rest_of random others (length w) e (get_or w e 0)
