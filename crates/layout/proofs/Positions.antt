-- The places by plain numbers are rules' places at document 01's setting: both sides unfold to the same sums.
-- Assumes nothing.
use mathlib.Core.Path.{◌≡◌, refl}
use mathlib.Core.List.{List}
use Prim.Native.Nat.{ℕ}
use Rattle.rules.specs.Settings.{document01}
use Rattle.rules.specs.Columns.{Column, entries_in, published_in}
use Rattle.rules.specs.Judging.{share_size}
use Rattle.rules.specs.Circuit.{gates_in}
use Rattle.rules.specs.WaitingList.{place_size}
use Rattle.rules.specs.Table.{totals_place, ids_place, table_length}
use Rattle.layout.specs.Places.{totals_at, ids_at, length_at, place_size_of}

module _ (n : ℕ) (cs : List Column) (returns : ℕ) where
  pub totals_place_lem : totals_place document01 n cs returns ≡ totals_at n
  unfolding totals_place
  totals_place_lem = refl

  pub ids_place_lem : ids_place document01 n cs returns ≡ ids_at n (published_in cs)
  unfolding ids_place
  ids_place_lem = refl

  pub table_length_lem : table_length document01 n cs returns ≡ length_at n (published_in cs) returns
  unfolding table_length
  table_length_lem = refl

pub place_size_lem : (cs : List Column) → place_size cs ≡ place_size_of (entries_in cs) (gates_in cs)
unfolding share_size
place_size_lem cs = refl
