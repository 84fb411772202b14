-- `sheet::read` meets its contract. The loop's invariant: some columns are read, reading goes on from `at` behind them,
-- and the counts are theirs or both are past the limit; each way out is one law of reading. Assumes nothing.
use mathlib.Core.Path.{◌≡◌}
use mathlib.Core.List.{List}
use Prim.Native.Nat.{◌≤◌, ◌-◌}
use lib.ListN.{length, drop}
use Rattle.records.specs.Records.{read_from, read}
use Rattle.rules.specs.Columns.{Column, column_format}
use Rattle.columns.specs.Counting.{Small}
use Rattle.sheet.proofs.Reader.{Tracks}
use Rattle.sheet.proofs.read.Given as goal

abbrev pub invariant-loop-at : goal.invariant-loop-at
invariant-loop-at l =
    (l.at ≤ length l.s) × Small 320 l.counts
    × ((done : List Column) × Tracks l.counts done × (read column_format l.s ≡ read_from column_format (drop l.at l.s) 0 done))

abbrev pub decreases-loop-at : goal.decreases-loop-at
decreases-loop-at l = length l.s - l.at
