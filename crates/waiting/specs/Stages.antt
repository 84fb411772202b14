-- The stages of a record by their numbers, and the place of a record that may be none, as rules count it: 8 where there is none.
-- Assumes nothing.
use Rattle.std.specs.Prelude.{ℕ}
use Rattle.std.specs.Prelude.{Option, None, Some}
use Rattle.rules.specs.Server.{most_waiting}
use Rattle.rules.specs.WaitingList.{stage_free, stage_one, stage_two, stage_entry}
use Rattle.waiting.specs.declared.Stage.{Stage}
use Rattle.waiting.specs.declared.Stage.TheVariants as stage

abbrev pub stage_number : Stage → ℕ
stage_number stage.Free = stage_free
stage_number stage.AwaitsOne = stage_one
stage_number stage.AwaitsTwo = stage_two
stage_number stage.AwaitsEntry = stage_entry

abbrev pub place_in : Option ℕ → ℕ
place_in None = most_waiting
place_in (Some i) = i
