-- The stream of a state, element by element: element i is that of word i % 16 of block i / 16.
-- Assumes nothing.
use Rattle.std.specs.Prelude.{List, ℕ, ◌/◌, ◌%◌, get_or, set}
use Rattle.chacha.specs.ChaCha.{mixed}
use Rattle.rules.specs.Settings.{document01}
use Rattle.rules.specs.Seeds.{element_of}

unfoldable pub streamed : List ℕ → ℕ → ℕ
streamed s i = element_of document01 (get_or (mixed (set s 12 (i / 16))) (i % 16) 0)
