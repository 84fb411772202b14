-- The C functions of whoever stores messages. Each promise is an equality with rules' definitions at document 01's setting:
-- the answer, every byte of the buffer and the number behind the pointer.
-- Assumes nothing.
use Rattle.std.specs.Prelude.{List, ℕ, ◌*◌, length}
use Rattle.records.specs.Answers.{Writes}
use Rattle.rules.specs.Settings.{document01}
use Rattle.rules.specs.Shelf.{shelved, unshelved, shelf_refusal}

-- pool_shelve
abbrev pub Shelves : ℕ → ℕ → List ℕ → List ℕ → ℕ → ℕ → List ℕ → ℕ → Type 0
Shelves messages width run out =
    Writes (shelf_refusal document01 messages width (length run) (length out)) (shelved messages width run) (messages * width) out

-- pool_unshelve
abbrev pub Unshelves : ℕ → ℕ → List ℕ → List ℕ → ℕ → ℕ → List ℕ → ℕ → Type 0
Unshelves messages width run out =
    Writes (shelf_refusal document01 messages width (length run) (length out)) (unshelved messages width run)
    (messages * width) out
