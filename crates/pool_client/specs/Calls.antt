-- The C functions of a client. Each promise is an equality with rules' definitions at document 01's setting. Assumes nothing.
use Rattle.std.specs.Prelude.{List, ℕ, ◌*◌, length}
use Rattle.records.specs.Answers.{Writes}
use Rattle.rules.specs.Settings.{document01}
use Rattle.rules.specs.Columns.{columns_of}
use Rattle.rules.specs.Making.{share_length, make_refusal, make_bytes}
use Rattle.rules.specs.Seeds.{seeded_length, make_seeded_refusal, make_seeded_bytes}

-- pool_make
abbrev pub Makes : List ℕ → ℕ → ℕ → List ℕ → List ℕ → List ℕ → ℕ → ℕ → List ℕ → ℕ → Type 0
Makes sheet servers id values random out =
    Writes (make_refusal document01 sheet servers values random (length out))
    (make_bytes document01 sheet servers id values random)
    (servers * share_length document01 (columns_of sheet)) out

-- pool_make_seeded
abbrev pub MakesSeeded : List ℕ → ℕ → ℕ → List ℕ → List ℕ → List ℕ → List ℕ → ℕ → ℕ → List ℕ → ℕ → Type 0
MakesSeeded sheet servers id values random seeds out =
    Writes (make_seeded_refusal document01 sheet servers values random seeds (length out))
    (make_seeded_bytes document01 sheet servers id values random seeds)
    (seeded_length document01 (columns_of sheet) servers) out
