-- A step of the walk over the columns of a sheet: the column under the cursor and the cursor behind it, or the end.
-- Assumes nothing.
use Rattle.std.specs.Prelude.{◌≡◌, List, ℕ, length, Option, MatchOption}
use Rattle.rules.specs.Columns.{columns_of}
use Rattle.sheet.specs.declared.cursor.Cursor.{Cursor}
use Rattle.sheet.specs.declared.cursor.Step.{Step}
use Rattle.sheet.specs.declared.cursor.Place.{Place}
use Rattle.sheet.specs.Cursor.{Stands, step_at}

-- the column p under cursor c of sheet s, and the cursor c' behind it
pub record Passes (s : List ℕ) (c : Cursor) (p : Place) (c' : Cursor) : Type 0 where
  pub stands : Stands s c
  pub before_is : p.before ≡ c
  pub after_is : p.after ≡ c'
  pub step_is : ◌≡◌ {A = Step} (record { column = p.column; next = c' }) (step_at s c.index)

-- from cursor c of sheet s: the column there, or behind the last column nothing
abbrev pub Goes : List ℕ → Cursor → Option Place → List ℕ → Cursor → Type 0
Goes s c r s' c' = (s' ≡ s) × MatchOption r ((c.index ≡ length (columns_of s)) × (c' ≡ c)) (λ p. Passes s c p c')
