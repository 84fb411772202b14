-- `line::point_at` meets its contract: a column is one of two numbers or another. Assumes nothing.
use mathlib.Core.Path.{◌≡◌, refl}
use Prim.Native.Nat.{ℕ}
use Rattle.std.specs.Prelude.{None}
use Rattle.rules.specs.Line.{is_point}
use Rattle.columns.specs.Kinds.{from_code}
use Rattle.columns.specs.declared.Column.{Column}
use Rattle.columns.specs.declared.Column.TheVariants as column
use Rattle.line.specs.Calls.{point_at}
use Rattle.line.proofs.point_at.Goals as goal

other : (c : Column) (first : ℕ) → ((bits : ℕ) → c ≡ column.Point bits → ⊥) → None ≡ point_at (from_code c) first
unfolding point_at is_point
other column.YesNo first h = refl
other (column.Choice k) first h = refl
other (column.Number bits) first h = refl
other (column.Top v) first h = refl
other (column.Point bits) first h = absurd (h bits refl)

pub returns-in-Point : goal.returns-in-Point
unfolding point_at is_point
returns-in-Point c = rw c.in-Point.is refl

pub returns-in_default : goal.returns-in_default
returns-in_default c = other _ _ c.in_default.not-Point
