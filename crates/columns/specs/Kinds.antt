-- One column by its kind: its bytes, and what it is in code.
-- Assumes nothing.
use Rattle.std.proofs.Math.Option.{Option, some, none}
use Rattle.std.specs.Prelude.{ℕ, suc}
use Rattle.records.specs.Outcome.{Outcome, ok, refused}
use Rattle.rules.specs.Columns.{Column, yes_no, choice, number, top, point, column_body}
use Rattle.columns.specs.declared.Column as code
use Rattle.columns.specs.declared.Column.TheVariants as kind
use Rattle.columns.specs.declared.Kind.{Kind}
use Rattle.columns.specs.declared.Kind.TheVariants as byte

-- ---- the byte of a kind
abbrev pub code_of : Kind → ℕ
code_of byte.YesNo = 17
code_of byte.Choice = 18
code_of byte.Number = 19
code_of byte.Top = 20
code_of byte.Point = 21

-- ---- how many bytes it has, the kind byte too; 0 for an unknown kind
abbrev pub with_kind : Option ℕ → ℕ
with_kind (some n) = suc n
with_kind none = 0

unfoldable pub bytes_of_kind : ℕ → ℕ
bytes_of_kind k = with_kind (column_body k)

-- ---- a column in code, and back
abbrev pub to_code : Column → code.Column
to_code yes_no = kind.YesNo
to_code (choice n) = kind.Choice n
to_code (number n) = kind.Number n
to_code (top n) = kind.Top n
to_code (point n) = kind.Point n

abbrev pub from_code : code.Column → Column
from_code kind.YesNo = yes_no
from_code (kind.Choice n) = choice n
from_code (kind.Number n) = number n
from_code (kind.Top n) = top n
from_code (kind.Point n) = point n

-- what a record says: the column, or the refusal
abbrev pub judged_of : Outcome Column → Outcome code.Column
judged_of (ok c) = ok (to_code c)
judged_of (refused n) = refused n
