-- One column by its kind: how many bytes it has, and its form in code. By the cases of the kind, of which the definitions know.
-- Assumes nothing.
use mathlib.Core.Path.{◌≡◌, refl, ap}
use mathlib.Core.List.{List}
use mathlib.Core.Option.{Option, some, none}
use Prim.Native.Nat.{ℕ, suc, ◌+◌, ◌-◌, ◌≤◌}
use native.Mathlib.Omega.{arith}
use borrow.Author.Tests.{eq-eqb}
use Rattle.records.specs.Outcome.{ok}
use Rattle.rules.specs.Columns.{Column, yes_no, choice, number, top, point, column_body, column_of}
use Rattle.columns.specs.declared.Kind.{Kind}
use Rattle.columns.specs.declared.Kind.TheVariants as byte
use Rattle.columns.specs.Kinds.{code_of, with_kind, bytes_of_kind, to_code, from_code}

-- ---- a kind and its bytes
some_of : (o : Option ℕ) → (with_kind o ≡ 0 → ⊥) → o ≡ some (with_kind o - 1)
some_of none h = absurd (h refl)
some_of (some n) h = let e : n ≡ suc n - 1 = omega arith in ap some e

module _ (k : ℕ) where
  pub kind_known : (bytes_of_kind k ≡ 0 → ⊥) → column_body k ≡ some (bytes_of_kind k - 1)
  unfolding bytes_of_kind
  kind_known = some_of (column_body k)

  pub kind_size : (n : ℕ) → column_body k ≡ some n → bytes_of_kind k ≡ suc n
  unfolding bytes_of_kind
  kind_size n e = ap with_kind e

-- a top has four bytes behind its kind byte
pub body_four : (n : ℕ) → bytes_of_kind 20 ≡ n + 1 → n ≡ 4
unfolding bytes_of_kind column_body
body_four n long = omega arith

-- a kind of the code has some bytes
pub kind_some : (k : Kind) → 1 ≤ bytes_of_kind (code_of k)
unfolding bytes_of_kind column_body
kind_some byte.YesNo = omega arith
kind_some byte.Choice = omega arith
kind_some byte.Number = omega arith
kind_some byte.Top = omega arith
kind_some byte.Point = omega arith

-- a yes/no has no body, and is taken
pub yes_no_body : (k : ℕ) → k ≡ 17 → column_body k ≡ some 0
unfolding column_body
yes_no_body k e = rw (eq-eqb k 17 e)

pub yes_no_taken : (k : ℕ) (b : List ℕ) → k ≡ 17 → column_of k b ≡ ok yes_no
unfolding column_of
yes_no_taken k b e = rw (eq-eqb k 17 e)

-- ---- a column in code
pub from_to_code : (c : Column) → from_code (to_code c) ≡ c
from_to_code yes_no = refl
from_to_code (choice n) = refl
from_to_code (number n) = refl
from_to_code (top n) = refl
from_to_code (point n) = refl
