-- Document 01, "Sheet and circuit", and document 02, "A column with a top of its own" and "Hours against diameter": the legal
-- values of a column and their encoding.
-- Assumes nothing.
use Rattle.std.specs.Prelude.{◌≡◌, Bool, true, false, cond, ◌&&◌, List, [], ◌∷◌, ◌++◌, ℕ, zero, suc, ◌-◌, ◌*◌, ◌/◌, ◌%◌, ◌^◌, ◌<◌, eqb, ltb, get_or}
use Rattle.algebra.specs.Lists.{tabulate}
use Rattle.algebra.specs.Ops.{Ops}
use Rattle.rules.specs.Columns.{Column, yes_no, choice, number, top, point, bit_length, entries_of, entries_in, values_of}

-- the b bits of v, then the b bits of w, lowest first
unfoldable pub two_numbers : ℕ → ℕ → ℕ → ℕ → ℕ
two_numbers b v w j = cond (ltb j b) (v / 2 ^ j % 2) (w / 2 ^ (j - b) % 2)

-- "entries x, x × x, y, x × y, then b bits of x and b bits of y"
unfoldable pub point_entry : ℕ → ℕ → ℕ → ℕ → ℕ
point_entry b x y zero = x
point_entry b x y (suc zero) = x * x
point_entry b x y (suc (suc zero)) = y
point_entry b x y (suc (suc (suc zero))) = x * y
point_entry b x y (suc (suc (suc (suc j)))) = two_numbers b x y j

-- entry i of the encoding of the value v: "One entry, 0 or 1. The chosen one is 1, the rest 0. Entry v, then b bit
-- entries, lowest first." "The entries are v, the b bits of v, and the b bits of T - v." "Its value is the number
-- x + 2^b × y."
unfoldable pub encoded : Column → ℕ → ℕ → ℕ
encoded yes_no v i = v
encoded (choice n) v i = cond (eqb v i) 1 0
encoded (number n) v zero = v
encoded (number n) v (suc j) = v / 2 ^ j % 2
encoded (top n) v zero = v
encoded (top n) v (suc j) = two_numbers (bit_length n) v (n - v) j
encoded (point n) v i = point_entry n (v % 2 ^ n) (v / 2 ^ n) i

-- one value for each column, each within its column
unfoldable pub legal_values : List Column → List ℕ → Bool
legal_values [] [] = true
legal_values [] (v ∷ vs) = false
legal_values (c ∷ cs) [] = false
legal_values (c ∷ cs) (v ∷ vs) = ltb v (values_of c) && legal_values cs vs

unfoldable pub encoding : List Column → List ℕ → List ℕ
encoding [] vs = []
encoding (c ∷ cs) [] = []
encoding (c ∷ cs) (v ∷ vs) = tabulate (encoded c v) (entries_of c) ++ encoding cs vs

-- the entries x encode one legal value for each column
pub record Encodes (O : Ops) (cs : List Column) (x : ℕ → O.F) : Type 0 where
  pub values : List ℕ
  pub legal : legal_values cs values ≡ true
  pub entries_are : (i : ℕ) → i < entries_in cs → x i ≡ O.ι (get_or (encoding cs values) i 0)
