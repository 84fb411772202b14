-- Document 01, "Sheet and circuit", and document 02, "A column with a top of its own" and "Hours against diameter": columns, and
-- the reading of a sheet. Each kind of column is one case of each function.
-- Assumes nothing.
use Rattle.std.specs.Prelude.{Bool, cond, ◌&&◌, List, [], ◌∷◌, ◌++◌, ℕ, zero, suc, ◌+◌, ◌-◌, ◌*◌, ◌^◌, max, leb, ltb, eqb, get_or}
use Rattle.std.proofs.Math.Option.{Option, some, none}
use Rattle.algebra.specs.Lists.{every, count_from}
use Rattle.words.specs.Bytes.{value_of}
use Rattle.records.specs.Outcome.{Outcome, ok, refused}
use Rattle.records.specs.Records.{Format, read}
use Rattle.rules.specs.Settings.{Setting}

-- "17, yes/no: no body. 18, choice: 1 byte B, 2 to 64. 19, number: 1 byte b, 1 to 24." "Column kind 20: a 4-byte top T, 1 to
-- 16,777,215." "Column kind 21: 1 byte b, 1 to 12", a point (x, y) of two numbers.
pub data Column : Type 0 where
  yes_no : Column
  choice number top point : ℕ → Column

-- "b the bit length of T": the least b with T below 2^b, where T is below 2^24; looked for from n downwards
unfoldable pub length_within : ℕ → ℕ → ℕ
length_within zero v = 0
length_within (suc n) v = cond (leb (2 ^ n) v) (suc n) (length_within n v)

unfoldable pub bit_length : ℕ → ℕ
bit_length v = length_within 24 v

-- low to high, both included
abbrev pub within : ℕ → ℕ → ℕ → Bool
within low high n = leb low n && leb n high

-- a column, or refusal 2 where its count is outside its limits
unfoldable pub limited_column : Bool → Column → Outcome Column
limited_column fits c = cond fits (ok c) (refused 2)

-- "Each is one kind byte, then a body whose length the kind fixes."
unfoldable pub column_body : ℕ → Option ℕ
column_body k =
    cond (eqb k 17) (some 0)
    (cond (eqb k 18) (some 1)
    (cond (eqb k 19) (some 1)
    (cond (eqb k 20) (some 4)
    (cond (eqb k 21) (some 1) none))))

-- the bytes of a column, its kind byte too
unfoldable pub record_size : Column → ℕ
record_size yes_no = 1
record_size (choice n) = 2
record_size (number n) = 2
record_size (top n) = 5
record_size (point n) = 2

unfoldable pub column_of : ℕ → List ℕ → Outcome Column
column_of k body =
    cond (eqb k 17) (ok yes_no)
    (cond (eqb k 18) (limited_column (within 2 64 (get_or body 0 0)) (choice (get_or body 0 0)))
    (cond (eqb k 19) (limited_column (within 1 24 (get_or body 0 0)) (number (get_or body 0 0)))
    (cond (eqb k 20) (limited_column (within 1 16777215 (value_of body)) (top (value_of body)))
    (limited_column (within 1 12 (get_or body 0 0)) (point (get_or body 0 0))))))

abbrev pub column_format : Format Column
column_format = record { body_of = column_body; at_fault = 1; judge = λ done k body. column_of k body }

-- "One entry, 0 or 1. B entries; the chosen one is 1, the rest 0. Entry v, then b bit entries, lowest first." "The
-- entries are v, the b bits of v, and the b bits of T - v." "Entries x, x × x, y, x × y, then b bits of x and b bits of y."
unfoldable pub entries_of : Column → ℕ
entries_of yes_no = 1
entries_of (choice n) = n
entries_of (number n) = suc n
entries_of (top n) = suc (2 * bit_length n)
entries_of (point n) = 4 + 2 * n

-- "Published entries: every entry of kinds 17 and 18, and v of kind 19." Of kind 20 "only v is published", and of kind 21
-- "the first four entries are published". They are the first of a column's entries
unfoldable pub published_of : Column → ℕ
published_of yes_no = 1
published_of (choice n) = n
published_of (number n) = 1
published_of (top n) = 1
published_of (point n) = 4

-- "A value is 0 or 1, the chosen option from 0 to B - 1, or v from 0 to 2^b - 1." Of kind 20 "legal values are
-- 0 to T". Of kind 21 "its value is the number x + 2^b × y". How many values there are
unfoldable pub values_of : Column → ℕ
values_of yes_no = 2
values_of (choice n) = n
values_of (number n) = 2 ^ n
values_of (top n) = suc n
values_of (point n) = 2 ^ n * 2 ^ n

-- "a column's largest value (2^b - 1 for kind 19, else 1)", and "T is its largest value for refusal 4"; of kind 21 "its largest
-- value for refusal 4 is the square of 2^b - 1"
unfoldable pub largest_of : Column → ℕ
largest_of yes_no = 1
largest_of (choice n) = 1
largest_of (number n) = 2 ^ n - 1
largest_of (top n) = n
largest_of (point n) = (2 ^ n - 1) * (2 ^ n - 1)

-- the entries and the published entries of a sheet
unfoldable pub entries_in : List Column → ℕ
entries_in [] = 0
entries_in (c ∷ cs) = entries_of c + entries_in cs

unfoldable pub published_in : List Column → ℕ
published_in [] = 0
published_in (c ∷ cs) = published_of c + published_in cs

-- the largest value of all its columns
unfoldable pub largest_in : List Column → ℕ
largest_in [] = 0
largest_in (c ∷ cs) = max (largest_of c) (largest_in cs)

-- the numbers of the published entries, in entry order, where e entries stand before the columns
unfoldable pub published_from : ℕ → List Column → List ℕ
published_from e [] = []
published_from e (c ∷ cs) = count_from e (published_of c) ++ published_from (e + entries_of c) cs

-- "Reading stops at the first record at fault, and its number is the refusal; the total limits last." Of the limits only
-- "entries 1 to 256" can be broken by a sheet: `circuit_is_read` in proofs
unfoldable pub sheet_limits : List Column → Outcome (List Column)
sheet_limits cs = cond (within 1 256 (entries_in cs)) (ok cs) (refused 2)

unfoldable pub limited_sheet : Outcome (List Column) → Outcome (List Column)
limited_sheet (ok cs) = sheet_limits cs
limited_sheet (refused n) = refused n

unfoldable pub read_sheet : List ℕ → Outcome (List Column)
read_sheet s = limited_sheet (read column_format s)

-- the refusal, 0 for none; and the columns of a sheet that is read
unfoldable pub fault_in : {A : Type 0} → Outcome A → ℕ
fault_in (ok a) = 0
fault_in (refused n) = n

unfoldable pub list_in : {A : Type 0} → Outcome (List A) → List A
list_in (ok l) = l
list_in (refused n) = []

abbrev pub sheet_fault : List ℕ → ℕ
sheet_fault s = fault_in (read_sheet s)

abbrev pub columns_of : List ℕ → List Column
columns_of s = list_in (read_sheet s)

-- a check: its number where it fails, 0 for none
abbrev pub check : Bool → ℕ → ℕ
check holds n = cond holds 0 n

-- "4: N times a column's largest value is p or more"
unfoldable pub totals_fit : Setting → ℕ → List Column → Bool
totals_fit σ n cs = every (λ c. ltb (n * largest_of c) σ.modulus) cs

-- S from 2 to 8; a server's number below S; N from 1 to 1,024: else 2
abbrev pub servers_fit : ℕ → Bool
servers_fit servers = within 2 8 servers

abbrev pub most_returns : ℕ
most_returns = 1024

abbrev pub returns_fit : ℕ → Bool
returns_fit n = within 1 most_returns n

abbrev pub servers_fault : ℕ → ℕ
servers_fault servers = check (servers_fit servers) 2

abbrev pub own_fault : ℕ → ℕ → ℕ
own_fault servers own = check (ltb own servers) 2

abbrev pub returns_fault : ℕ → ℕ
returns_fault n = check (returns_fit n) 2

-- "a least count Q, 1 to N .. A Q outside its range is refused 2"
abbrev pub least_fits : ℕ → ℕ → Bool
least_fits returns least = within 1 returns least

abbrev pub least_fault : ℕ → ℕ → ℕ
least_fault returns least = check (least_fits returns least) 2

abbrev pub totals_fault : Setting → ℕ → List Column → ℕ
totals_fault σ n cs = check (totals_fit σ n cs) 4
