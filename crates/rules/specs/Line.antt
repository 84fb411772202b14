-- Document 02, "Hours against diameter": the line that best fits y on x, from the joined totals of a column of kind 21, as three
-- signed whole numbers, and what is promised of it. Signed numbers are those of the logic, which an i64 of the code denotes.
-- Assumes nothing.
use Rattle.std.specs.Prelude.{◌≡◌, ◌⊎◌, ◌↔◌, Bool, true, false, not, List, [], ◌∷◌, map, ℕ, zero, suc, ◌+◌, ◌-◌, ◌*◌, ◌^◌, ◌≤◌, ◌<◌, eqb, ℤ, pos, negsuc, ◌+ℤ◌, ◌-ℤ◌, ◌*ℤ◌, length, get_or, take}
use Rattle.algebra.specs.Lists.{All, In, sum_over}
use Rattle.records.specs.Outcome.{or_else}
use Rattle.rules.specs.Settings.{Setting}
use Rattle.rules.specs.Columns.{Column, yes_no, choice, number, top, point, entries_in, published_in, check, sheet_fault, columns_of}
use Rattle.rules.specs.Columns.{servers_fault, returns_fault, totals_fault}
use Rattle.rules.specs.Joining.{joined_fault, join_count, join_totals}
use Rattle.rules.specs.Pools.{Pool, columns, added_entry, KeepsForm}
use Rattle.rules.specs.WholeRun.{closings, Closed}

-- "n and the four totals": of x, x × x, y and x × y
pub record Sums : Type 0 where
  pub n : ℕ
  pub x : ℕ
  pub xx : ℕ
  pub y : ℕ
  pub xy : ℕ

-- "D = n × sum of xx - (sum of x)^2; n × sum of xy - sum of x × sum of y; sum of xx × sum of y - sum of x × sum of xy"
unfoldable pub determinant : Sums → ℤ
determinant s = pos (s.n * s.xx) -ℤ pos (s.x * s.x)

unfoldable pub slope : Sums → ℤ
slope s = pos (s.n * s.xy) -ℤ pos (s.x * s.y)

unfoldable pub intercept : Sums → ℤ
intercept s = pos (s.xx * s.y) -ℤ pos (s.x * s.xy)

unfoldable pub is_zero : ℤ → Bool
is_zero (pos n) = eqb n 0
is_zero (negsuc n) = false

-- "a column number from 1": whether it names a column of kind 21
unfoldable pub is_point : Column → Bool
is_point yes_no = false
is_point (choice n) = false
is_point (number n) = false
is_point (top n) = false
is_point (point n) = true

unfoldable pub names_point : ℕ → List Column → Bool
names_point k [] = false
names_point zero (c ∷ cs) = false
names_point (suc zero) (c ∷ cs) = is_point c
names_point (suc (suc k)) (c ∷ cs) = names_point (suc k) cs

-- the columns before the one of that number
abbrev pub columns_before : ℕ → List Column → List Column
columns_before column cs = take (column - 1) cs

-- the count and the four totals of a column of kind 21, from joined totals
unfoldable pub line_sums : Setting → ℕ → List ℕ → List ℕ → ℕ → Sums
line_sums σ servers sheet joined column =
    let first = published_in (columns_before column (columns_of sheet)) in
    let total : ℕ → ℕ = λ i. get_or (join_totals σ servers sheet joined) (first + i) 0 in
    record { n = join_count joined; x = total 0; xx = total 1; y = total 2; xy = total 3 }

-- "The call is given S, a sheet, N, the joined totals messages and a column number from 1; a number that names no column of kind 21
-- is refused 2, after 4. A D of zero is refused 18, after every fault of the joined totals."
unfoldable pub line_refusal : Setting → ℕ → List ℕ → ℕ → List ℕ → ℕ → ℕ
line_refusal σ servers sheet returns joined column =
    let cs = columns_of sheet in
    or_else (servers_fault servers)
    (or_else (sheet_fault sheet)
    (or_else (returns_fault returns)
    (or_else (totals_fault σ returns cs)
    (or_else (check (names_point column cs) 2)
    (or_else (joined_fault σ servers cs returns joined)
    (check (not (is_zero (determinant (line_sums σ servers sheet joined column)))) 18))))))

-- ---- how large the numbers are
-- n returns at most, and each sum below a bound of its own
pub record Within (most single double : ℕ) (s : Sums) : Type 0 where
  pub few : s.n ≤ most
  pub x_low : s.x < single
  pub y_low : s.y < single
  pub xx_low : s.xx < double
  pub xy_low : s.xy < double

-- the six products are below m
pub record Narrow (m : ℕ) (s : Sums) : Type 0 where
  pub n_xx : s.n * s.xx < m
  pub x_x : s.x * s.x < m
  pub n_xy : s.n * s.xy < m
  pub x_y : s.x * s.y < m
  pub xx_y : s.xx * s.y < m
  pub x_xy : s.x * s.xy < m

-- ---- what the numbers come to
-- the two numbers of one return, and the sums over returns
pub record Point : Type 0 where
  pub x : ℕ
  pub y : ℕ

unfoldable pub sums_of : List Point → Sums
sums_of ps = record {
  n = length ps;
  x = sum_over (λ p. p.x) ps;
  xx = sum_over (λ p. p.x * p.x) ps;
  y = sum_over (λ p. p.y) ps;
  xy = sum_over (λ p. p.x * p.y) ps;
}

-- all x are equal
abbrev pub SameX : List Point → Type 0
SameX ps = (a : ℕ) × All (λ p. p.x ≡ a) ps

-- "by equation 1 of source document 001": (n, sum of x; sum of x, sum of xx) (c0, c1) = (sum of y, sum of xy), with c0 the
-- intercept and c1 the slope, both over D
pub record Solves (s : Sums) : Type 0 where
  pub first : pos s.n *ℤ intercept s +ℤ pos s.x *ℤ slope s ≡ pos s.y *ℤ determinant s
  pub second : pos s.x *ℤ intercept s +ℤ pos s.xx *ℤ slope s ≡ pos s.xy *ℤ determinant s

-- the point that a return holds in a column: its added-up entries x and y
unfoldable pub point_in : (σ : Setting) (𝓟 : Pool σ) → ℕ → ℕ → Point
point_in σ 𝓟 column id =
    let e = entries_in (columns_before column (columns σ 𝓟)) in
    record { x = added_entry σ 𝓟 id e; y = added_entry σ 𝓟 id (e + 2) }

-- What is promised of a column of kind 21 when all servers have closed and their closing messages are joined, where each entered
-- return keeps the form
pub record Fitted (σ : Setting) (𝓟 : Pool σ) (column : ℕ) (ids : List ℕ) : Type 0 where
  -- the column is one of b bits
  pub bits : ℕ
  pub named : get_or (columns σ 𝓟) (column - 1) yes_no ≡ point bits
  -- the sums are those of the entered returns' points, and each x and y is below 2^b
  pub sums_are : line_sums σ 𝓟.servers 𝓟.sheet (closings σ 𝓟) column ≡ sums_of (map (point_in σ 𝓟 column) ids)
  pub small : (id : ℕ) → In id ids → ((point_in σ 𝓟 column id).x < 2 ^ bits) × ((point_in σ 𝓟 column id).y < 2 ^ bits)
  -- "For accepted returns that keep the form, D is zero exactly when all x are equal or n is 0", and it is never negative
  pub zero_when : (determinant (line_sums σ 𝓟.servers 𝓟.sheet (closings σ 𝓟) column) ≡ pos 0)
      ↔ (SameX (map (point_in σ 𝓟 column) ids) ⊎ (length ids ≡ 0))
  pub not_negative : (d : ℕ) × (determinant (line_sums σ 𝓟.servers 𝓟.sheet (closings σ 𝓟) column) ≡ pos d)
  -- the three numbers solve equation 1
  pub solves : Solves (line_sums σ 𝓟.servers 𝓟.sheet (closings σ 𝓟) column)
  -- the call is refused 18 for a D of zero, and not at all otherwise
  pub refused_only : line_refusal σ 𝓟.servers 𝓟.sheet 𝓟.returns (closings σ 𝓟) column
      ≡ check (not (is_zero (determinant (line_sums σ 𝓟.servers 𝓟.sheet (closings σ 𝓟) column)))) 18

-- `Closed` is what the conditions of whole runs give once all servers have closed
abbrev pub LineRun : Setting → Type 0
LineRun σ =
    (𝓟 : Pool σ) (closed : Closed σ 𝓟) → ((id : ℕ) → In id closed.ids → KeepsForm σ 𝓟 id)
    → (column : ℕ) → names_point column (columns σ 𝓟) ≡ true → Fitted σ 𝓟 column closed.ids
