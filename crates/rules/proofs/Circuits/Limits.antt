-- What a sheet that is read keeps to. Each column that reading takes is within its limits and has at most 5 bytes for 3
-- entries; the limit on all entries then bounds every count. Assumes nothing.
use mathlib.Core.Path.{◌≡◌, refl, sym, ap, ap₂, ◌∙◌, subst}
use mathlib.Core.Bool.{Bool, true, false, cond}
use mathlib.Core.List.{List, [], ◌∷◌, ◌++◌}
use mathlib.Core.Option.{Option, some, none}
use Prim.Native.Nat.{ℕ, zero, suc, ◌+◌, ◌*◌, ◌≤◌, ◌<◌}
use native.Mathlib.Omega.{arith}
use borrow.Author.Tests.{leb-true, le-leb}
use lib.Dec.{leb, eqb}
use lib.ListN.{length, get_or, length-append}
use Rattle.algebra.specs.Lists.{All, all[], all∷, count_from}
use Rattle.algebra.proofs.Members.{all_map, all_append, in_all, in_count, and-true, and_left, and_right}
use Rattle.words.specs.Bytes.{value_of}
use Rattle.records.specs.Outcome.{Outcome, ok, refused}
use Rattle.records.specs.Records.{read_from, Says, nothing, more}
use Rattle.records.proofs.Runs.{says_of_read}
use Rattle.rules.specs.Columns.{Column, yes_no, choice, number, top, point, within, limited_column, column_body, column_of}
use Rattle.rules.specs.Columns.{record_size}
use Rattle.rules.specs.Columns.{column_format, entries_of, published_of, entries_in, published_in, published_from, sheet_limits}
use Rattle.rules.specs.Columns.{limited_sheet, read_sheet}
use Rattle.rules.specs.Circuit.{wires_of, gates_of, bits_of, Product, products_at, tests_of, wires_in, gates_in, tests_in}
use Rattle.rules.specs.Judging.{share_size}
use Rattle.rules.proofs.Circuits.BitLength.{bit_length_lem}

-- a column within its limits
abbrev pub InLimits : Column → Type 0
InLimits yes_no = Unit {0}
InLimits (choice n) = (2 ≤ n) × (n ≤ 64)
InLimits (number n) = (1 ≤ n) × (n ≤ 24)
InLimits (top n) = (1 ≤ n) × (n ≤ 16777215)
InLimits (point n) = (1 ≤ n) × (n ≤ 12)

-- what holds where the sheet s is read as the columns cs
pub record Limits (s : List ℕ) (cs : List Column) : Type 0 where
  pub in_limits : All InLimits cs
  pub some_entries : 1 ≤ entries_in cs
  pub entries_most : entries_in cs ≤ 256
  pub bytes_most : length s ≤ 426
  pub columns_most : length cs ≤ entries_in cs
  pub some_gates : 1 ≤ gates_in cs
  pub gates_most : gates_in cs ≤ entries_in cs
  pub some_tests : 1 ≤ tests_in cs
  pub tests_most : tests_in cs ≤ 384
  pub wires_most : suc (wires_in cs) ≤ 1275
  pub share_most : share_size cs ≤ 774
  pub some_published : 1 ≤ published_in cs
  pub published_most : published_in cs ≤ entries_in cs
  pub published_count : length (published_from 0 cs) ≡ published_in cs
  pub published_below : All (λ e. e < entries_in cs) (published_from 0 cs)

-- ---- counts of columns within their limits
-- how many columns are of kinds 19, 20 and 21
unfoldable pub numbers_in : List Column → ℕ
numbers_in [] = 0
numbers_in (yes_no ∷ cs) = numbers_in cs
numbers_in (choice n ∷ cs) = numbers_in cs
numbers_in (number n ∷ cs) = suc (numbers_in cs)
numbers_in (top n ∷ cs) = suc (numbers_in cs)
numbers_in (point n ∷ cs) = suc (numbers_in cs)

pub record Bounds (cs : List Column) : Type 0 where
  pub columns_few : length cs ≤ entries_in cs
  pub gates_few : gates_in cs ≤ entries_in cs
  pub gates_many : entries_in cs ≤ 2 * gates_in cs
  pub tests_few : 2 * tests_in cs ≤ 3 * entries_in cs
  pub tests_many : gates_in cs ≤ tests_in cs
  pub published_few : published_in cs ≤ entries_in cs
  pub published_many : entries_in cs ≤ 49 * published_in cs
  -- with 6 numbers or more the first bounds the wires, with 5 or fewer the second
  pub wires_few : wires_in cs + numbers_in cs ≤ 5 * entries_in cs
  pub wires_few' : wires_in cs ≤ 4 * entries_in cs + 48 * numbers_in cs

pub bounds : (cs : List Column) → All InLimits cs → Bounds cs
unfolding entries_of published_of gates_of tests_of wires_of entries_in published_in gates_in tests_in wires_in numbers_in
bounds [] all[] = search arith
bounds (yes_no ∷ cs) (all∷ h hs) = let r = bounds cs hs in search arith
bounds (choice n ∷ cs) (all∷ h hs) = let r = bounds cs hs in search arith
bounds (number n ∷ cs) (all∷ h hs) = let r = bounds cs hs in search arith
bounds (top n ∷ cs) (all∷ h hs) = let r = bounds cs hs in let b = bit_length_lem n h.0 h.1 in search arith
bounds (point n ∷ cs) (all∷ h hs) = let r = bounds cs hs in search arith

-- ---- published entries
pub count_length : (a n : ℕ) → length (count_from a n) ≡ n
unfolding count_from
count_length a zero = refl
count_length a (suc n) = ap suc (count_length (suc a) n)

published_length : (cs : List Column) (e : ℕ) → length (published_from e cs) ≡ published_in cs
unfolding published_from published_in
published_length [] e = refl
published_length (c ∷ cs) e =
    length-append (count_from e (published_of c)) _
    ∙ ap₂ ◌+◌ (count_length e (published_of c)) (published_length cs (e + entries_of c))

pub published_few_of : (c : Column) → published_of c ≤ entries_of c
unfolding published_of entries_of
published_few_of yes_no = omega arith
published_few_of (choice n) = omega arith
published_few_of (number n) = omega arith
published_few_of (top n) = omega arith
published_few_of (point n) = omega arith

published_low : (cs : List Column) (e : ℕ) → All (λ j. j < e + entries_in cs) (published_from e cs)
unfolding published_from entries_in
published_low [] e = all[]
published_low (c ∷ cs) e =
    all_append
    (in_all (count_from e (published_of c))
    (λ j h. let l = in_count e (published_of c) j h in omega (arith, published_few_of c)))
    (all_map (λ j h. omega arith) (published_low cs (e + entries_of c)))

-- ---- products: as many as there are multiplications that check no bit, of entries of the column
pub products_many : (c : Column) (e : ℕ) → bits_of c + length (products_at e c) ≡ gates_of c
unfolding bits_of gates_of products_at
products_many yes_no e = refl
products_many (choice n) e = omega arith
products_many (number n) e = omega arith
products_many (top n) e = omega arith
products_many (point n) e = refl

pub record InColumn (e n : ℕ) (p : Product) : Type 0 where
  pub left_from : e ≤ p.left
  pub left_below : p.left < e + n
  pub right_from : e ≤ p.right
  pub right_below : p.right < e + n

pub products_in_lem : (c : Column) (e : ℕ) → All (InColumn e (entries_of c)) (products_at e c)
unfolding products_at entries_of
products_in_lem yes_no e = all[]
products_in_lem (choice n) e = all[]
products_in_lem (number n) e = all[]
products_in_lem (top n) e = all[]
products_in_lem (point n) e =
    let square : InColumn e (4 + 2 * n) (record { left = e; right = e }) = search arith in
    let other : InColumn e (4 + 2 * n) (record { left = e; right = e + 2 }) = search arith in
    all∷ square (all∷ other all[])

-- ---- what reading takes
pub within_both : (low high n : ℕ) → within low high n ≡ true → (low ≤ n) × (n ≤ high)
within_both low high n h =
    (leb-true low n (and_left (leb low n) (leb n high) h), leb-true n high (and_right (leb low n) (leb n high) h))

pub within_is : (low high n : ℕ) → low ≤ n → n ≤ high → within low high n ≡ true
within_is low high n h h' = and-true (leb low n) (leb n high) (le-leb low n h) (le-leb n high h')

-- what a record says, by the length of its kind's body: a column within its limits and of that size, or refusal 2
data Said : Option ℕ → Outcome Column → Type 0 where
  column : (n : ℕ) (c : Column) → InLimits c → suc n ≡ record_size c → Said (some n) (ok c)
  unknown : (c : Column) → InLimits c → Said none (ok c)
  two : (n : Option ℕ) → Said n (refused 2)

said_limited : (fits : Bool) (n : ℕ) (c : Column) → (fits ≡ true → InLimits c) → suc n ≡ record_size c
    → Said (some n) (limited_column fits c)
unfolding limited_column
said_limited true n c h e = column n c (h refl) e
said_limited false n c h e = two (some n)

said_unknown : (fits : Bool) (c : Column) → (fits ≡ true → InLimits c) → Said none (limited_column fits c)
unfolding limited_column
said_unknown true c h = unknown c (h refl)
said_unknown false c h = two none

said : (k : ℕ) (body : List ℕ) → Said (column_body k) (column_of k body)
unfolding column_body column_of record_size
said k body = by_kind (eqb k 17) (eqb k 18) (eqb k 19) (eqb k 20) (eqb k 21)
  where
    x : ℕ
    x = get_or body 0 0

    y : ℕ
    y = value_of body

    by_kind : (a b d f g : Bool)
        → Said (cond a (some 0) (cond b (some 1) (cond d (some 1) (cond f (some 4) (cond g (some 1) none)))))
        (cond a (ok yes_no)
        (cond b (limited_column (within 2 64 x) (choice x))
        (cond d (limited_column (within 1 24 x) (number x))
        (cond f (limited_column (within 1 16777215 y) (top y)) (limited_column (within 1 12 x) (point x))))))
    by_kind true b d f g = column 0 yes_no tt refl
    by_kind false true d f g = said_limited (within 2 64 x) 1 (choice x) (within_both 2 64 x) refl
    by_kind false false true f g = said_limited (within 1 24 x) 1 (number x) (within_both 1 24 x) refl
    by_kind false false false true g = said_limited (within 1 16777215 y) 4 (top y) (within_both 1 16777215 y) refl
    by_kind false false false false true = said_limited (within 1 12 x) 1 (point x) (within_both 1 12 x) refl
    by_kind false false false false false = said_unknown (within 1 12 x) (point x) (within_both 1 12 x)

pub column_limited : (k : ℕ) (body : List ℕ) (c : Column) → column_of k body ≡ ok c → InLimits c
column_limited k body c = by (said k body)
  where
    by : {n : Option ℕ} {r : Outcome Column} → Said n r → r ≡ ok c → InLimits c
    by (column n d w q) e = let v : d ≡ c = cc in subst InLimits v w
    by (unknown d w) e = let v : d ≡ c = cc in subst InLimits v w
    by (two n) e = let z : ◌≡◌ {A = ℕ} 0 1 = cc in absurd (omega arith)

pub column_refused : (k : ℕ) (body : List ℕ) (m : ℕ) → column_of k body ≡ refused m → m ≡ 2
column_refused k body m = by (said k body)
  where
    by : {n : Option ℕ} {r : Outcome Column} → Said n r → r ≡ refused m → m ≡ 2
    by (column n d w q) e = let z : ◌≡◌ {A = ℕ} 0 1 = cc in absurd (omega arith)
    by (unknown d w) e = let z : ◌≡◌ {A = ℕ} 0 1 = cc in absurd (omega arith)
    by (two n) e = cc

pub column_sized : (k : ℕ) (body : List ℕ) (c : Column) (m : ℕ) → column_body k ≡ some m → column_of k body ≡ ok c
    → suc m ≡ record_size c
column_sized k body c m = by (said k body)
  where
    by : {n : Option ℕ} {r : Outcome Column} → Said n r → n ≡ some m → r ≡ ok c → suc m ≡ record_size c
    by (column n d w q) e h =
        let u : n ≡ m = cc in
        let v : d ≡ c = cc in
        ap suc (sym u) ∙ q ∙ ap record_size v
    by (unknown d w) e h = let z : ◌≡◌ {A = ℕ} 0 1 = cc in absurd (omega arith)
    by (two n) e h = let z : ◌≡◌ {A = ℕ} 0 1 = cc in absurd (omega arith)

-- a column has at most 5 bytes for 3 entries
record_few : (c : Column) → InLimits c → 3 * record_size c ≤ 5 * entries_of c
unfolding record_size entries_of
record_few yes_no w = omega arith
record_few (choice n) w = omega arith
record_few (number n) w = omega arith
record_few (top n) w = let b = bit_length_lem n w.0 w.1 in omega arith
record_few (point n) w = omega arith

entries_append : (a b : List Column) → entries_in (a ++ b) ≡ entries_in a + entries_in b
unfolding entries_in
entries_append [] b = omega arith
entries_append (c ∷ a) b = omega (arith, entries_append a b)

columns_taken : {s : List ℕ} {cs : List Column} → Says column_format s cs → All InLimits cs × (3 * length s ≤ 5 * entries_in cs)
unfolding entries_in
columns_taken nothing = (all[], omega arith)
columns_taken (more {s} {done} k body c w e j) =
    let before = columns_taken w in
    let w' = column_limited k body c j in
    let few = record_few c w' in
    let size = column_sized k body c (length body) e j in
    (all_append before.0 (all∷ w' all[]), rw (length-append, entries_append) (omega arith))

sheet_ok : (r : Outcome (List Column)) (cs : List Column) → limited_sheet r ≡ ok cs
    → (r ≡ ok cs) × (within 1 256 (entries_in cs) ≡ true)
unfolding limited_sheet sheet_limits
sheet_ok (ok ds) cs h = fits (within 1 256 (entries_in ds)) refl h
  where
    fits : (b : Bool) → within 1 256 (entries_in ds) ≡ b → cond b (ok ds) (refused 2) ≡ ok cs
        → (ok ds ≡ ok cs) × (within 1 256 (entries_in cs) ≡ true)
    fits true q g = let e : ds ≡ cs = cc in (ap ok e, rw e at q)
    fits false q g = let z : ◌≡◌ {A = ℕ} 0 1 = cc in absurd (omega arith)
sheet_ok (refused n) cs h = let z : ◌≡◌ {A = ℕ} 0 1 = cc in absurd (omega arith)

pub limits : (s : List ℕ) (cs : List Column) → read_sheet s ≡ ok cs → Limits s cs
unfolding read_sheet share_size
limits s cs h =
    let is_read = sheet_ok (read_from column_format s 0 []) cs h in
    let taken = columns_taken (says_of_read column_format s cs is_read.0) in
    let few = within_both 1 256 (entries_in cs) is_read.1 in
    let r = bounds cs taken.0 in
    let below : All (λ e. e < entries_in cs) (published_from 0 cs) = all_map (λ j l. omega arith) (published_low cs 0) in
    search (arith, published_length cs 0)
