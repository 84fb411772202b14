-- A column that is taken: what a record says by its kind, that the column is within its limits, and what it comes to.
-- By the cases of the kind. Assumes nothing.
use mathlib.Core.Path.{◌≡◌, sym, ap, ◌∙◌}
use mathlib.Core.List.{List, [], ◌∷◌}
use Prim.Native.Nat.{ℕ, ◌-◌, ◌^◌, ◌≤◌}
use native.Mathlib.Nat.{pow-le-pow_right, mul-le-mul}
use native.Mathlib.Omega.{arith}
use Rattle.records.specs.Outcome.{Outcome, ok, refused}
use Rattle.rules.specs.Columns.{Column, yes_no, choice, number, top, point, column_of}
use Rattle.algebra.specs.Lists.{All, all[], all∷}
use Rattle.rules.specs.Columns.{entries_of, published_of, largest_of, entries_in, published_in, largest_in}
use Rattle.rules.specs.Circuit.{constants_of, gates_of, products_at, products_of, tests_of, constants_in, gates_in, products_in, tests_in}
use Rattle.rules.proofs.Circuits.Limits.{InLimits, column_limited, column_refused}
use Rattle.rules.proofs.Circuits.BitLength.{bit_length_lem}
use Rattle.columns.specs.declared.Column as code
use Rattle.columns.specs.declared.Counts.{Counts}
use Rattle.columns.specs.Counting.{counts_of, Small}
use Rattle.columns.specs.Kinds.{to_code, from_code, judged_of}
use Rattle.columns.proofs.ColumnBytes.{from_to_code}
use Rattle.columns.proofs.Sums.{entries, published, constants, gates, products, tests, total_one, largest_one}

-- ---- what one column comes to
pub counts_one : (c : Column)
    → counts_of (c ∷ [])
    ≡ record {
      columns = 1;
      entries = entries_of c;
      published = published_of c;
      constants = constants_of c;
      gates = gates_of c;
      products = products_of c;
      tests = tests_of c;
      largest = largest_of c;
    }
counts_one c =
    rw (
      total_one entries c,
      total_one published c,
      total_one constants c,
      total_one gates c,
      total_one products c,
      total_one tests c,
      largest_one c,
    )

pub largest_most : (a : Column) → InLimits a → largest_of a ≤ 16777215
unfolding largest_of
largest_most yes_no h = omega arith
largest_most (choice n) h = omega arith
largest_most (top n) h = h.1
largest_most (number n) h = let p : 2 ^ n ≤ 2 ^ 24 = pow-le-pow_right (omega arith) h.1 in omega arith
largest_most (point n) h =
    let p : 2 ^ n ≤ 2 ^ 12 = pow-le-pow_right (omega arith) h.1 in
    let m : 2 ^ n - 1 ≤ 4095 = omega arith in
    omega (arith, mul-le-mul m m)

pub column_small : (a : Column) → InLimits a → Small 64 (counts_of (a ∷ []))
unfolding entries_of published_of constants_of gates_of products_of products_at tests_of
column_small yes_no h = rw (counts_one yes_no) (let l = largest_most yes_no h in search arith)
column_small (choice n) h = rw (counts_one (choice n)) (let l = largest_most (choice n) h in search arith)
column_small (number n) h = rw (counts_one (number n)) (let l = largest_most (number n) h in search arith)
column_small (top n) h =
    rw (counts_one (top n)) (let l = largest_most (top n) h in let b = bit_length_lem n h.0 h.1 in search arith)
column_small (point n) h = rw (counts_one (point n)) (let l = largest_most (point n) h in search arith)

-- and what columns come to
columns_bounded : (cs : List Column) → All InLimits cs → Small (entries_in cs) (counts_of cs)
unfolding entries_in published_in constants_in gates_in products_in tests_in largest_in
columns_bounded [] all[] = search arith
columns_bounded (c ∷ cs) (all∷ h hs) =
    let one = rw (counts_one c) at (column_small c h) in
    let rest = columns_bounded cs hs in
    record {
      entries_most = omega arith;
      columns_most = omega (arith, one.columns_most, rest.columns_most);
      published_most = omega (arith, one.published_most, rest.published_most);
      constants_most = omega (arith, one.constants_most, rest.constants_most);
      gates_most = omega (arith, one.gates_most, rest.gates_most);
      products_most = omega (arith, one.products_most, rest.products_most);
      tests_many = omega (arith, one.tests_many, rest.tests_many);
      tests_most = omega (arith, one.tests_most, rest.tests_most);
      largest_most = omega (arith, one.largest_most, rest.largest_most);
    }

pub small_more : {a b : ℕ} {c : Counts} → a ≤ b → Small a c → Small b c
small_more l h = record {
  entries_most = omega (arith, h.entries_most);
  columns_most = h.columns_most;
  published_most = h.published_most;
  constants_most = h.constants_most;
  gates_most = h.gates_most;
  products_most = h.products_most;
  tests_many = h.tests_many;
  tests_most = h.tests_most;
  largest_most = h.largest_most;
}

pub columns_small : (e : ℕ) (cs : List Column) → All InLimits cs → entries_in cs ≤ e → Small e (counts_of cs)
columns_small e cs h l = small_more l (columns_bounded cs h)

-- ---- what the answer of code tells
is_taken : (r : Outcome Column) (c : code.Column) → judged_of r ≡ ok c → r ≡ ok (from_code c)
is_taken (ok a) c h = let e : to_code a ≡ c = cc in ap ok (sym (from_to_code a) ∙ ap from_code e)
is_taken (refused n) c h = let z : ◌≡◌ {A = ℕ} 0 1 = cc in absurd (omega arith)

is_refused : (r : Outcome Column) (n : ℕ) → judged_of r ≡ refused n → r ≡ refused n
is_refused (ok a) n h = let z : ◌≡◌ {A = ℕ} 0 1 = cc in absurd (omega arith)
is_refused (refused m) n h = cc

module _ (k : ℕ) (body : List ℕ) where
  pub record Taken (c : code.Column) : Type 0 where
    pub is_ok : column_of k body ≡ ok (from_code c)
    pub in_limits : InLimits (from_code c)
    pub small : Small 64 (counts_of (from_code c ∷ []))

  pub taken : (c : code.Column) → judged_of (column_of k body) ≡ ok c → Taken c
  taken c h =
      let e = is_taken (column_of k body) c h in
      let l = column_limited k body (from_code c) e in
      record { is_ok = e; in_limits = l; small = column_small (from_code c) l }

  pub outside : (n : ℕ) → judged_of (column_of k body) ≡ refused n → (column_of k body ≡ refused n) × (n ≡ 2)
  outside n h =
      let e = is_refused (column_of k body) n h in
      (e, column_refused k body n e)
