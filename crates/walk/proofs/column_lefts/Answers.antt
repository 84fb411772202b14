-- `walk::column_lefts` meets its contract: by the kinds of columns, the entries from the first bit on, and behind those of a point
-- its two products. Assumes nothing.
use mathlib.Core.Path.{◌≡◌, sym, ap, ap₂, ◌∙◌}
use mathlib.Core.Logic.{◌⊎◌, inl, inr}
use mathlib.Core.List.{List}
use Prim.Native.Nat.{ℕ, ◌+◌}
use native.Mathlib.Nat.{add-zero}
use native.Mathlib.Numerals.{add-one}
use native.Mathlib.Omega.{arith}
use Rattle.algebra.specs.Lists.{tabulate}
use Rattle.rules.specs.Settings.{document01}
use Rattle.rules.specs.Columns.{entries_of}
use Rattle.rules.specs.Circuit.{bits_of, products_at, gates_of, products_of}
use Rattle.rules.specs.Walk.{bits_at, column_lefts}
use Rattle.columns.specs.declared.Column as code
use Rattle.columns.specs.declared.Column.TheVariants as kind
use Rattle.columns.specs.Kinds.{from_code}
use Rattle.walk.specs.Walks.{plain, members}
use Rattle.walk.proofs.Filling.{one_place}
use Rattle.walk.proofs.Meanings.{bits_fit}
use Rattle.walk.proofs.BitsOnly.{all_bits, lefts_bits}
use Rattle.walk.proofs.column_lefts.Goals as goal

-- the first bit, the multiplications and the entries of a column that is told
bits : {a b : code.Column} (e : ℕ) → a ≡ b
    → bits_at e (from_code a) ≡ bits_at e (from_code b)
bits e q = ap (λ (k : code.Column). bits_at e (from_code k)) q

gates : {a b : code.Column} → a ≡ b → gates_of (from_code a) ≡ gates_of (from_code b)
gates q = ap (λ (k : code.Column). gates_of (from_code k)) q

entries : {a b : code.Column} → a ≡ b → entries_of (from_code a) ≡ entries_of (from_code b)
entries q = ap (λ (k : code.Column). entries_of (from_code k)) q

products : {a b : code.Column} → a ≡ b → products_of (from_code a) ≡ products_of (from_code b)
products q = ap (λ (k : code.Column). products_of (from_code k)) q

-- n members from b on, once b is the first bit, where all multiplications check bits
from_bits : (a : code.Column) (xs : List ℕ) (e b n : ℕ) → products_of (from_code a) ≡ 0 → bits_at e (from_code a) ≡ b
    → n ≡ gates_of (from_code a)
    → tabulate (λ i. members xs (b + i)) n ≡ column_lefts document01 (plain 0 (members xs)) e (from_code a)
from_bits a xs e b n none p q =
    ap₂ (λ (b n : ℕ). tabulate (λ i. members xs (b + i)) n) (sym p) q
    ∙ sym (lefts_bits (from_code a) e none (plain 0 (members xs)))

-- a number and a top have their bits behind the first entry, and check nothing else
behind_number : (a : code.Column) → ((n : ℕ) × (a ≡ kind.Number n)) ⊎ ((n : ℕ) × (a ≡ kind.Top n))
    → (products_of (from_code a) ≡ 0) × ((e : ℕ) → bits_at e (from_code a) ≡ e + 1)
unfolding bits_at products_of products_at
behind_number a (inl q) = (products q.1, λ e. bits e q.1 ∙ sym (add-one e))
behind_number a (inr q) = (products q.1, λ e. bits e q.1 ∙ sym (add-one e))

-- they are then the last entries
last_bits : (a : code.Column) (e : ℕ) → products_of (from_code a) ≡ 0
    → bits_at e (from_code a) + gates_of (from_code a) ≡ e + entries_of (from_code a)
last_bits a e none = ap (bits_at e (from_code a) +◌) (sym (all_bits (from_code a) e none)) ∙ bits_fit e (from_code a)

pub bounds-x-e : goal.bounds-x-e
unfolding entries_of
bounds-x-e c =
    omega (arith, c.requires.0, entries c.in-YesNo.is)

pub bounds-out-0 : goal.bounds-out-0
unfolding gates_of
bounds-out-0 c =
    omega (arith, c.requires.1, gates c.in-YesNo.is)

pub copy-requires : goal.copy-requires
unfolding bits_at products_of products_at
copy-requires c =
    let told = c.in-Choice.is in
    let last = last_bits c.args.column c.args.e (products told) in
    omega (arith, c.requires.0, c.requires.1, bits c.args.e told, last)

pub copy-requires-in-Number : goal.copy-requires-in-Number
copy-requires-in-Number c =
    let told = behind_number c.args.column c.in-Number.is in
    let last = last_bits c.args.column c.args.e told.0 in
    omega (arith, c.requires.0, c.requires.1, told.1 c.args.e, last)

pub overflow_add-e-in-Point : goal.overflow_add-e-in-Point
unfolding entries_of
overflow_add-e-in-Point c =
    omega (arith, c.requires.0, entries c.in-Point.is)

pub overflow_mul-n : goal.overflow_mul-n
unfolding entries_of
overflow_mul-n c =
    record { fits = omega (arith, c.requires.0, entries c.in-Point.is) }

pub bounds-x-e-in-Point : goal.bounds-x-e-in-Point
unfolding entries_of
bounds-x-e-in-Point c =
    omega (arith, c.requires.0, entries c.in-Point.is)

pub bounds-x-e-in-Point-2 : goal.bounds-x-e-in-Point-2
unfolding entries_of
bounds-x-e-in-Point-2 c =
    omega (arith, c.requires.0, entries c.in-Point.is)

pub copy_two-requires : goal.copy_two-requires
unfolding entries_of gates_of
copy_two-requires c =
    let told = c.in-Point.is in
    (omega (arith, c.requires.0, entries told), omega (arith, c.requires.1, gates told))

pub returns-in-YesNo : goal.returns-in-YesNo
unfolding bits_at gates_of products_of products_at
returns-in-YesNo c =
    let a = c.args in
    let told = c.in-YesNo.is in
    one_place (λ i. members a.x.now (a.e + i)) a.out.now (members a.x.now a.e) (c.requires.1 ∙ gates told)
    (ap (members a.x.now) (sym (add-zero a.e)))
    ∙ from_bits a.column a.x.now a.e a.e _ (products told) (bits a.e told) c.requires.1

pub returns-in-Choice : goal.returns-in-Choice
unfolding bits_at products_of products_at
returns-in-Choice c =
    let a = c.args in
    let told = c.in-Choice.is in
    c.copy.ensures
    ∙ from_bits a.column a.x.now a.e a.e _ (products told) (bits a.e told) c.requires.1

pub returns-in-Number : goal.returns-in-Number
returns-in-Number c =
    let a = c.args in
    let told = behind_number a.column c.in-Number.is in
    c.copy-in-Number.ensures
    ∙ from_bits a.column a.x.now a.e (a.e + 1) _ told.0 (told.1 a.e) c.requires.1

pub returns-in-Point : goal.returns-in-Point
unfolding column_lefts bits_at bits_of products_at
returns-in-Point c =
    let a = c.args in
    c.copy_two.ensures
    ∙ sym
    (ap (λ (k : code.Column). column_lefts document01 (plain 0 (members a.x.now)) a.e (from_code k)) c.in-Point.is)
