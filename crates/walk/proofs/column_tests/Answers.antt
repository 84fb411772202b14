-- `walk::column_tests` meets its contract: by the kinds of columns, the outputs, and the tests of the sums and products.
-- Assumes nothing.
use mathlib.Core.Path.{◌≡◌, sym, ap, ◌∙◌}
use mathlib.Core.List.{List}
use Prim.Native.Nat.{ℕ, ◌+◌, ◌≤◌}
use native.Mathlib.Nat.{mod-lt}
use native.Mathlib.Omega.{arith}
use lib.Dec.{lit<}
use lib.ListN.{length}
use Rattle.rules.specs.Settings.{document01}
use Rattle.rules.specs.Columns.{entries_of}
use Rattle.rules.specs.Circuit.{gates_of, tests_of}
use Rattle.rules.specs.Walk.{column_tests}
use Rattle.columns.specs.declared.Column as code
use Rattle.columns.specs.Kinds.{from_code}
use Rattle.walk.specs.Walks.{shared, Asked}
use Rattle.walk.proofs.ColumnTests.{yes_no_tests, choice_tests, column_number, top_tests_lem, column_point}
use Rattle.walk.proofs.column_tests.Goals as goal

-- ---- what is given, once the column is told to be k
room : (out : List ℕ) {column k : code.Column} → length out ≡ tests_of (from_code column) → column ≡ k
    → length out ≡ tests_of (from_code k)
room out long told = long ∙ ap (λ (k : code.Column). tests_of (from_code k)) told

module _ {xs : List ℕ} {l e t factor : ℕ} {column k : code.Column} (asked : Asked xs l e t factor (from_code column))
    (told : column ≡ k) where
  entries_fit : e + entries_of (from_code k) ≤ length xs
  entries_fit = omega (arith, asked.entries, ap (λ (k : code.Column). entries_of (from_code k)) told)

  outputs_fit : l + 3 + t + gates_of (from_code k) ≤ length xs
  outputs_fit = omega (arith, asked.outputs_fit, ap (λ (k : code.Column). gates_of (from_code k)) told)

  its_tests : column_tests document01 (shared factor l xs) e t (from_code k)
      ≡ column_tests document01 (shared factor l xs) e t (from_code column)
  its_tests = sym (ap (λ (k : code.Column). column_tests document01 (shared factor l xs) e t (from_code k)) told)

-- ---- the steps
pub overflow_add-first : goal.overflow_add-first
overflow_add-first c = omega (arith, c.requires.0.outputs_fit)

pub overflow_add-first-2 : goal.overflow_add-first-2
overflow_add-first-2 c = omega (arith, c.requires.0.outputs_fit)

pub bounds-x-first : goal.bounds-x-first
unfolding gates_of
bounds-x-first c =
    omega (arith, outputs_fit c.requires.0 c.in-YesNo.is)

pub bounds-out-0 : goal.bounds-out-0
unfolding tests_of
bounds-out-0 c = omega (arith, room _ c.requires.1 c.in-YesNo.is)

pub sum_from-sum-requires : goal.sum_from-sum-requires
unfolding entries_of
sum_from-sum-requires c =
    (entries_fit c.requires.0 c.in-Choice.is, c.requires.0.elements, rw c.mul.ensures (mod-lt _ (lit< tt)))

pub copy_then-requires : goal.copy_then-requires
unfolding gates_of tests_of
copy_then-requires c =
    let told = c.in-Choice.is in
    (outputs_fit c.requires.0 told, omega (arith, room _ c.requires.1 told))

pub number_tests-requires : goal.number_tests-requires
unfolding entries_of gates_of tests_of
number_tests-requires c =
    let told = c.in-Number.is in
    let entry = entries_fit c.requires.0 told in (
      c.requires.0.elements,
      outputs_fit c.requires.0 told,
      omega (arith, entry),
      omega (arith, entry),
      omega (arith, room _ c.requires.1 told),
    )

pub top_tests-requires : goal.top_tests-requires
top_tests-requires c =
    let told = c.in-Top.is in
    record {
      elements = (c.requires.0.elements, c.requires.0.factor, rw told at c.requires.0.in_limits);
      n_in_bounds = (entries_fit c.requires.0 told, outputs_fit c.requires.0 told, room _ c.requires.1 told);
    }

pub point_tests-requires : goal.point_tests-requires
unfolding entries_of gates_of tests_of
point_tests-requires c =
    let told = c.in-Point.is in
    let entry = entries_fit c.requires.0 told in
    let output = outputs_fit c.requires.0 told in
    (c.requires.0.elements, omega (arith, entry), omega (arith, output), room _ c.requires.1 told)

pub returns-in-YesNo : goal.returns-in-YesNo
unfolding tests_of
returns-in-YesNo c =
    let a = c.args in
    let told = c.in-YesNo.is in
    yes_no_tests a.x.now a.l a.e a.factor a.t a.out.now (room _ c.requires.1 told) ∙ its_tests c.requires.0 told

pub returns-in-Choice : goal.returns-in-Choice
returns-in-Choice c =
    let a = c.args in
    c.copy_then.ensures
    ∙ choice_tests a.x.now a.l a.e a.factor a.t c.in-Choice.n c.sum_from-sum.result
    c.mul.result c.mul.ensures c.sum_from-sum.ensures
    ∙ its_tests c.requires.0 c.in-Choice.is

pub returns-in-Number : goal.returns-in-Number
returns-in-Number c =
    let a = c.args in
    c.number_tests.ensures
    ∙ column_number a.x.now a.l a.e a.factor a.t c.in-Number.n
    ∙ its_tests c.requires.0 c.in-Number.is

pub returns-in-Top : goal.returns-in-Top
returns-in-Top c =
    let a = c.args in
    c.top_tests.ensures
    ∙ top_tests_lem a.x.now a.l a.e a.factor a.t c.in-Top.n
    ∙ its_tests c.requires.0 c.in-Top.is

pub returns-in-Point : goal.returns-in-Point
returns-in-Point c =
    let a = c.args in
    c.point_tests.ensures
    ∙ column_point a.x.now a.l a.e a.factor a.t c.in-Point.n
    ∙ its_tests c.requires.0 c.in-Point.is
