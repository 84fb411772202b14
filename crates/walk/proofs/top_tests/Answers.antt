-- `walk::top_tests` meets its contract: the outputs, and then the tests of both sums. Assumes nothing.
use mathlib.Core.Path.{◌≡◌, ap₂, ◌∙◌}
use mathlib.Core.List.{List, [], ◌∷◌, ◌++◌}
use Prim.Native.Nat.{ℕ, suc, ◌+◌, ◌*◌, ◌≤◌}
use native.Mathlib.Nat.{mod-lt}
use native.Mathlib.Omega.{arith}
use lib.Dec.{lit<}
use lib.ListN.{length}
use Rattle.algebra.specs.Lists.{tabulate}
use Rattle.field.proofs.Below.{member_below}
use Rattle.rules.specs.Columns.{top, bit_length, entries_of}
use Rattle.rules.specs.Circuit.{gates_of, tests_of}
use Rattle.rules.proofs.Circuits.BitLength.{bit_length_lem}
use Rattle.rules.proofs.Circuits.Limits.{InLimits}
use Rattle.walk.specs.Walks.{members}
use Rattle.walk.proofs.ColumnTests.{number_test_lem, rest_test_lem}
use Rattle.walk.proofs.top_tests.Goals as goal

-- the room that the bit length says
record Room (b e first : ℕ) (xs out : List ℕ) : Type 0 where
  few : b ≤ 24
  entries_fit : e + suc (2 * b) ≤ length xs
  outputs_fit : first + 2 * b ≤ length xs
  tests_fit : length out ≡ suc (suc (2 * b))

room : (n b e first : ℕ) (xs out : List ℕ) → b ≡ bit_length n → InLimits (top n)
    → (e + entries_of (top n) ≤ length xs) × (first + gates_of (top n) ≤ length xs) × (length out ≡ tests_of (top n))
    → Room b e first xs out
unfolding entries_of gates_of tests_of
room n b e first xs out is limits fit =
    let bits = bit_length_lem n limits.0 limits.1 in
    record {
      few = omega (arith, is, bits.bits_most);
      entries_fit = omega (arith, is, fit.0);
      outputs_fit = omega (arith, is, fit.1);
      tests_fit = omega (arith, is, fit.2);
    }

pub bounds-x-e : goal.bounds-x-e
bounds-x-e c =
    let a = c.args in
    let r =
    room a.n c.bit_length-b.result a.e a.first a.x.now a.out.now c.bit_length-b.ensures c.requires.elements.2 c.requires.n_in_bounds in
    omega (arith, r.entries_fit)

pub mul-requires : goal.mul-requires
mul-requires c = (member_below _ _ c.requires.elements.0, lit< tt)

pub weighted_from-sum-requires : goal.weighted_from-sum-requires
weighted_from-sum-requires c =
    let a = c.args in
    let r =
    room a.n c.bit_length-b.result a.e a.first a.x.now a.out.now c.bit_length-b.ensures c.requires.elements.2 c.requires.n_in_bounds in
    (omega (arith, r.entries_fit), c.requires.elements.0, rw c.mul.ensures (mod-lt _ (lit< tt)))

pub overflow_add-e-3 : goal.overflow_add-e-3
overflow_add-e-3 c =
    let a = c.args in
    let r =
    room a.n c.bit_length-b.result a.e a.first a.x.now a.out.now c.bit_length-b.ensures c.requires.elements.2 c.requires.n_in_bounds in
    omega (arith, r.entries_fit, c)

pub mul_add-requires : goal.mul_add-requires
mul_add-requires c =
    (c.requires.elements.1, omega (arith, c.requires.elements.2), member_below _ _ c.requires.elements.0)

pub weighted_from-rest-requires : goal.weighted_from-rest-requires
weighted_from-rest-requires c =
    let a = c.args in
    let r =
    room a.n c.bit_length-b.result a.e a.first a.x.now a.out.now c.bit_length-b.ensures c.requires.elements.2 c.requires.n_in_bounds in
    (omega (arith, r.entries_fit), c.requires.elements.0, rw c.mul_add.ensures (mod-lt _ (lit< tt)))

pub overflow_mul-b : goal.overflow_mul-b
overflow_mul-b c =
    let a = c.args in
    let r =
    room a.n c.bit_length-b.result a.e a.first a.x.now a.out.now c.bit_length-b.ensures c.requires.elements.2 c.requires.n_in_bounds in
    record { fits = omega (arith, r.few) }

pub copy_two-requires : goal.copy_two-requires
copy_two-requires c =
    let a = c.args in
    let r =
    room a.n c.bit_length-b.result a.e a.first a.x.now a.out.now c.bit_length-b.ensures c.requires.elements.2 c.requires.n_in_bounds in
    (r.outputs_fit, r.tests_fit)

pub returns : goal.returns
returns c =
    let a = c.args in
    let b = c.bit_length-b.result in
    rw (← c.bit_length-b.ensures)
    (c.copy_two.ensures
    ∙ ap₂ (λ (v w : ℕ). tabulate (λ i. members a.x.now (a.first + i)) (2 * b) ++ (v ∷ w ∷ []))
    (number_test_lem a.x.now 0 a.e a.factor b _ _ c.mul.ensures c.weighted_from-sum.ensures)
    (rest_test_lem a.x.now 0 a.e a.factor a.n b _ _ c.requires.elements.2.0 c.mul_add.ensures
    c.weighted_from-rest.ensures))
