-- `walk::point_tests` meets its contract: the tests of the numbers, and two stores behind them. Assumes nothing.
use mathlib.Core.Path.{◌≡◌, sym, ap₂, ◌∙◌}
use mathlib.Core.List.{List, [], ◌∷◌, ◌++◌}
use Prim.Native.Nat.{ℕ, ◌+◌, ◌*◌}
use native.Mathlib.Omega.{arith}
use lib.ListN.{length, take, length-append, length-drop, length-set}
use lib.Seq.{length-take-le}
use Rattle.walk.proofs.Storing.{set_two}
use Rattle.walk.proofs.point_tests.Goals as goal

pub slice_bounds-two_number_tests-end-2 : goal.slice_bounds-two_number_tests-end-2
slice_bounds-two_number_tests-end-2 c =
    let front_long : length (take (2 * c.args.n + 2) c.args.out.now) ≡ 2 * c.args.n + 2 =
    length-take-le (2 * c.args.n + 2) c.args.out.now (omega (arith, c.requires.3)) in sym front_long

pub two_number_tests-requires : goal.two_number_tests-requires
two_number_tests-requires c =
    let front_long : length (take (2 * c.args.n + 2) c.args.out.now) ≡ 2 * c.args.n + 2 =
    length-take-le (2 * c.args.n + 2) c.args.out.now (omega (arith, c.requires.3)) in (c.requires.0, c.requires.1, omega (arith, c.requires.2), front_long)

pub product_test-requires-2 : goal.product_test-requires-2
product_test-requires-2 c =
    (c.requires.0, omega (arith, c.requires.2), omega (arith, c.requires.1))

pub bounds-out-numbers-2 : goal.bounds-out-numbers-2
bounds-out-numbers-2 c =
    let front_long : length (take (2 * c.args.n + 2) c.args.out.now) ≡ 2 * c.args.n + 2 =
    length-take-le (2 * c.args.n + 2) c.args.out.now (omega (arith, c.requires.3)) in let long = c.two_number_tests.auto.out ∙ front_long in
    simp (length-set, length-append, length-drop) (omega (arith, long, c.requires.3))

pub returns : goal.returns
returns c =
    let front_long : length (take (2 * c.args.n + 2) c.args.out.now) ≡ 2 * c.args.n + 2 =
    length-take-le (2 * c.args.n + 2) c.args.out.now (omega (arith, c.requires.3)) in let room : length c.args.out.now ≡ 2 * c.args.n + 2 + 2 = omega (arith, c.requires.3) in
    set_two c.two_number_tests.new.out c.args.out.now (2 * c.args.n + 2) _ _
    (c.two_number_tests.auto.out ∙ front_long) room
    ∙ ap₂ (λ (l m : List ℕ). l ++ m) c.two_number_tests.ensures
    (ap₂ (λ (u v : ℕ). u ∷ v ∷ []) c.product_test.ensures c.product_test-2.ensures)
