-- `walk::two_number_tests` meets its contract: one number's tests, and the other's behind them. Assumes nothing.
use mathlib.Core.Path.{◌≡◌, sym, ap₂, ◌∙◌}
use mathlib.Core.List.{◌++◌}
use Prim.Native.Nat.{◌+◌}
use native.Mathlib.Numerals.{add-one}
use native.Mathlib.Omega.{arith}
use lib.ListN.{length, take, drop, length-drop}
use lib.Seq.{length-take-le}
use Rattle.walk.proofs.Storing.{length_rest, put_rest}
use Rattle.walk.proofs.two_number_tests.Goals as goal

pub slice_bounds-number_tests-end-2 : goal.slice_bounds-number_tests-end-2
slice_bounds-number_tests-end-2 c =
    let front_long : length (take (c.args.n + 1) c.args.out.now) ≡ c.args.n + 1 =
    length-take-le (c.args.n + 1) c.args.out.now (omega (arith, c.requires.3)) in sym front_long

pub number_tests-requires : goal.number_tests-requires
number_tests-requires c =
    let front_long : length (take (c.args.n + 1) c.args.out.now) ≡ c.args.n + 1 =
    length-take-le (c.args.n + 1) c.args.out.now (omega (arith, c.requires.3)) in (c.requires.0, omega (arith, c.requires.2), omega (arith, c.requires.1), omega (arith, c.requires.1), front_long ∙ add-one c.args.n)

pub number_tests-requires-2 : goal.number_tests-requires-2
number_tests-requires-2 c =
    let front_long : length (take (c.args.n + 1) c.args.out.now) ≡ c.args.n + 1 =
    length-take-le (c.args.n + 1) c.args.out.now (omega (arith, c.requires.3)) in let rest = drop (c.args.n + 1) c.args.out.now in
    let long = length_rest c.number_tests.new.out rest (c.args.n + 1)
    (c.number_tests.auto.out ∙ front_long) in (
      c.requires.0,
      omega (arith, c.requires.2),
      omega (arith, c.requires.1),
      omega (arith, c.requires.1),
      long ∙ length-drop (c.args.n + 1) c.args.out.now ∙ omega (arith, c.requires.3),
    )

pub returns : goal.returns
returns c =
    let front_long : length (take (c.args.n + 1) c.args.out.now) ≡ c.args.n + 1 =
    length-take-le (c.args.n + 1) c.args.out.now (omega (arith, c.requires.3)) in put_rest c.number_tests.new.out (drop (c.args.n + 1) c.args.out.now) (c.args.n + 1)
    (c.number_tests.auto.out ∙ front_long) _
    ∙ ap₂ ◌++◌ c.number_tests.ensures c.number_tests-2.ensures
