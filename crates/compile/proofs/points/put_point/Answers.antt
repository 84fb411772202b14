-- `compile::points::put_point` meets its contract: the four entries, then the checks. Assumes nothing.
use mathlib.Core.Path.{refl}
use native.Mathlib.Omega.{arith}
use borrow.Author.Rules.{rules}
use Rattle.rules.specs.Circuit.{step_bytes}
use Rattle.compile.proofs.Puts.{put_on, put_as}
use Rattle.compile.proofs.Columns.{point_is, point_size}
use Rattle.compile.proofs.points.put_point.Goals as goal

pub put_one-square-requires : goal.put_one-square-requires
put_one-square-requires c = let z = point_size c.args.n in search rules

pub put_one-second-requires : goal.put_one-second-requires
put_one-second-requires c =
    let z = point_size c.args.n in
    search rules

pub put_one-product-requires : goal.put_one-product-requires
put_one-product-requires c =
    let z = point_size c.args.n in
    search rules

pub put_one-checks-requires : goal.put_one-checks-requires
put_one-checks-requires c =
    let z = point_size c.args.n in
    search rules

pub put_point_checks-requires : goal.put_point_checks-requires
put_point_checks-requires c =
    let e1 = c.put_one-square.ensures in
    let e2 = c.put_one-second.ensures in
    let e3 = c.put_one-product.ensures in
    let e4 = c.put_one-checks.ensures in (
      omega (
        arith,
        c.requires.0,
        point_size c.args.n,
        e1.behind,
        e1.same,
        e2.behind,
        e2.same,
        e3.behind,
        e3.same,
        e4.behind,
        e4.same,
      ),
      c.requires.1,
      c.requires.2,
      c.requires.3,
      omega (arith, c.requires),
    )

pub returns : goal.returns
unfolding step_bytes
returns c =
    let a = c.args in
    put_as
    (put_on
    (put_on (put_on (put_on c.put_one-square.ensures c.put_one-second.ensures) c.put_one-product.ensures) c.put_one-checks.ensures)
    c.put_point_checks.ensures)
    _ _ _ (omega (arith, point_size a.n)) (point_is a.n a.e a.w) refl
