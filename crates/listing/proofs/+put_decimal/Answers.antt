-- `listing::put_decimal` meets its contract: the digits of the tenth, then one more, are the number's (`decimal_more`).
-- Assumes nothing.
use Prim.Native.Nat.{◌<◌}
use native.Mathlib.Omega.{arith}
use Rattle.listing.proofs.Decimals.{decimal_one, decimal_more, tenth_most}
use Rattle.listing.proofs.Puts.{put_byte, put_on, put_as}
use Rattle.listing.proofs.+put_decimal.Goals as goal

pub returns-then-n-lt10 : goal.returns-then-n-lt10
returns-then-n-lt10 t c =
    let a = c.args in
    let d = put_byte a.out.now a.at c.digit.result (omega (arith, c.requires)) in
    put_as d _ (rw c.digit.ensures (decimal_one a.n c.if-n-lt10.true))

pub bounds-out-last : goal.bounds-out-last
bounds-out-last t c =
    let p = c.put_decimal-last.ensures in
    let l = tenth_most c.args.n c.if-n-lt10.false (omega (arith, c.ranges.n)) in
    omega (arith, p.behind, p.same, c.requires)

pub returns : goal.returns
returns t c =
    let n = c.args.n in
    let p = c.put_decimal-last.ensures in
    let h = c.if-n-lt10.false in
    let small : n < 4294967296 = omega (arith, c.ranges.n) in
    let l = tenth_most n h small in
    let q = c.put_decimal-last in
    let d = put_byte q.new.out q.result c.digit-2.result (omega (arith, p.behind, p.same, c.requires)) in
    put_as (put_on p d) _ (rw c.digit-2.ensures (decimal_more n h small))
