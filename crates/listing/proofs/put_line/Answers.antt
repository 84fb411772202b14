-- `listing::put_line` meets its contract: three numbers, one after the other (`line_is`). Assumes nothing.
use native.Mathlib.Omega.{arith}
use Rattle.listing.proofs.Lines.{number_most, line_is}
use Rattle.listing.proofs.Puts.{put_on, put_as}
use Rattle.listing.proofs.put_line.Goals as goal

pub put_number-third-requires : goal.put_number-third-requires
put_number-third-requires c =
    let p = c.put_number-second.ensures in
    let l = number_most c.args.column 32 in
    omega arith

pub put_number-requires : goal.put_number-requires
put_number-requires c =
    let l = number_most c.args.column 32 in
    let m = number_most c.args.option 32 in
    omega (arith, c.put_number-second.ensures, c.put_number-third.ensures, c.requires)

pub returns : goal.returns
returns c =
    let a = c.args in
    let t = put_on (put_on c.put_number-second.ensures c.put_number-third.ensures) c.put_number.ensures in
    put_as t _ (line_is a.column a.option a.total)
