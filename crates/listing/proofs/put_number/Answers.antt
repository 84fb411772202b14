-- `listing::put_number` meets its contract: the digits, then the byte behind them. Assumes nothing.
use native.Mathlib.Omega.{arith}
use Rattle.listing.proofs.Decimals.{decimal_most}
use Rattle.listing.proofs.Puts.{put_byte, put_on}
use Rattle.listing.proofs.put_number.Goals as goal

pub bounds-out-end : goal.bounds-out-end
bounds-out-end c =
    let p = c.put_decimal-end.ensures in
    let l = decimal_most c.args.n in
    omega arith

pub returns : goal.returns
returns c =
    let d = c.put_decimal-end in
    let a = c.args in
    let l = decimal_most a.n in
    put_on d.ensures (put_byte d.new.out d.result a.after (omega (arith, d.ensures)))
