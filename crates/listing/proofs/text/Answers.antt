-- `listing::text` meets its contract: input that is cut is refused 12 (`text_cut_at`), other input is taken apart
-- (`text_joined_at`). Assumes nothing.
use native.Mathlib.Omega.{arith}
use Rattle.listing.proofs.Inputs.{lists, text_cut, text_cut_at, text_joined_at}
use Rattle.listing.proofs.Puts.{put_as}
use Rattle.listing.proofs.text.Goals as goal

pub returns-then-input-lt5 : goal.returns-then-input-lt5
returns-then-input-lt5 c =
    let input = c.args.input.now in
    let t = text_cut input (omega (arith, c.if-input-lt5.true)) in
    lists input _ _ _ (put_as c.put_refusal.ensures _ t)

pub returns-then-input-end : goal.returns-then-input-end
returns-then-input-end c =
    let input = c.args.input.now in
    let t = text_cut_at input c.read_u16-size.result c.read_u16-size.ensures c.if-input-end.true in
    lists input _ _ _ (put_as c.put_refusal-then-input-end.ensures _ t)

pub returns : goal.returns
returns c =
    let input = c.args.input.now in
    let t = text_joined_at input c.read_u16-size.result c.read_u16-size.ensures c.if-input-end.false in
    lists input _ _ _ (put_as c.put_joined.ensures _ (t _ _ c.from-servers.ensures c.read_u16-returns.ensures))
