-- `client::write_return` meets its contract: the whole list, server 0's message of it, and the others behind that
-- (`return_written`). Assumes nothing.
use mathlib.Core.Path.{sym, ◌∙◌}
use native.Mathlib.Omega.{arith}
use borrow.Author.Rules.{rules}
use lib.Seq.{length-take-le}
use Rattle.words.specs.Bytes.{elements_of}
use Rattle.rules.specs.Columns.{columns_of}
use Rattle.rules.specs.Making.{make_bytes}
use Rattle.whole.proofs.Room.{room, sized, small}
use Rattle.client.proofs.Given.{fillable, one_fits, share_asks, others_ask, all_bytes}
use Rattle.client.proofs.Messages.{return_written}
use Rattle.client.proofs.write_return.Goals as goal

pub share_size-size-requires : goal.share_size-size-requires
share_size-size-requires c =
    let m = room c.requires.counted in
    (m.entries_few, m.gates_few)

pub slice_bounds-buffer-end : goal.slice_bounds-buffer-end
slice_bounds-buffer-end c = omega (arith, small c.requires.counted _ c.share_size-size.ensures)

pub slice_bounds-w-end : goal.slice_bounds-w-end
slice_bounds-w-end c = sym (length-take-le _ _ (small c.requires.counted _ c.share_size-size.ensures))

pub fill_whole-requires : goal.fill_whole-requires
fill_whole-requires c =
    let e = c.share_size-size.ensures in
    fillable c.requires _ (length-take-le _ _ (small c.requires.counted _ e) ∙ sized c.requires.counted _ e)

pub take_shares-requires : goal.take_shares-requires
take_shares-requires c = rw c.fill_whole.ensures (share_asks c.requires)

pub write_first-requires : goal.write_first-requires
write_first-requires c =
    let e = c.share_size-size.ensures in
    let l = length-take-le _ _ (small c.requires.counted _ e) ∙ sized c.requires.counted _ e in
    rw (c.take_shares.auto.w ∙ c.fill_whole.auto.w ∙ l) (one_fits c.requires)

pub write_others-requires : goal.write_others-requires
write_others-requires c =
    let size_is = sized c.requires.counted _ c.share_size-size.ensures in
    others_ask c.requires c.share_size-size.result c.write_first.new.out size_is c.write_first.auto.out

pub returns : goal.returns
unfolding make_bytes
returns c =
    let a = c.args in
    let size_is = sized c.requires.counted _ c.share_size-size.ensures in
    rw (c.write_others.ensures, c.write_first.ensures, c.take_shares.ensures, c.fill_whole.ensures, size_is)
    (return_written (columns_of a.sheet.now) a.servers (elements_of 4 a.values.now) a.random.now c.requires.elements
    (all_bytes a.random.now (λ i. search rules)) a.out.now a.id (omega (arith, c.requires.some)) (one_fits c.requires))
