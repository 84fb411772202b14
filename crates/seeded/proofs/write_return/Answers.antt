-- `seeded::write_return` meets its contract: the whole list, less what the seeds give, in server 0's message, and the seed messages
-- behind that (`return_written`). Assumes nothing.
use mathlib.Core.Path.{◌≡◌, sym, ◌∙◌}
use native.Mathlib.Omega.{arith}
use lib.ListN.{length}
use lib.Seq.{length-take-le}
use Rattle.whole.proofs.Room.{room, sized, small}
use Rattle.seeded.proofs.Given.{fillable, whole_elements_lem, seeds_given, first_fits}
use Rattle.seeded.proofs.FirstShare.{return_written}
use Rattle.seeded.proofs.write_return.Goals as goal

pub share_size-size-requires : goal.share_size-size-requires
share_size-size-requires c =
    let m = room c.requires.counted in
    (m.entries_few, m.gates_few)

pub slice_bounds-buffer-end : goal.slice_bounds-buffer-end
slice_bounds-buffer-end c = omega (arith, small c.requires.counted _ c.share_size-size.ensures)

pub slice_bounds-w-end : goal.slice_bounds-w-end
slice_bounds-w-end c = sym (length-take-le _ _ (small c.requires.counted _ c.share_size-size.ensures))

pub fill_whole-requires : goal.fill_whole-requires
fill_whole-requires c =
    let e = c.share_size-size.ensures in
    fillable c.requires _ (length-take-le _ _ (small c.requires.counted _ e) ∙ sized c.requires.counted _ e)

pub take_seeds-requires : goal.take_seeds-requires
take_seeds-requires c =
    let l = c.fill_whole.auto.w ∙ length-take-le _ _ (small c.requires.counted _ c.share_size-size.ensures) in
    rw (l, c.fill_whole.ensures)
    (seeds_given c.requires, whole_elements_lem c.requires, small c.requires.counted _ c.share_size-size.ensures)

pub write_first-requires : goal.write_first-requires
write_first-requires c =
    let e = c.share_size-size.ensures in
    let l = length-take-le _ _ (small c.requires.counted _ e) ∙ sized c.requires.counted _ e in
    rw (c.take_seeds.auto.w ∙ c.fill_whole.auto.w ∙ l) (first_fits c.requires)

pub overflow_mul-size : goal.overflow_mul-size
overflow_mul-size c = omega (arith, small c.requires.counted _ c.share_size-size.ensures)

pub overflow_add-size : goal.overflow_add-size
overflow_add-size c = omega (arith, small c.requires.counted _ c.share_size-size.ensures)

pub write_seeds-requires : goal.write_seeds-requires
write_seeds-requires c =
    let m = c.requires in
    let e = c.share_size-size.ensures in
    (seeds_given m, omega (arith, small m.counted _ e), omega (arith, sized m.counted _ e, m.room, c.write_first.auto.out))

pub returns : goal.returns
returns c =
    let a = c.args in
    let e = c.share_size-size.ensures in
    let size_is = sized c.requires.counted _ e in
    let l : length c.fill_whole.new.w ≡ c.share_size-size.result
    = c.fill_whole.auto.w ∙ length-take-le _ _ (small c.requires.counted _ e) in
    rw (c.write_seeds.ensures, c.write_first.ensures, c.take_seeds.ensures, l, c.fill_whole.ensures, size_is)
    (return_written a.sheet.now a.out.now a.servers a.id a.values.now a.random.now a.seeds.now c.requires.four
    (first_fits c.requires))
