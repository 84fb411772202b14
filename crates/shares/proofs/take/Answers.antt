-- `shares::take` meets its contract: the place of the first free record lies within the run of numbers (`place`), so the elements
-- can be read into it and judged from there (`judgeable`), and what is written is what rules say (`taken`). Assumes nothing.
use native.Mathlib.Omega.{arith}
use Rattle.waiting.specs.Changes.{lent}
use Rattle.shares.proofs.Working.{place_found, is_found, within, small, brought, judgeable}
use Rattle.shares.proofs.Taken.{taken}
use Rattle.shares.proofs.take.Goals as goal

pub unwrap-at-requires : goal.unwrap-at-requires
unwrap-at-requires c =
    let a = c.args in
    is_found (lent a.table.now a.list a.numbers.now) a.k a.m.now a.x.now a.r a.s c.requires.0 _ c.free_place.ensures.place

pub overflow_mul-start : goal.overflow_mul-start
overflow_mul-start c =
    let a = c.args in
    let T = lent a.table.now a.list a.numbers.now in
    let place = place_found T a.k _ _ _ _ c.unwrap-at.ensures c.free_place.ensures.place c.place_size.ensures c.share_size-size.ensures in
    omega (arith, small T a.k a.m.now a.x.now a.r a.s c.requires.0 place)

pub overflow_add-end : goal.overflow_add-end
overflow_add-end c =
    let a = c.args in
    let T = lent a.table.now a.list a.numbers.now in
    let place = place_found T a.k _ _ _ _ c.unwrap-at.ensures c.free_place.ensures.place c.place_size.ensures c.share_size-size.ensures in
    omega (arith, small T a.k a.m.now a.x.now a.r a.s c.requires.0 place)

pub read_brought-requires : goal.read_brought-requires
read_brought-requires c =
    let a = c.args in
    let T = lent a.table.now a.list a.numbers.now in
    let place = place_found T a.k _ _ _ _ c.unwrap-at.ensures c.free_place.ensures.place c.place_size.ensures c.share_size-size.ensures in
    let fits = within T a.k a.m.now a.x.now a.r a.s c.requires.0 place in
    (brought T a.k a.m.now a.x.now a.r a.s c.requires.0 place, omega (arith, fits))

pub offset_bounds-numbers-start : goal.offset_bounds-numbers-start
offset_bounds-numbers-start c =
    let a = c.args in
    let T = lent a.table.now a.list a.numbers.now in
    let place = place_found T a.k _ _ _ _ c.unwrap-at.ensures c.free_place.ensures.place c.place_size.ensures c.share_size-size.ensures in
    omega (arith, small T a.k a.m.now a.x.now a.r a.s c.requires.0 place)

pub slice_bounds-judged-end : goal.slice_bounds-judged-end
slice_bounds-judged-end c =
    let a = c.args in
    let T = lent a.table.now a.list a.numbers.now in
    let place = place_found T a.k _ _ _ _ c.unwrap-at.ensures c.free_place.ensures.place c.place_size.ensures c.share_size-size.ensures in
    let fits = within T a.k a.m.now a.x.now a.r a.s c.requires.0 place in
    omega (arith, fits, c.read_brought.auto.numbers)

pub judged-j-requires : goal.judged-j-requires
judged-j-requires c =
    let a = c.args in
    let T = lent a.table.now a.list a.numbers.now in
    let place = place_found T a.k _ _ _ _ c.unwrap-at.ensures c.free_place.ensures.place c.place_size.ensures c.share_size-size.ensures in
    judgeable T a.k a.m.now a.x.now a.r a.s c.requires.0 place c.read_brought.new.numbers
    c.read_brought.ensures

pub write_last-requires : goal.write_last-requires
write_last-requires c =
    let a = c.args in
    let T = lent a.table.now a.list a.numbers.now in
    let place = place_found T a.k _ _ _ _ c.unwrap-at.ensures c.free_place.ensures.place c.place_size.ensures c.share_size-size.ensures in
    let fits = within T a.k a.m.now a.x.now a.r a.s c.requires.0 place in
    omega (arith, fits, c.read_brought.auto.numbers)

pub overflow_cast-k : goal.overflow_cast-k
overflow_cast-k c =
    omega (arith, c.requires.0.table.limited)

pub overflow_cast-r-2 : goal.overflow_cast-r-2
overflow_cast-r-2 c =
    omega (arith, c.requires.0.r_below)

pub overflow_cast-s-2 : goal.overflow_cast-s-2
overflow_cast-s-2 c =
    omega (arith, c.requires.0.s_below)

pub write_one-requires : goal.write_one-requires
write_one-requires c =
    c.requires.1

pub shape_of-numbers : goal.shape_of-numbers
shape_of-numbers c =
    omega (arith, c.write_last.auto.numbers, c.read_brought.auto.numbers)

pub returns : goal.returns
returns c =
    let a = c.args in
    let T = lent a.table.now a.list a.numbers.now in
    let place = place_found T a.k _ _ _ _ c.unwrap-at.ensures c.free_place.ensures.place c.place_size.ensures c.share_size-size.ensures in
    taken T a.k a.m.now a.x.now a.r a.s c.requires.0 place c.id_of-id.result c.id_of-id.ensures
    c.read_brought.new.numbers c.read_brought.ensures c.judged-j.result c.judged-j.ensures a.out.now c.write_last.new.numbers
    c.write_one.new.out c.records.result c.write_last.ensures c.write_one.ensures
    (rw (c.from.ensures, c.from-2.ensures) at c.records.ensures)
