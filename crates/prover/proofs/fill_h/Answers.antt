-- `prover::fill_h` meets its contract: with the tables that it makes. Assumes nothing.
use mathlib.Core.Path.{sym, ◌∙◌}
use lib.Seq.{length-take-le}
use Rattle.prover.proofs.HRoom.{room, odd}
use Rattle.prover.proofs.fill_h.Goals as goal

pub slice_bounds-weights-end : goal.slice_bounds-weights-end
slice_bounds-weights-end c = (room c.requires.entries.0 c.requires.out_len).some_more

pub slice_bounds-weights-end-2 : goal.slice_bounds-weights-end-2
slice_bounds-weights-end-2 c = sym (length-take-le _ _ (room c.requires.entries.0 c.requires.out_len).some_more)

pub slice_bounds-falls-end : goal.slice_bounds-falls-end
slice_bounds-falls-end c = (room c.requires.entries.0 c.requires.out_len).few

pub slice_bounds-falls-end-2 : goal.slice_bounds-falls-end-2
slice_bounds-falls-end-2 c = sym (length-take-le _ _ (room c.requires.entries.0 c.requires.out_len).few)

pub slice_bounds-back-end : goal.slice_bounds-back-end
slice_bounds-back-end c = (room c.requires.entries.0 c.requires.out_len).twice

pub slice_bounds-back-end-2 : goal.slice_bounds-back-end-2
slice_bounds-back-end-2 c = sym (length-take-le _ _ (room c.requires.entries.0 c.requires.out_len).twice)

pub fill_with-requires-clause-degree : goal.fill_with-requires-clause-degree
fill_with-requires-clause-degree c =
    let r = room c.requires.entries.0 c.requires.out_len in
    let l = c.fill_tables.auto.falls ∙ length-take-le _ _ r.few in
    (l ∙ r.half, odd c.requires.out_len (l ∙ r.half))
