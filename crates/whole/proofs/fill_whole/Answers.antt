-- `whole::fill_whole` meets its contract: the pieces are put into the parts of the list (`pieces`). Assumes nothing.
use native.Mathlib.Omega.{arith}
use Rattle.rules.specs.Columns.{columns_of}
use Rattle.whole.specs.Pieces.{h_values}
use Rattle.whole.proofs.Room.{room}
use Rattle.whole.proofs.Legality.{legal_values_lem, fits, below, encodes, holds_entries, length_entries, entries_given}
use Rattle.whole.proofs.Filling.{pieces}
use Rattle.whole.proofs.fill_whole.Goals as goal

pub split_at_mut-x-requires : goal.split_at_mut-x-requires
split_at_mut-x-requires c = omega (arith, fits c.requires)

pub split_at_mut-free-requires : goal.split_at_mut-free-requires
split_at_mut-free-requires c = omega (arith, fits c.requires)

pub overflow_mul-counts : goal.overflow_mul-counts
overflow_mul-counts c = omega (arith, (room c.requires.counted).gates_few)

pub overflow_add-counts : goal.overflow_add-counts
overflow_add-counts c = omega (arith, (room c.requires.counted).gates_few)

pub split_at_mut-h-requires : goal.split_at_mut-h-requires
split_at_mut-h-requires c = omega (arith, fits c.requires)

pub encode_columns-requires : goal.encode_columns-requires
encode_columns-requires c = encodes c.requires _ c.split_at_mut-x.ensures.front_len

-- the first part holds the entries then
pub fill_h-requires-clause-entries : goal.fill_h-requires-clause-entries
fill_h-requires-clause-entries c =
    let p = c.requires in
    let given = holds_entries p _ c.split_at_mut-x.ensures.front_len c.encode_columns.ensures in
    (rw given (entries_given (legal_values_lem p)), rw c.at-u.ensures (below p 0), rw c.at-v.ensures (below p 1))

pub mul-requires : goal.mul-requires
mul-requires c = let p = c.requires in (rw c.at-a.ensures (below p 2), rw c.at-b.ensures (below p 3))

pub copy_from_slice-requires-2 : goal.copy_from_slice-requires-2
copy_from_slice-requires-2 c = omega (arith, fits c.requires)

pub returns : goal.returns
unfolding h_values
returns c =
    let p = c.requires in
    let given = holds_entries p _ c.split_at_mut-x.ensures.front_len c.encode_columns.ensures in
    rw (c.copy_from_slice.ensures.after, c.copy_from_slice-2.ensures.after, c.fill_h.ensures, given, c.mul.ensures, c.at-u.ensures, c.at-v.ensures, c.at-a.ensures, c.at-b.ensures)
    (pieces (columns_of c.args.sheet.now) _ (length_entries (legal_values_lem p)) _ _ _ _)
