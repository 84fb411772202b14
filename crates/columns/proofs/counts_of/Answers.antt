-- `columns::counts_of`: each arm is one case of the counts. Assumes nothing.
use mathlib.Core.Path.{refl}
use native.Mathlib.Numerals.{add-one}
use native.Mathlib.Omega.{arith}
use Rattle.rules.specs.Columns.{entries_of, published_of}
use Rattle.rules.specs.Circuit.{constants_of, gates_of, products_at, products_of, tests_of}
use Rattle.rules.proofs.Circuits.BitLength.{bit_length_lem}
use Rattle.columns.proofs.Taken.{counts_one}
use Rattle.columns.proofs.counts_of.Goals as goal

pub top_counts-requires : goal.top_counts-requires
top_counts-requires c =
    let l = rw c.in-Top.is at c.requires in
    let b = bit_length_lem _ l.0 l.1 in
    let e = c.bit_length.ensures in
    (omega (arith, e, b.bits_most), e)

pub returns-in-YesNo : goal.returns-in-YesNo
unfolding entries_of published_of constants_of gates_of products_of products_at tests_of
returns-in-YesNo c = let l = c.largest_of-largest.ensures in rw (counts_one _, l, c.in-YesNo.is) refl

pub returns-in-Choice : goal.returns-in-Choice
unfolding entries_of published_of constants_of gates_of products_of products_at tests_of
returns-in-Choice c = let l = c.largest_of-largest.ensures in rw (counts_one _, l, c.in-Choice.is) refl

pub returns-in-Number : goal.returns-in-Number
unfolding entries_of published_of constants_of gates_of products_of products_at tests_of
returns-in-Number c = let l = c.largest_of-largest.ensures in rw (counts_one _, l, c.in-Number.is, add-one) refl
