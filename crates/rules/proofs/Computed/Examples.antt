-- The examples of document 01 come out: antt computes each row. Assumes nothing.
use mathlib.Core.Bool.{true}
use mathlib.Core.Path.{◌≡◌, refl}
use Rattle.algebra.specs.Lists.{every}
use Rattle.rules.specs.Examples.{marked, unmarked, circuits, taus}
use Rattle.rules.specs.CallExamples.{sizes, shelves, small_sheets}
use Rattle.rules.specs.TopExamples.{tops}
use Rattle.rules.specs.PointExamples.{points, lines}
use Rattle.rules.specs.SeedExamples.{seeds}
use Rattle.rules.proofs.Computed.Computing.{everything}

pub marked_hold : every (λ row. row.holds) marked ≡ true
unfolding everything marked
marked_hold = refl

pub unmarked_hold : every (λ row. row.holds) unmarked ≡ true
unfolding everything unmarked
unmarked_hold = refl

pub circuits_hold : every (λ row. row.holds) circuits ≡ true
unfolding everything circuits
circuits_hold = refl

pub sizes_hold : every (λ row. row.holds) sizes ≡ true
unfolding everything sizes
sizes_hold = refl

pub taus_hold : every (λ row. row.holds) taus ≡ true
unfolding everything taus
taus_hold = refl

pub shelves_hold : every (λ row. row.holds) shelves ≡ true
unfolding everything shelves
shelves_hold = refl

pub small_sheets_hold : every (λ row. row.holds) small_sheets ≡ true
unfolding everything small_sheets
small_sheets_hold = refl

pub tops_hold : every (λ row. row.holds) tops ≡ true
unfolding everything tops
tops_hold = refl

pub points_hold : every (λ row. row.holds) points ≡ true
unfolding everything points
points_hold = refl

pub lines_hold : every (λ row. row.holds) lines ≡ true
unfolding everything lines
lines_hold = refl

pub seeds_hold : every (λ row. row.holds) seeds ≡ true
unfolding everything seeds
seeds_hold = refl
