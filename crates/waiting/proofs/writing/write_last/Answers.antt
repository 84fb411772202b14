-- `waiting::writing::write_last` meets its contract: two numbers stored one by one are put there as a run (`sets_splice`).
-- Assumes nothing.
use mathlib.Core.List.{[], ◌∷◌}
use native.Mathlib.Numerals.{add-one}
use native.Mathlib.Omega.{arith}
use lib.ListN.{length-set}
use Rattle.words.proofs.Loops.{sets_splice}
use Rattle.waiting.proofs.writing.write_last.Goals as goal

pub bounds-numbers-at-2 : goal.bounds-numbers-at-2
bounds-numbers-at-2 c = simp length-set (omega arith)

pub returns : goal.returns
returns c =
    rw add-one
    (sets_splice c.args.numbers.now c.args.at (c.args.rh ∷ c.args.tau ∷ []) (omega arith))
