-- The loop of `elements::write`: the first i elements are put there.
use Rattle.std.proofs.Common.{◌≡◌, take}
use Rattle.words.specs.Bytes.{bytes_of_all, splice}
use Rattle.elements.proofs.write.Given as goal

abbrev pub invariant-loop-i : goal.invariant-loop-i
invariant-loop-i l = l.s ≡ splice l.initial.s l.at (bytes_of_all 4 (take l.i l.xs))
