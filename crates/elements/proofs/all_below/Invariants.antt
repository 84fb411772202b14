-- The loop of `elements::all_below`: the answer is that of the numbers from the index on, where those before are all below,
-- else false.
use Rattle.std.proofs.Common.{◌≡◌, ◌&&◌, drop}
use Rattle.words.specs.Bytes.{all_below}
use Rattle.elements.proofs.all_below.Given as goal

abbrev pub invariant-loop-x : goal.invariant-loop-x
invariant-loop-x l = all_below l.bound l.xs ≡ (l.below && all_below l.bound (drop l.x-index l.xs))
