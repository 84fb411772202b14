-- The loop of `elements::below`: the answer is that of the elements from number k on, where those before are all below,
-- else false.
use Rattle.std.proofs.Common.{◌≡◌, ◌&&◌, drop}
use Rattle.words.specs.Bytes.{elements_of, all_below}
use Rattle.elements.proofs.below.Given as goal

abbrev pub invariant-loop-k : goal.invariant-loop-k
invariant-loop-k l =
    all_below l.bound (elements_of 4 l.s) ≡ (l.below && all_below l.bound (drop l.k (elements_of 4 l.s)))
