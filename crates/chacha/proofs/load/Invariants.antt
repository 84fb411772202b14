-- The loop of `chacha::load`: the first i words are put there.
use Rattle.std.proofs.Common.{◌≡◌, length, take}
use Rattle.words.specs.Bytes.{splice, elements_of}
use Rattle.chacha.proofs.load.Given as goal

abbrev pub invariant-loop-i : goal.invariant-loop-i
invariant-loop-i l =
    (l.s ≡ splice l.initial.s l.at (take l.i (elements_of 4 l.b))) × (length l.s ≡ length l.initial.s)
