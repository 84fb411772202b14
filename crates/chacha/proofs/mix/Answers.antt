-- `chacha::mix`: its two stores are those of the step; the rotation is the library's (`rotated_left`). Assumes nothing.
use Rattle.std.proofs.Common.{refl, arith, ◌∙◌}
use Rattle.chacha.specs.Words.{plus, xor}
use Rattle.chacha.specs.ChaCha.{step}
use Rattle.chacha.proofs.Rotations.{rotated_left, word_xor}
use Rattle.chacha.proofs.mix.Goals as goal

pub returns : goal.returns
unfolding step plus xor
returns c =
    rw
    (c.rotate_left.ensures
    ∙ rotated_left _ c.args.n (word_xor c.args.s.now c.args.a c.args.d _ c.fits-s) (omega arith) (omega arith))
    refl
