-- The RFC's test vectors come out: antt computes each row. Assumes nothing.
use Rattle.std.proofs.Common.{◌≡◌, true, refl}
use Rattle.algebra.specs.Lists.{every}
use Rattle.chacha.specs.Vectors.{vectors}
use Rattle.chacha.proofs.Computing.{chacha20}

pub vectors_hold : every (λ row. row.holds) vectors ≡ true
unfolding chacha20 vectors every
vectors_hold = refl
