-- `chacha::double_round`: each quarter round starts from the state that the one before left. Assumes nothing.
use Rattle.std.proofs.Common.{refl}
use Rattle.chacha.specs.ChaCha.{columns, diagonals}
use Rattle.chacha.proofs.double_round.Goals as goal

pub returns : goal.returns
unfolding columns diagonals
returns c =
    rw (
      c.quarter_round-8.ensures,
      c.quarter_round-7.ensures,
      c.quarter_round-6.ensures,
      c.quarter_round-5.ensures,
      c.quarter_round-4.ensures,
      c.quarter_round-3.ensures,
      c.quarter_round-2.ensures,
      c.quarter_round.ensures,
    )
    refl
