-- `chacha::start`: the pieces of the state stand one after another (`state_written`). Assumes nothing.
use Rattle.std.proofs.Common.{arith}
use Rattle.chacha.proofs.States.{state_written}
use Rattle.chacha.proofs.start.Goals as goal

pub returns : goal.returns
returns c =
    rw (c.load-3.ensures, c.load-2.ensures, c.load.ensures)
    (state_written c.args.key.now c.args.nonce.now (omega (arith, c.requires)) (omega (arith, c.requires)) c.args.s.now
    (omega (arith, c.requires)))
