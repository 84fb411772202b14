-- `whole::write_first` meets its contract: the header, then the elements behind it. Assumes nothing.
use native.Mathlib.Omega.{arith}
use Rattle.whole.proofs.FirstMessage.{first_written}
use Rattle.whole.proofs.write_first.Goals as goal

pub returns : goal.returns
returns c =
    rw (c.write.ensures, c.write_header.ensures)
    (first_written c.args.out.now c.args.id c.args.share.now (omega (arith, c.requires)))
