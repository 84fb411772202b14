-- `client::shares::write_other` meets its contract: the header, then the part of the random bytes. Assumes nothing.
use mathlib.Core.Path.{refl}
use native.Mathlib.Omega.{arith}
use Rattle.client.proofs.Writing.{other_written}
use Rattle.client.proofs.shares.write_other.Goals as goal

pub returns : goal.returns
returns c =
    rw (c.copy.ensures, c.write_header.ensures)
    (other_written c.args.out.now c.args.random.now _ c.args.size c.args.id c.args.j _
    (omega (arith, c.requires.room)) refl)
