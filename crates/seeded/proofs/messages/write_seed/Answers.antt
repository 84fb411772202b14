-- `seeded::messages::write_seed` meets its contract: the header, then the seed behind it. Assumes nothing.
use mathlib.Core.Path.{refl}
use native.Mathlib.Omega.{arith}
use Rattle.seeded.proofs.Writing.{seed_written}
use Rattle.seeded.proofs.messages.write_seed.Goals as goal

pub returns : goal.returns
returns c =
    rw (c.copy.ensures, c.write_header.ensures)
    (seed_written c.args.out.now c.args.seeds.now _ c.args.id c.args.j _ (omega (arith, c.requires.room)) refl)
