-- `seeds::fill_elements` meets its contract: the stream of the state that seed and nonce give (`streamed_seed`).
-- Assumes nothing.
use native.Mathlib.Omega.{arith}
use lib.ListN.{length}
use Rattle.seeds.proofs.Seeds.{nonce_written, streamed_seed}
use Rattle.seeds.proofs.fill_elements.Goals as goal

pub returns : goal.returns
returns c =
    rw (c.fill.ensures, c.start.ensures, c.write_u32.ensures, nonce_written)
    (streamed_seed c.args.seed.now c.args.id (omega (arith, c.requires)) (length c.args.out.now))
