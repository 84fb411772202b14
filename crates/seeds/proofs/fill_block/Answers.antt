-- `seeds::fill_block` meets its contract: the elements of the words that the block function gives. Assumes nothing.
use Rattle.seeds.proofs.fill_block.Goals as goal

pub returns : goal.returns
returns c = rw (c.reduce.ensures, c.block.ensures)
