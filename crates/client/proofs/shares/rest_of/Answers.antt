-- `client::shares::rest_of` meets its contract: the words lie within the random bytes and are elements (`random_words`).
-- Assumes nothing.
use Rattle.steps.proofs.Words.{sum_element}
use Rattle.client.specs.Pieces.{rest_of}
use Rattle.client.proofs.RandomWords.{random_words}
use Rattle.client.proofs.shares.rest_of.Goals as goal

pub sum_words-requires : goal.sum_words-requires
sum_words-requires c = random_words c.requires.0 c.args.e c.requires.1

pub sub-requires : goal.sub-requires
sub-requires c = (c.requires.2, rw c.sum_words.ensures (sum_element _ _ _ _))

pub returns : goal.returns
unfolding rest_of
returns c = rw (c.sub.ensures, c.sum_words.ensures)
