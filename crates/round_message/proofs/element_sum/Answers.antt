-- `round_message::element_sum` meets its contract: the elements k are words at equal steps (`element_sum_lem`). Assumes nothing.
use mathlib.Core.Path.{◌∙◌}
use Rattle.round_message.specs.Rounds.{code_of}
use Rattle.round_message.proofs.Rounds.{element_sum_lem, element_words}
use Rattle.round_message.proofs.element_sum.Goals as goal

pub sum_words-requires : goal.sum_words-requires
sum_words-requires c =
    rw c.length.ensures
    (element_words (code_of c.args.round) c.args.k c.requires.1 c.args.servers c.args.joined.now c.requires.0)

pub returns : goal.returns
returns c =
    c.sum_words.ensures
    ∙ rw c.length.ensures
    (element_sum_lem (code_of c.args.round) c.args.k c.requires.1 c.args.servers c.args.joined.now c.requires.0)
