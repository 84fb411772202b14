-- `totals_message::totals_sum` meets its contract: the elements k are words at equal steps (`total_sum`). Assumes nothing.
use mathlib.Core.Path.{◌∙◌}
use Rattle.totals_message.proofs.Totals.{total_sum, total_words}
use Rattle.totals_message.proofs.totals_sum.Goals as goal

pub sum_words-requires : goal.sum_words-requires
sum_words-requires c =
    let a = c.args in total_words a.servers a.published a.k a.joined.now c.requires

pub returns : goal.returns
returns c =
    let a = c.args in
    c.sum_words.ensures ∙ total_sum a.servers a.published a.k a.joined.now c.requires
