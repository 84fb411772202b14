-- `round_message::element` meets its contract: element k stands as a word at its place (`element_word`). Assumes nothing.
use mathlib.Core.Path.{sym, ◌∙◌}
use Rattle.round_message.proofs.Rounds.{element_word}
use Rattle.round_message.proofs.element.Goals as goal

pub returns : goal.returns
returns c =
    c.read_u32.ensures ∙ sym (element_word 34 c.args.k c.requires.1 c.args.joined.now c.args.i c.requires.0.long)
