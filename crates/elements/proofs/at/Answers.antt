-- `elements::at`: element i lies within the run, so it is the number of its four bytes (`element_within`). Assumes nothing.
use mathlib.Core.Path.{sym, ◌∙◌}
use lib.Dec.{lit<}
use Rattle.words.proofs.Elements.{element_within}
use Rattle.elements.proofs.at.Goals as goal

pub returns : goal.returns
returns c = c.read_u32.ensures ∙ sym (element_within 4 (lit< tt) c.args.s.now c.args.i c.requires)
