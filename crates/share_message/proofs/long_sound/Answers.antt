-- `share_message::long_sound` meets its contract: the length decides, or the kind byte does. Assumes nothing.
use mathlib.Core.Path.{refl}
use borrow.Author.Tests.{eq-eqb, ne_eqb}
use Rattle.share_message.specs.Shares.{long_sound}
use Rattle.share_message.proofs.long_sound.Goals as goal

pub returns-then-m-size : goal.returns-then-m-size
unfolding long_sound
returns-then-m-size c = rw (eq-eqb _ _ c.if-m-size.true) refl

pub returns-else-m-size : goal.returns-else-m-size
unfolding long_sound
returns-else-m-size c = rw (ne_eqb _ _ c.if-m-size.false)
