-- `share_message::seed_sound` meets its contract: the length decides, or the server does. Assumes nothing.
use mathlib.Core.Path.{refl}
use borrow.Author.Tests.{eq-eqb, ne_eqb}
use Rattle.share_message.specs.Shares.{seed_sound}
use Rattle.share_message.proofs.seed_sound.Goals as goal

pub returns-then-m-eq-SEED_LENGTH : goal.returns-then-m-eq-SEED_LENGTH
unfolding seed_sound
returns-then-m-eq-SEED_LENGTH c = rw (eq-eqb _ _ c.if-m-eq-SEED_LENGTH.true) refl

pub returns-else-m-eq-SEED_LENGTH : goal.returns-else-m-eq-SEED_LENGTH
unfolding seed_sound
returns-else-m-eq-SEED_LENGTH c = rw (ne_eqb _ _ c.if-m-eq-SEED_LENGTH.false) refl
