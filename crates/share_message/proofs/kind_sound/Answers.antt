-- `share_message::kind_sound` meets its contract: the kind byte chooses, in the code as in the definition. Assumes nothing.
use mathlib.Core.Path.{sym, ◌∙◌}
use Rattle.share_message.specs.Shares.{kind_sound_at}
use Rattle.share_message.proofs.kind_sound.Goals as goal

pub returns-then-brings_seed : goal.returns-then-brings_seed
unfolding kind_sound_at
returns-then-brings_seed c = rw (sym c.brings_seed.ensures ∙ c.if-brings_seed.true) c.seed_sound.ensures

pub returns-else-brings_seed : goal.returns-else-brings_seed
unfolding kind_sound_at
returns-else-brings_seed c = rw (sym c.brings_seed.ensures ∙ c.if-brings_seed.false) c.long_sound.ensures
