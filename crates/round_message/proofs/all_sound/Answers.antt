-- `round_message::all_sound` meets its contract: the test of each place is the definition's (`every_of_range`). Assumes nothing.
use mathlib.Core.Path.{refl, ◌∙◌}
use native.Mathlib.Omega.{arith}
use Rattle.std.proofs.Common.{rules}
use Rattle.std.proofs.lemmas.Iterator.{YieldsList-from_range}
use Rattle.std.proofs.lemmas.Iterator.Search.{all_from_yields_List}
use Rattle.rules.specs.Settings.{document01}
use Rattle.rules.specs.Messages.{place_sound}
use Rattle.round_message.specs.Rounds.{code_of, all_sound}
use Rattle.round_message.proofs.Every.{every_of_range}
use Rattle.round_message.proofs.all_sound.Goals as goal

pub returns : goal.returns
unfolding all_sound
returns c =
    let a = c.args in
    let sound = place_sound document01 a.servers (code_of a.round) a.id a.own a.mine.now a.joined.now in
    all_from_yields_List sound _ _ c.all.result c.all.ensures.ran (YieldsList-from_range 0 a.servers a.servers refl (omega arith))
    (λ x b q k. search rules)
    ∙ every_of_range sound 0 a.servers
