-- `round_message::check_challenges` meets its contract: the test of each place is the definition's (`every_of_range`).
-- Assumes nothing.
use mathlib.Core.Path.{◌≡◌, refl, sym, ◌∙◌}
use native.Mathlib.Omega.{arith}
use Rattle.std.proofs.Common.{rules}
use Rattle.std.proofs.lemmas.Iterator.{YieldsList-from_range}
use Rattle.std.proofs.lemmas.Iterator.Search.{all_from_yields_List}
use Rattle.algebra.specs.Lists.{every, count_from}
use Rattle.rules.specs.Settings.{document01}
use Rattle.rules.specs.Messages.{same_pair, challenge_fault}
use Rattle.round_message.proofs.Every.{every_of_range}
use Rattle.round_message.proofs.check_challenges.Goals as goal
use Rattle.round_message.proofs.check_challenges.Goals.{After-all}

same_in_all : (c : After-all) → c.all.result ≡ every (same_pair document01 c.args.joined.now) (count_from 0 c.args.servers)
same_in_all c =
    let same = same_pair document01 c.args.joined.now in
    let n = c.args.servers in
    all_from_yields_List same _ _ c.all.result c.all.ensures.ran (YieldsList-from_range 0 n n refl (omega arith))
    (λ x b q k. search rules)
    ∙ every_of_range same 0 n

pub returns-then-all : goal.returns-then-all
unfolding challenge_fault
returns-then-all c = rw (sym (same_in_all (goal.at.returns-then-all c).After-all) ∙ c.if-all.true) refl

pub returns-else-all : goal.returns-else-all
unfolding challenge_fault
returns-else-all c = rw (sym (same_in_all (goal.at.returns-else-all c).After-all) ∙ c.if-all.false) refl
