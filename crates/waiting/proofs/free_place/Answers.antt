-- `waiting::free_place` meets its contract: it is the position of the first free record (`place_is`). Assumes nothing.
use mathlib.Core.Path.{◌≡◌}
use native.Mathlib.Omega.{arith}
use Rattle.std.specs.Prelude.{position}
use Rattle.std.proofs.Common.{rules, tests}
use Rattle.std.proofs.lemmas.Iterator.{YieldsList-from_slice}
use Rattle.std.proofs.lemmas.Iterator.Search.{position_from_yields_List}
use Rattle.rules.specs.WaitingList.{is_free}
use Rattle.waiting.proofs.Places.{place_is}
use Rattle.waiting.proofs.free_place.Goals as goal

pub returns-clause-place : goal.returns-clause-place
returns-clause-place c =
    let e : c.position.result ≡ position is_free c.args.list
    = position_from_yields_List is_free _ _ c.position.result c.position.ensures.ran
    (YieldsList-from_slice c.args.list cc) (λ x b q k. search (rules, tests)) in
    place_is c.position.result is_free c.args.list e (omega arith)
