-- `entering::enter` meets its contract: the return that is named is one whose published entries can be added and that can be decided
-- (`enter_adds`, `enter_placed`, `enter_done`); where none is named it is refused (`enter_unnamed`). Assumes nothing.
use Rattle.waiting.specs.Changes.{lent}
use Rattle.rounds.proofs.Holding.{in_run}
use Rattle.rounds.proofs.Naming.{names}
use Rattle.entering.proofs.Entering.{enter_unnamed, enter_adds, enter_placed, enter_done}
use borrow.Author.Rules.{rules}
use Rattle.entering.proofs.enter.Goals as goal

pub returns-in_err-named : goal.returns-in_err-named
returns-in_err-named c =
    let a = c.args in
    enter_unnamed (lent a.table.now a.list a.numbers.now) a.id _ _ c.from_residual.ensures.1 c.in_err-named.ensures

pub share_at-requires : goal.share_at-requires
share_at-requires c =
    let a = c.args in
    let T = lent a.table.now a.list a.numbers.now in
    let n = names T a.id 3 c.in_ok-named.named c.in_ok-named.ensures in
    in_run T _ _ n.waits

pub add_published-requires : goal.add_published-requires
add_published-requires c =
    let a = c.args in
    let T = lent a.table.now a.list a.numbers.now in
    let n = names T a.id 3 c.in_ok-named.named c.in_ok-named.ensures in
    enter_adds T a.id _ n _ c.share_at.ensures

pub decide-requires : goal.decide-requires
decide-requires c =
    let a = c.args in
    let T = lent a.table.now a.list a.numbers.now in
    let n = names T a.id 3 c.in_ok-named.named c.in_ok-named.ensures in
    enter_placed T a.id _ n _ c.share_at.ensures _ (search rules)

pub returns : goal.returns
returns c =
    let a = c.args in
    let T = lent a.table.now a.list a.numbers.now in
    let n = names T a.id 3 c.in_ok-named.named c.in_ok-named.ensures in
    enter_done T a.id _ n _ c.share_at.ensures _ _ _ (rw c.add_published.ensures at c.decide.ensures)
