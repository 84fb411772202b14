-- `shares::share` meets its contract: an unsound table and a refusal leave all as it was (`share_unsound`, `share_refused_lem`);
-- a share that no check refuses is what taking asks for (`takable`), and what it writes is what rules say (`share_done`).
-- Assumes nothing.
use mathlib.Core.Path.{refl, sym}
use native.Mathlib.Omega.{arith}
use Rattle.waiting.specs.Changes.{lent}
use Rattle.table.proofs.Answers.{sound}
use Rattle.shares.proofs.Sharing.{standing, share_unsound, share_refused_lem, share_done, takable}
use Rattle.shares.proofs.share.Goals as goal

pub returns-in_err-k : goal.returns-in_err-k
returns-in_err-k c =
    let a = c.args in
    let T = lent a.table.now a.list a.numbers.now in
    share_unsound T a.m.now a.r a.s a.out.now _ _ c.from_residual.ensures.1 c.in_err-k.ensures

pub share_size-requires : goal.share_size-requires
share_size-requires c =
    let a = c.args in
    let s = sound (lent a.table.now a.list a.numbers.now) c.in_ok-k.k (sym c.in_ok-k.ensures) in
    s.limited

pub share_part-x-requires : goal.share_part-x-requires
share_part-x-requires c =
    let a = c.args in
    let s = sound (lent a.table.now a.list a.numbers.now) c.in_ok-k.k (sym c.in_ok-k.ensures) in
    omega (arith, c.share_size.ensures, s.limited)

pub check_share-requires : goal.check_share-requires
check_share-requires c =
    let a = c.args in
    let T = lent a.table.now a.list a.numbers.now in
    (standing T _ (sound T c.in_ok-k.k (sym c.in_ok-k.ensures)), rw c.share_size.ensures at c.share_part-x.ensures)

pub returns-in_err-check_share : goal.returns-in_err-check_share
returns-in_err-check_share c =
    let a = c.args in
    let T = lent a.table.now a.list a.numbers.now in
    share_refused_lem T a.m.now a.r a.s a.out.now _ (sound T c.in_ok-k.k (sym c.in_ok-k.ensures)) _ _
    c.from_residual-in_err-check_share.ensures.1 (c.in_err-check_share.ensures T.elements)

pub take-requires : goal.take-requires
take-requires c =
    let a = c.args in
    let T = lent a.table.now a.list a.numbers.now in
    takable T a.m.now a.r a.s a.out.now _ (sound T c.in_ok-k.k (sym c.in_ok-k.ensures)) 0 (c.in_ok-check_share.ensures T.elements) refl
    _ (rw c.share_size.ensures at c.share_part-x.ensures)

pub returns : goal.returns
returns c =
    let a = c.args in
    let T = lent a.table.now a.list a.numbers.now in
    share_done T a.m.now a.r a.s a.out.now _ (sound T c.in_ok-k.k (sym c.in_ok-k.ensures)) 0 (c.in_ok-check_share.ensures T.elements) refl
    c.take.result _ _ c.take.ensures
