-- `closing::drop` meets its contract: a sound table gives the reads and the writes their room, and the return that waits under
-- the id is decided (`drop_done`); else it is refused (`drop_unsound`, `drop_closed`, `drop_none`). Assumes nothing.
use mathlib.Core.Path.{◌≡◌, refl, sym, ap, ◌∙◌}
use mathlib.Core.Bool.{false}
use Prim.Native.Nat.{ℕ, ◌<◌}
use native.Mathlib.Omega.{arith}
use borrow.Author.Rules.{rules}
use lib.ListN.{get_or}
use Rattle.records.specs.Outcome.{refused}
use Rattle.records.specs.Refusals.{fault_of}
use Rattle.records.proofs.Refusals.{outcome_passed}
use Rattle.slots.specs.Slots.{free_slot}
use Rattle.rules.specs.WaitingList.{is_free, place_of}
use Rattle.waiting.specs.Changes.{lent}
use Rattle.table.proofs.Answers.{sound}
use Rattle.table.proofs.Stages.{not_free}
use Rattle.table.proofs.Decided.{placed}
use Rattle.closing.proofs.Dropping.{drop_unsound, drop_closed, drop_none, drop_done}
use Rattle.closing.proofs.drop.Goals as goal

pub returns-in_err-k : goal.returns-in_err-k
returns-in_err-k c =
    let a = c.args in
    drop_unsound (lent a.table.now a.list a.numbers.now) a.id _ (sym c.in_err-k.ensures) _ (outcome_passed _ _ c.from_residual.ensures.1)

pub returns-then-k : goal.returns-then-k
returns-then-k c =
    let a = c.args in
    let T = lent a.table.now a.list a.numbers.now in
    drop_closed T a.id c.in_ok-k.k (sound T c.in_ok-k.k (sym c.in_ok-k.ensures)) c.if-k.true

pub returns-in_err-at : goal.returns-in_err-at
returns-in_err-at c =
    let a = c.args in
    let T = lent a.table.now a.list a.numbers.now in
    let none = c.in_err-at.ensures.ok_part in
    drop_none T a.id c.in_ok-k.k (sound T c.in_ok-k.k (sym c.in_ok-k.ensures)) c.if-k.false 8 (rw none at c.place_of.ensures.place)
    (omega arith) _
    (outcome_passed _ _ c.from_residual-in_err-at.ensures.1
    ∙ ap (λ (n : ℕ). refused n) (ap fault_of (rw none at c.in_err-at.ensures.value)))

pub decide-requires : goal.decide-requires
decide-requires c =
    let a = c.args in
    let T = lent a.table.now a.list a.numbers.now in
    let k = c.in_ok-k.k in
    let sound_table = sound T k (sym c.in_ok-k.ensures) in
    let e : c.in_ok-at.at ≡ place_of a.id a.list = rw c.in_ok-at.ensures.ok_part at c.place_of.ensures.place in
    let few : c.in_ok-at.at < 8 = rw c.in_ok-at.ensures.ok_part at c.place_of.ensures.within in
    let taken : is_free (get_or a.list c.in_ok-at.at free_slot) ≡ false = rw e (not_free T k sound_table a.id (rw e at few)) in
    placed T k sound_table _ few taken _ refl 0 (search rules)

pub returns : goal.returns
returns c =
    let a = c.args in
    let T = lent a.table.now a.list a.numbers.now in
    let some = c.in_ok-at.ensures.ok_part in
    drop_done T a.id c.in_ok-k.k (sound T c.in_ok-k.k (sym c.in_ok-k.ensures)) c.if-k.false _ (rw some at c.place_of.ensures.place)
    (rw some at c.place_of.ensures.within) _ _ _ c.decide.ensures
