-- `closing::close` meets its contract: a sound table gives the message its totals and the buffer's test its room
-- (`close_done`); else it is refused (`close_unsound`, `close_closed`, `close_waits`, `close_few`, `close_narrow`). Assumes nothing.
use mathlib.Core.Path.{sym}
use Prim.Native.Nat.{◌<◌}
use native.Mathlib.Omega.{arith}
use borrow.Author.Rules.{rules}
use Rattle.algebra.specs.Lists.{All}
use Rattle.algebra.proofs.Members.{get_d_all}
use Rattle.records.proofs.Refusals.{outcome_passed}
use Rattle.waiting.specs.Changes.{lent}
use Rattle.table.specs.Reading.{Sound}
use Rattle.table.proofs.Answers.{sound}
use Rattle.closing.proofs.Closing.{close_unsound, close_closed, close_waits, close_few, close_narrow, close_closes, close_done}
use Rattle.closing.proofs.close.Goals as goal
use Rattle.closing.proofs.close.Goals.{In_ok-k, then-k-via-then-k, then-k-via-else-k+then-count-ne0}

-- the table that is read is sound
read : (c : In_ok-k) → Sound (lent c.args.table.now c.args.list c.args.numbers.now) c.in_ok-k.k
read c = sound (lent c.args.table.now c.args.list c.args.numbers.now) c.in_ok-k.k (sym c.in_ok-k.ensures)

pub returns-in_err-k : goal.returns-in_err-k
returns-in_err-k c =
    let a = c.args in
    close_unsound (lent a.table.now a.list a.numbers.now) a.out.now _ (sym c.in_err-k.ensures) _
    (outcome_passed _ _ c.from_residual.ensures.1)

pub returns-then-k : goal.returns-then-k
returns-then-k c =
    let a = c.args in
    let T = lent a.table.now a.list a.numbers.now in
    let s = read (goal.at.returns-then-k c).In_ok-k in
    elim c.then-k.branch [
      | then-k-via-then-k w ↦ close_closed T a.out.now c.in_ok-k.k s w.if-k.true
      | then-k-via-else-k+then-count-ne0 w ↦
          close_waits T a.out.now c.in_ok-k.k s w.if-k.false _ w.count.ensures w.if-count-ne0.true
    ]

pub returns-then-k-2 : goal.returns-then-k-2
returns-then-k-2 c =
    let a = c.args in
    close_few (lent a.table.now a.list a.numbers.now) a.out.now c.in_ok-k.k (read (goal.at.returns-then-k-2 c).In_ok-k)
    c.if-k.false _ c.count.ensures c.if-count-ne0.false c.if-k-2.true

pub overflow_mul-size : goal.overflow_mul-size
overflow_mul-size c = let s = read (goal.at.overflow_mul-size c).In_ok-k in omega (arith, s.limited.published_most)

pub overflow_add-size : goal.overflow_add-size
overflow_add-size c = let s = read (goal.at.overflow_add-size c).In_ok-k in omega (arith, s.limited.published_most)

pub returns-then-out-size : goal.returns-then-out-size
returns-then-out-size c =
    let a = c.args in
    close_narrow (lent a.table.now a.list a.numbers.now) a.out.now c.in_ok-k.k (read (goal.at.returns-then-out-size c).In_ok-k)
    c.if-k.false _ c.count.ensures c.if-count-ne0.false c.if-k-2.false c.if-out-size.true

pub write_closing-requires : goal.write_closing-requires
write_closing-requires c =
    let a = c.args in
    close_closes (lent a.table.now a.list a.numbers.now) a.out.now c.in_ok-k.k (read (goal.at.write_closing-requires c).In_ok-k)
    c.if-out-size.false

pub bounds-table-1 : goal.bounds-table-1
bounds-table-1 c = let s = read (goal.at.bounds-table-1 c).In_ok-k in omega (arith, s.long)

pub returns : goal.returns
returns c =
    let a = c.args in
    let each : All (λ b. b < 256) a.table.now = get_d_all {P = λ b. b < 256} 0 a.table.now (λ i h. search rules) in
    rw c.write_closing.ensures
    (close_done (lent a.table.now a.list a.numbers.now) a.out.now c.in_ok-k.k (read (goal.at.returns c).In_ok-k)
    c.if-k.false _ c.count.ensures c.if-count-ne0.false c.if-k-2.false c.if-out-size.false each)
