-- `share_checks::check_start` meets its contract: the stage is tested, then how many wait, then the sum (`start_closed` and so
-- on). The sum fits, since it is at most N. Assumes nothing.
use mathlib.Core.Logic.{inl, inr}
use Rattle.share_checks.proofs.Faults.{start_closed, start_eight, start_open, start_full}
use Rattle.share_checks.proofs.check_start.Goals as goal

pub returns-then-k : goal.returns-then-k
returns-then-k c =
    let a = c.args in
    elim c.then-k.either [ inl e ↦ start_closed a.k a.waiting e | inr e ↦ start_eight a.k a.waiting e.0 e.1 ]

pub returns-then-taken-k : goal.returns-then-taken-k
returns-then-taken-k c =
    let a = c.args in
    start_open a.k a.waiting c.if-k.false c.if-waiting-ge8.false c.if-taken-k.true

pub returns-else-taken-k : goal.returns-else-taken-k
returns-else-taken-k c =
    let a = c.args in
    start_full a.k a.waiting c.if-k.false c.if-waiting-ge8.false c.if-taken-k.false
