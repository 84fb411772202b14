-- `client::check_make` meets its contract: each answer is that of the first check that fails (`Refusals`).
-- Assumes nothing.
use mathlib.Core.Path.{sym, ◌∙◌, ap}
use Prim.Native.Nat.{ℕ, ◌+◌, ◌*◌}
use native.Mathlib.Omega.{arith}
use Rattle.records.proofs.Refusals.{outcome_passed}
use Rattle.whole.proofs.Room.{room, sized, small}
use Rattle.whole.proofs.Refusals.{within_limits}
use Rattle.client.specs.Pieces.{random_fault_at}
use Rattle.client.proofs.Refusals.{by_early, by_random, by_room, by_none, messages_small}
use Rattle.client.proofs.check_make.Goals as goal

pub returns-in_err-check_early : goal.returns-in_err-check_early
returns-in_err-check_early c =
    outcome_passed _ _ c.from_residual.ensures.1
    ∙ by_early _ _ _ _ _ c.requires.is_read _ c.in_err-check_early.ensures

pub share_size-size-requires : goal.share_size-size-requires
share_size-size-requires c =
    let m = room c.requires in
    (m.entries_few, m.gates_few)

pub check_random-requires : goal.check_random-requires
check_random-requires c =
    let l = within_limits _ _ (sym c.in_ok-check_early.ensures) in
    record { some = l.0; few = l.1; small = small c.requires _ c.share_size-size.ensures }

-- the elements of a share are as many as the sheet says
pub returns-in_err-check_random : goal.returns-in_err-check_random
returns-in_err-check_random c =
    let a = c.args in
    let size_is = sized c.requires _ c.share_size-size.ensures in
    let e = c.in_err-check_random.ensures ∙ ap (λ (n : ℕ). random_fault_at a.servers n a.random.now) size_is in
    outcome_passed _ _ c.from_residual-in_err-check_random.ensures.1
    ∙ by_random _ _ _ _ _ c.requires.is_read c.in_ok-check_early.ensures _ e

pub overflow_mul-bytes : goal.overflow_mul-bytes
overflow_mul-bytes c = omega (arith, small c.requires _ c.share_size-size.ensures)

pub overflow_add-bytes : goal.overflow_add-bytes
overflow_add-bytes c = omega (arith, small c.requires _ c.share_size-size.ensures)

pub overflow_mul-bytes-2 : goal.overflow_mul-bytes-2
overflow_mul-bytes-2 c =
    let l = within_limits c.args.servers _ (sym c.in_ok-check_early.ensures) in
    let h = small c.requires _ c.share_size-size.ensures in
    omega (arith, messages_small c.args.servers c.share_size-size.result l.1 h)

pub returns-then-room-bytes : goal.returns-then-room-bytes
returns-then-room-bytes c =
    let a = c.args in
    let size_is = sized c.requires _ c.share_size-size.ensures in
    let e = c.in_ok-check_random.ensures ∙ ap (λ (n : ℕ). random_fault_at a.servers n a.random.now) size_is in
    by_room _ _ _ _ _ c.requires.is_read c.in_ok-check_early.ensures e (rw size_is at c.if-room-bytes.true)

pub returns : goal.returns
returns c =
    let a = c.args in
    let size_is = sized c.requires _ c.share_size-size.ensures in
    let e = c.in_ok-check_random.ensures ∙ ap (λ (n : ℕ). random_fault_at a.servers n a.random.now) size_is in
    by_none _ _ _ _ _ c.requires.is_read c.in_ok-check_early.ensures e _ (rw size_is at c.if-room-bytes.false)
    (ap (λ (n : ℕ). a.servers * (6 + 4 * n)) size_is)
