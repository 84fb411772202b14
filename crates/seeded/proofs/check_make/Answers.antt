-- `seeded::check_make` meets its contract: each answer is that of the first check that fails (`Refusals`).
-- Assumes nothing.
use mathlib.Core.Path.{sym, ◌∙◌, ap}
use Prim.Native.Nat.{ℕ, ◌+◌, ◌-◌, ◌*◌}
use native.Mathlib.Omega.{arith}
use Rattle.records.proofs.Refusals.{outcome_passed}
use Rattle.whole.proofs.Room.{room, sized, small}
use Rattle.whole.proofs.Refusals.{within_limits}
use Rattle.seeded.proofs.Refusals.{by_early, by_seeds, by_room, by_none}
use Rattle.seeded.proofs.check_make.Goals as goal

pub returns-in_err-check_early : goal.returns-in_err-check_early
returns-in_err-check_early c =
    outcome_passed _ _ c.from_residual.ensures.1
    ∙ by_early _ _ _ _ _ _ c.requires.is_read _ c.in_err-check_early.ensures

pub share_size-size-requires : goal.share_size-size-requires
share_size-size-requires c =
    let m = room c.requires in
    (m.entries_few, m.gates_few)

pub check_seeds-requires : goal.check_seeds-requires
check_seeds-requires c = within_limits _ _ (sym c.in_ok-check_early.ensures)

pub returns-in_err-check_seeds : goal.returns-in_err-check_seeds
returns-in_err-check_seeds c =
    outcome_passed _ _ c.from_residual-in_err-check_seeds.ensures.1
    ∙ by_seeds _ _ _ _ _ _ c.requires.is_read c.in_ok-check_early.ensures _ c.in_err-check_seeds.ensures

pub overflow_mul-bytes : goal.overflow_mul-bytes
overflow_mul-bytes c = omega (arith, small c.requires _ c.share_size-size.ensures)

pub overflow_add-bytes : goal.overflow_add-bytes
overflow_add-bytes c = omega (arith, small c.requires _ c.share_size-size.ensures)

pub overflow_sub-bytes : goal.overflow_sub-bytes
overflow_sub-bytes c =
    let l = within_limits c.args.servers _ (sym c.in_ok-check_early.ensures) in
    omega (arith, l.0)

pub overflow_add-bytes-2 : goal.overflow_add-bytes-2
overflow_add-bytes-2 c =
    let l = within_limits c.args.servers _ (sym c.in_ok-check_early.ensures) in
    omega (arith, l.1, small c.requires _ c.share_size-size.ensures)

pub returns-then-room-bytes : goal.returns-then-room-bytes
returns-then-room-bytes c =
    let size_is = sized c.requires _ c.share_size-size.ensures in
    by_room _ _ _ _ _ _ c.requires.is_read c.in_ok-check_early.ensures c.in_ok-check_seeds.ensures
    (rw size_is at c.if-room-bytes.true)

pub returns : goal.returns
returns c =
    let size_is = sized c.requires _ c.share_size-size.ensures in
    by_none _ _ _ _ _ _ c.requires.is_read c.in_ok-check_early.ensures c.in_ok-check_seeds.ensures _
    (rw size_is at c.if-room-bytes.false)
    (ap (λ (n : ℕ). 6 + 4 * n + 38 * (c.args.servers - 1)) size_is)
