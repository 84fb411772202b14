-- What holds where nothing is refused. Assumes nothing.
use Rattle.std.proofs.Common.{◌≡◌, ℕ, ◌*◌, ◌≤◌, ◌&&◌}
use borrow.Author.Tests.{leb-true, eqb-true}
use lib.Dec.{leb, eqb}
use Rattle.records.proofs.Outcome.{or_zero}
use Rattle.rules.specs.Settings.{document01}
use Rattle.rules.specs.Columns.{within, check}
use Rattle.rules.specs.Shelf.{shelf_refusal}
use Rattle.rules.proofs.Histories.Checks.{check_passed}

-- the run has R × W bytes, and there is room for them
pub taken : (r w bytes room : ℕ) → shelf_refusal document01 r w bytes room ≡ 0 → (bytes ≡ r * w) × (r * w ≤ room)
unfolding shelf_refusal
taken r w bytes room h =
    let a = or_zero (check (within 1 64 r && within 1 4096 w) 2) _ h in
    let b = or_zero (check (eqb bytes (r * w)) 19) _ a.1 in (
      eqb-true bytes (r * w) (check_passed (eqb bytes (r * w)) 18 b.0),
      leb-true (r * w) room (check_passed (leb (r * w) room) 13 b.1),
    )
