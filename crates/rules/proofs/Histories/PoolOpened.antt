-- What it says of a pool that its servers were opened: the sheet is read, and S, N and the totals are within their limits.
-- Assumes nothing.
use mathlib.Core.Path.{◌≡◌}
use Prim.Native.Nat.{◌≤◌}
use lib.ListN.{length}
use Rattle.records.specs.Outcome.{ok}
use Rattle.rules.specs.Settings.{Setting}
use Rattle.rules.specs.Columns.{read_sheet}
use Rattle.rules.specs.Table.{Lent}
use Rattle.rules.specs.Pools.{Pool, columns}
use Rattle.rules.proofs.Circuits.Limits.{Limits, within_both}
use Rattle.rules.proofs.Circuits.Refusals.{sheet_read, sheet_limits_lem}
use Rattle.rules.proofs.Histories.Opening.{Opening, opening}

module _ (σ : Setting) (𝓟 : Pool σ) where
  abbrev lent : Lent
  lent = 𝓟.buffers 0

  pub opened : Opening σ 𝓟.servers 0 𝓟.sheet 𝓟.returns 𝓟.least
      (length lent.bytes) (length lent.slots) (length lent.elements)
  opened = opening σ 𝓟.servers 0 𝓟.sheet 𝓟.returns 𝓟.least _ _ _ (𝓟.opens 0 𝓟.some_server)

  pub is_read : read_sheet 𝓟.sheet ≡ ok (columns σ 𝓟)
  is_read = sheet_read 𝓟.sheet opened.no_fault_lem

  pub limited : Limits 𝓟.sheet (columns σ 𝓟)
  limited = sheet_limits_lem 𝓟.sheet opened.no_fault_lem

  pub returns_limits : (1 ≤ 𝓟.returns) × (𝓟.returns ≤ 1024)
  returns_limits = within_both 1 1024 𝓟.returns opened.returns_fit_lem
