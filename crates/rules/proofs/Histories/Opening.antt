-- What is known where opening is not refused: each check of its list passed. Assumes nothing.
use mathlib.Core.Path.{◌≡◌}
use mathlib.Core.Bool.{true}
use mathlib.Core.List.{List}
use Prim.Native.Nat.{ℕ, ◌<◌}
use native.Mathlib.Omega.{arith}
use lib.Dec.{ltb}
use Rattle.records.proofs.Outcome.{or_zero}
use Rattle.rules.specs.Settings.{Setting, Facts}
use Rattle.rules.specs.Columns.{check, within, sheet_fault, columns_of, totals_fit}
use Rattle.rules.specs.Columns.{servers_fault, own_fault, returns_fault, least_fits, least_fault, totals_fault}
use Rattle.rules.specs.Server.{open_fault}
use Rattle.rules.specs.Table.{open_room, open_refusal}
use Rattle.rules.proofs.Histories.Checks.{check_passed}

pub positive : (σ : Setting) → Facts σ → 0 < σ.modulus
positive σ facts = omega (arith, facts.large)

pub record Opening (σ : Setting) (servers own : ℕ) (sheet : List ℕ) (returns least room records numbers : ℕ) : Type 0 where
  pub servers_fit_lem : within 2 8 servers ≡ true
  pub own_fits : ltb own servers ≡ true
  pub no_fault_lem : sheet_fault sheet ≡ 0
  pub returns_fit_lem : within 1 1024 returns ≡ true
  pub least_fits_lem : least_fits returns least ≡ true
  pub totals_fit_lem : totals_fit σ returns (columns_of sheet) ≡ true
  pub enough : open_room σ sheet returns room records numbers ≡ true

pub opening : (σ : Setting) (servers own : ℕ) (sheet : List ℕ) (returns least room records numbers : ℕ)
    → open_refusal σ servers own sheet returns least room records numbers ≡ 0
    → Opening σ servers own sheet returns least room records numbers
unfolding open_refusal open_fault
opening σ servers own sheet returns least room records numbers e =
    let c0 = or_zero (open_fault σ servers own sheet returns least) (check (open_room σ sheet returns room records numbers) 14) e in
    let c1 = or_zero (servers_fault servers) _ c0.0 in
    let c2 = or_zero (own_fault servers own) _ c1.1 in
    let c3 = or_zero (sheet_fault sheet) _ c2.1 in
    let c4 = or_zero (returns_fault returns) _ c3.1 in
    let c5 = or_zero (least_fault returns least) (totals_fault σ returns (columns_of sheet)) c4.1 in
    record {
      servers_fit_lem = check_passed (within 2 8 servers) 1 c1.0;
      own_fits = check_passed (ltb own servers) 1 c2.0;
      no_fault_lem = c3.0;
      returns_fit_lem = check_passed (within 1 1024 returns) 1 c4.0;
      least_fits_lem = check_passed (least_fits returns least) 1 c5.0;
      totals_fit_lem = check_passed (totals_fit σ returns (columns_of sheet)) 3 c5.1;
      enough = check_passed (open_room σ sheet returns room records numbers) 13 c0.1;
    }
