-- The limits that a sheet sets are rules', by unfolding both; and a pair that keeps to them is below p.
-- Assumes nothing.
use mathlib.Core.Path.{◌≡◌, refl}
use mathlib.Core.Bool.{true}
use mathlib.Core.List.{List}
use Prim.Native.Nat.{ℕ, ◌<◌}
use Rattle.rules.specs.Settings.{document01}
use Rattle.rules.specs.Columns.{Column, entries_in}
use Rattle.rules.specs.Circuit.{gates_in}
use Rattle.rules.specs.Judging.{share_size, allowed_pair}
use Rattle.limits.specs.Sheets.{size_of, pair_sound}
use Rattle.rules.proofs.Histories.OwnMessages.{pair_tests}

pub share_size_lem : (cs : List Column) → share_size cs ≡ size_of (entries_in cs) (gates_in cs)
unfolding share_size
share_size_lem cs = refl

pub allowed_pair_lem : (cs : List Column) (r s : ℕ) → allowed_pair document01 cs r s ≡ pair_sound (gates_in cs) r s
unfolding allowed_pair pair_sound
allowed_pair_lem cs r s = refl

pub pair_below : (gates r s : ℕ) → pair_sound gates r s ≡ true → (r < 2147483647) × (s < 2147483647)
unfolding pair_sound
pair_below gates r s = pair_tests gates 2147483647 r s
