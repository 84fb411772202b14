-- `sheet::returns::check_returns` meets its contract: 2 where N is outside its limits, 0 for few returns (`few_fit`), else
-- what the totals say. Assumes nothing.
use mathlib.Core.Path.{◌≡◌}
use mathlib.Core.Bool.{true}
use mathlib.Core.List.{List}
use Prim.Native.Nat.{ℕ, ◌*◌, ◌≤◌, ◌<◌}
use native.Mathlib.Nat.{mul-le-mul}
use native.Mathlib.Omega.{arith}
use borrow.Author.Tests.{lt-ltb}
use lib.Dec.{ltb}
use Rattle.std.proofs.lemmas.Grind.{common_steps}
use Rattle.algebra.proofs.Members.{all_map, all_every}
use Rattle.records.specs.Outcome.{ok, or_else}
use Rattle.rules.specs.Settings.{document01}
use Rattle.rules.specs.Columns.{largest_of, read_sheet, columns_of, totals_fit}
use Rattle.rules.proofs.Circuits.Limits.{limits}
use Rattle.columns.proofs.Taken.{largest_most}
use Rattle.sheet.proofs.returns.check_returns.Goals as goal

few_below : (n m : ℕ) → n ≤ 128 → m ≤ 16777215 → n * m < 2147483647
few_below n m h k = omega (arith, mul-le-mul h k)

few_fit : (s : List ℕ) (n : ℕ) → read_sheet s ≡ ok (columns_of s) → n ≤ 128 → totals_fit document01 n (columns_of s) ≡ true
unfolding totals_fit
few_fit s n is_read h =
    all_every (λ c. ltb (n * largest_of c) 2147483647) (columns_of s)
    (all_map (λ c l. lt-ltb (n * largest_of c) 2147483647 (few_below n (largest_of c) h (largest_most c l)))
    (limits s (columns_of s) is_read).in_limits)

pub returns-then-n-le128 : goal.returns-then-n-le128
unfolding or_else
returns-then-n-le128 c =
    let f = few_fit c.args.s.now c.args.n c.requires c.if-n-le128.true in grind (arith, common_steps)
