-- `seeds::element` meets its contract: below 2 to the power 31 only p is not its own remainder modulo p. Assumes nothing.
use mathlib.Core.Path.{◌≡◌, refl}
use mathlib.Core.Logic.{⊎_elim}
use Prim.Native.Nat.{ℕ, ◌+◌, ◌/◌, ◌%◌, ◌≤◌, ◌<◌}
use native.Mathlib.Nat.{eq-or-lt_of_le}
use native.Mathlib.Omega.{arith}
use Rattle.rules.specs.Seeds.{element_of}
use Rattle.seeds.proofs.element.Goals as goal

reduced : (v : ℕ) → v ≤ 2147483647 → (v + (v + 1) / 2147483648) % 2147483648 ≡ v % 2147483647
reduced v h = ⊎_elim itself less (eq-or-lt_of_le h)
  where
    itself : v ≡ 2147483647 → (v + (v + 1) / 2147483648) % 2147483648 ≡ v % 2147483647
    itself e = rw e refl

    less : v < 2147483647 → (v + (v + 1) / 2147483648) % 2147483648 ≡ v % 2147483647
    less l =
        let none : (v + 1) / 2147483648 ≡ 0 = omega arith in
        rw none (omega arith)

pub returns : goal.returns
unfolding element_of
returns c = reduced _ (omega arith)
