-- `all` over a range is `every` of the numbers that it counts. Assumes nothing.
use mathlib.Core.Path.{◌≡◌, refl}
use mathlib.Core.Bool.{Bool}
use Prim.Native.Nat.{ℕ, zero, suc, ◌+◌}
use native.Mathlib.Numerals.{add-one}
use Rattle.std.specs.List.{list_all, range_with_len}
use Rattle.algebra.specs.Lists.{every, count_from}

pub every_of_range : (t : ℕ → Bool) (a n : ℕ) → list_all t (range_with_len a n) ≡ every t (count_from a n)
unfolding every count_from
every_of_range t a zero = refl
every_of_range t a (suc n) = rw (every_of_range t (a + 1) n, add-one) refl
