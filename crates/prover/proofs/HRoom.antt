-- What 2M + 1 places say of M for a sheet that is read: M is half of them, and at most 256. Assumes nothing.
use mathlib.Core.Path.{◌≡◌}
use mathlib.Core.List.{List}
use Prim.Native.Nat.{ℕ, suc, ◌+◌, ◌/◌, ◌≤◌}
use native.Mathlib.Omega.{arith}
use Rattle.rules.specs.Columns.{columns_of}
use Rattle.rules.specs.Circuit.{gates_in}
use Rattle.rules.proofs.Circuits.Limits.{limits}
use Rattle.walk.specs.Walks.{Entries}

pub record Room (s : List ℕ) (k : ℕ) : Type 0 where
  pub half : k / 2 ≡ gates_in (columns_of s)
  pub few : k / 2 ≤ 256
  pub some_more : k / 2 + 1 ≤ 257
  pub twice : k / 2 + k / 2 ≤ 512

pub room : {s xs : List ℕ} {k : ℕ} → Entries s xs → k ≡ suc (gates_in (columns_of s) + gates_in (columns_of s)) → Room s k
room {s} {xs} {k} e q =
    let m = limits s (columns_of s) e.is_read in
    let h : k / 2 ≡ gates_in (columns_of s) = omega arith in
    let f : k / 2 ≤ 256 = omega (arith, m.entries_most, m.gates_most) in
    record { half = h; few = f; some_more = omega arith; twice = omega arith }

-- the places by the length of a table
pub odd : {k a n : ℕ} → k ≡ suc (n + n) → a ≡ n → k ≡ suc (a + a)
odd e h = omega arith
