-- `table::deciding::decide` meets its contract: what it calls writes the bytes and the numbers, and the place lies within
-- the run (`place_within`). Assumes nothing.
use Prim.Native.Nat.{ℕ, ◌+◌, ◌*◌, ◌≤◌, ◌<◌}
use native.Mathlib.Omega.{arith}
use lib.ListN.{length}
use Rattle.waiting.proofs.Places.{place_within}
use Rattle.table.proofs.deciding.decide.Goals as goal

-- the place ends within the run
within : (z at n : ℕ) → at < 8 → z * 8 ≤ n → z * at + z ≤ n
within z at n h k = let w : z * at + z ≤ z * 8 = place_within z at h in omega arith

pub overflow_mul-size : goal.overflow_mul-size
overflow_mul-size c =
    let p = c.requires in
    let z = c.place_size-size in
    omega (arith, within z.result c.args.at (length c.args.numbers.now) p.one_of_eight (omega (arith, z.ensures, p.run_long)))

pub erase-requires : goal.erase-requires
erase-requires c =
    let p = c.requires in
    let z = c.place_size-size in
    omega (arith, within z.result c.args.at (length c.args.numbers.now) p.one_of_eight (omega (arith, z.ensures, p.run_long)))

pub returns : goal.returns
returns c =
    record {
      frees = c.frees.ensures;
      bytes_are = c.note_decided.ensures;
      numbers_are = rw c.place_size-size.ensures at c.erase.ensures;
    }
