-- What a sheet comes to by the counts of its reading is what rules tell: the circuit's bytes by the table of body lengths,
-- its wires by kinds 1 to 5, the greatest N as a quotient. Assumes nothing.
use mathlib.Core.Path.{◌≡◌, refl}
use mathlib.Core.List.{List, [], ◌∷◌}
use Prim.Native.Nat.{ℕ, zero, suc, ◌+◌, ◌-◌, ◌*◌, ◌/◌, ◌^◌, ◌≤◌, ◌<◌}
use native.Mathlib.Nat.{pow-le-pow_right, mul-le-mul}
use native.Mathlib.Numerals.{unary_clauses}
use native.Mathlib.Omega.{arith}
use borrow.Author.Tests.{ne_eqb}
use lib.ListN.{length, get_or}
use Rattle.algebra.specs.Lists.{All, all[], all∷}
use Rattle.records.specs.Outcome.{ok, refused}
use Rattle.rules.specs.Settings.{document01}
use Rattle.rules.specs.Circuit.{adds_in, scales_in, gates_in, products_in, tests_in}
use Rattle.rules.specs.CircuitReader.{body_lengths}
use Rattle.rules.specs.Columns.{Column, yes_no, choice, number, top, point, largest_of, entries_in, published_in, largest_in, columns_of}
use Rattle.rules.specs.Columns.{most_returns}
use Rattle.rules.specs.Judging.{share_size}
use Rattle.rules.specs.Making.{share_length}
use Rattle.rules.specs.Sizes.{size_by_kind, sizes_of, circuit_size}
use Rattle.rules.proofs.Circuits.Limits.{InLimits, limits}
use Rattle.rules.proofs.Circuits.Refusals.{sheet_fault_lem}
use Rattle.rules.proofs.Computed.Facts.{document01_facts}
use Rattle.rules.proofs.Tables.Greatest.{greatest_is}
use Rattle.rules.proofs.Tables.RoomTold.{room_told}
use Rattle.circuit.specs.Reading.{BodyTable}
use Rattle.columns.specs.declared.Counts.{Counts}
use Rattle.columns.specs.Counting.{Small, counts_of}
use Rattle.columns.proofs.Sums.{adds_are, scales_are}
use Rattle.columns.proofs.Taken.{columns_small}
use Rattle.sheet.specs.Reading.{reading_of}
use Rattle.sheet.proofs.Answers.{reading_refused, reading_counts}
use Rattle.sizes.specs.Room.{adds_made, scales_made, steps_size, wires_made, greatest_of, sizes_from, in_code, told_of}

-- the body length of a kind, from 0
abbrev pub length_at : ℕ → ℕ
length_at k = get_or (body_lengths document01) k 0

pub length_most : (k : ℕ) → k < 6 → length_at k ≤ 6
length_most zero h = omega arith
length_most (suc zero) h = omega arith
length_most (suc (suc zero)) h = omega arith
length_most (suc (suc (suc zero))) h = omega arith
length_most (suc (suc (suc (suc zero)))) h = omega arith
length_most (suc (suc (suc (suc (suc zero))))) h = omega arith
length_most (suc (suc (suc (suc (suc (suc k)))))) h = absurd (omega arith)

pub length_is : {t : List ℕ} → BodyTable t → (k : ℕ) → k < 6 → get_or t k 0 ≡ length_at k
length_is h k l = simp unary_clauses at (h.rule (suc k) (omega arith) (omega arith))

-- the steps of each kind, added up
pub steps_are : (c : Counts)
    → (c.constants + 1) * suc (length_at 0) + c.entries * suc (length_at 1) + adds_made c * suc (length_at 2)
    + scales_made c * suc (length_at 3) + c.gates * suc (length_at 4) + c.tests * suc (length_at 5) ≡ steps_size c
unfolding steps_size size_by_kind
steps_are c = omega arith

pub adds_most : (c : Counts) → Small 256 c → adds_made c ≤ 768
unfolding adds_made
adds_most c h = omega arith

pub scales_most : (c : Counts) → Small 256 c → scales_made c ≤ 512
unfolding scales_made
scales_most c h = omega arith

pub steps_most : (c : Counts) → Small 256 c → steps_size c ≤ 14000
steps_most c h = omega (arith, steps_are c, adds_most c h, scales_most c h)

pub wires_most : (c : Counts) → Small 256 c → wires_made c ≤ 2304
unfolding wires_made
wires_most c h = omega (arith, adds_most c h, scales_most c h)

-- of columns these are the steps of their circuit
pub adds_made_lem : (cs : List Column) → adds_made (counts_of cs) ≡ adds_in cs
unfolding adds_made
adds_made_lem cs =
    let e : gates_in cs + tests_in cs - length cs - 3 * (products_in cs / 2) ≡ adds_in cs = omega (arith, adds_are cs) in
    e

pub scales_made_lem : (cs : List Column) → scales_made (counts_of cs) ≡ scales_in cs
unfolding scales_made
scales_made_lem cs =
    let e : 2 * entries_in cs + products_in cs - published_in cs - gates_in cs ≡ scales_in cs = omega (arith, scales_are cs) in
    e

-- ---- every column has a value that is not 0
column_value : (c : Column) → InLimits c → 1 ≤ largest_of c
unfolding largest_of
column_value yes_no h = omega arith
column_value (choice n) h = omega arith
column_value (top n) h = h.0
column_value (number n) h = let p : 2 ^ 1 ≤ 2 ^ n = pow-le-pow_right (omega arith) h.0 in omega arith
column_value (point n) h =
    let p : 2 ^ 1 ≤ 2 ^ n = pow-le-pow_right (omega arith) h.0 in
    let m : 1 ≤ 2 ^ n - 1 = omega arith in
    omega (arith, mul-le-mul m m)

some_value : (cs : List Column) → All InLimits cs → 1 ≤ entries_in cs → 0 < largest_in cs
unfolding entries_in largest_in
some_value [] all[] l = absurd (omega arith)
some_value (c ∷ cs) (all∷ h hs) l = omega (arith, column_value c h)

-- ---- the answer
module _ (s : List ℕ) where
  pub read_small : (k : Counts) → reading_of s ≡ ok k → Small 256 k × (0 < k.largest)
  read_small k e =
      let r = reading_counts s k e in
      let l = limits s (columns_of s) r.0 in
      rw r.1 (
        columns_small 256 (columns_of s) l.in_limits l.entries_most,
        some_value (columns_of s) l.in_limits l.some_entries,
      )

  pub sheet_refused : (n : ℕ) → reading_of s ≡ refused n → refused n ≡ told_of s
  unfolding told_of
  sheet_refused n e = let r = reading_refused s n e in rw (r.0, ne_eqb n 0 r.1) refl

  pub sheet_told : (k : Counts) → reading_of s ≡ ok k → ok (sizes_from k) ≡ told_of s
  unfolding told_of sizes_from in_code sizes_of wires_made steps_size circuit_size share_length share_size greatest_of
  sheet_told k e =
      let r = reading_counts s k e in
      let l = limits s (columns_of s) r.0 in
      let none = (sheet_fault_lem s (columns_of s) r.0).0 in
      let t = room_told document01 document01_facts s none in
      let g = greatest_is document01 (omega arith) (columns_of s) most_returns (some_value (columns_of s) l.in_limits l.some_entries) in
      rw (
        r.1,
        none,
        adds_made_lem (columns_of s),
        scales_made_lem (columns_of s),
        t.wires_are,
        t.multiplications_are,
        t.tests_are,
        t.circuit_bytes_are,
        g,
      ) refl
