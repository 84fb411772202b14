-- What a share of a sheet that is read has room for: its length by the sheet's shape, and the limits of that. Assumes nothing.
use mathlib.Core.Path.{◌≡◌, ap}
use mathlib.Core.List.{List}
use Prim.Native.Nat.{ℕ, ◌+◌, ◌≤◌}
use native.Mathlib.Omega.{arith}
use lib.ListN.{length}
use Rattle.rules.specs.Columns.{columns_of, entries_in}
use Rattle.rules.specs.Circuit.{gates_in, tests_in}
use Rattle.rules.specs.Judging.{share_size}
use Rattle.rules.proofs.Circuits.Limits.{limits}
use Rattle.snip.specs.declared.judging.Shape.{Shape}
use Rattle.snip.specs.Judged.{Share}
use Rattle.walk.specs.Walks.{Entries, Outputs}

pub record Room (s : List ℕ) (shape : Shape) (xs : List ℕ) : Type 0 where
  pub entries_are : shape.entries ≡ entries_in (columns_of s)
  pub gates_are : shape.gates ≡ gates_in (columns_of s)
  pub tests_are : shape.tests ≡ tests_in (columns_of s)
  pub long : length xs ≡ shape.entries + (shape.gates + shape.gates) + 6
  pub entries_few : shape.entries ≤ 256
  pub gates_few : shape.gates ≤ 256
  pub tests_few : shape.tests ≤ 384
  pub entries : Entries s xs
  pub outputs : Outputs s xs shape.entries

pub room : {s : List ℕ} {shape : Shape} {xs : List ℕ} {r t : ℕ} → Share s shape xs r t → Room s shape xs
unfolding share_size
room {s} {shape} {xs} h =
    let e : shape.entries ≡ entries_in (columns_of s) = ap (λ (c : Shape). c.entries) h.shape_is in
    let g : shape.gates ≡ gates_in (columns_of s) = ap (λ (c : Shape). c.gates) h.shape_is in
    let k : shape.tests ≡ tests_in (columns_of s) = ap (λ (c : Shape). c.tests) h.shape_is in
    let m = limits s (columns_of s) h.is_read in
    let size : length xs ≡ shape.entries + (shape.gates + shape.gates) + 6 = omega (arith, h.size) in
    record {
      entries_are = e;
      gates_are = g;
      tests_are = k;
      long = size;
      entries_few = omega (arith, m.entries_most);
      gates_few = omega (arith, m.entries_most, m.gates_most);
      tests_few = omega (arith, m.tests_most);
      entries = record { is_read = h.is_read; elements = h.elements; enough = omega arith };
      outputs = record { entries_are = e; room = omega arith };
    }
