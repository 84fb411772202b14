-- The room of a return of a sheet that is read: the limits on its counts and on the number of elements of a share.
-- Assumes nothing.
use mathlib.Core.Path.{◌≡◌, ap, ◌∙◌}
use mathlib.Core.List.{List}
use Prim.Native.Nat.{ℕ, ◌+◌, ◌≤◌}
use native.Mathlib.Omega.{arith}
use lib.ListN.{length}
use Rattle.rules.specs.Columns.{columns_of, entries_in}
use Rattle.rules.specs.Circuit.{gates_in}
use Rattle.rules.specs.Judging.{share_size}
use Rattle.rules.proofs.Circuits.Limits.{limits}
use Rattle.columns.specs.declared.Counts.{Counts}
use Rattle.whole.specs.Pieces.{Counted}

pub record Room (sheet : List ℕ) (k : Counts) : Type 0 where
  pub columns_are : k.columns ≡ length (columns_of sheet)
  pub entries_are : k.entries ≡ entries_in (columns_of sheet)
  pub gates_are : k.gates ≡ gates_in (columns_of sheet)
  pub size_is : k.entries + (k.gates + k.gates) + 6 ≡ share_size (columns_of sheet)
  pub entries_few : k.entries ≤ 256
  pub gates_few : k.gates ≤ 256
  pub size_small : share_size (columns_of sheet) ≤ 774

pub room : {sheet : List ℕ} {k : Counts} → Counted sheet k → Room sheet k
unfolding share_size
room {sheet} {k} c =
    let m = limits sheet (columns_of sheet) c.is_read in
    let e : k.entries ≡ entries_in (columns_of sheet) = ap (λ (x : Counts). x.entries) c.counts_are in
    let g : k.gates ≡ gates_in (columns_of sheet) = ap (λ (x : Counts). x.gates) c.counts_are in
    record {
      columns_are = ap (λ (x : Counts). x.columns) c.counts_are;
      entries_are = e;
      gates_are = g;
      size_is = rw (e, g);
      entries_few = omega (arith, m.entries_most);
      gates_few = omega (arith, m.gates_most, m.entries_most);
      size_small = m.share_most;
    }

-- the number of elements of a share, as code works it out
module _ {sheet : List ℕ} {k : Counts} (c : Counted sheet k) (n : ℕ) (e : n ≡ k.entries + (k.gates + k.gates) + 6) where
  pub sized : n ≡ share_size (columns_of sheet)
  sized = e ∙ (room c).size_is

  pub small : n ≤ 774
  small = omega (arith, sized, (room c).size_small)
