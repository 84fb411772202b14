-- What writing a return is given: the size of a share, a whole list of elements, the seeds, and what each piece asks for.
-- Assumes nothing.
use mathlib.Core.Path.{◌≡◌}
use mathlib.Core.List.{List}
use Prim.Native.Nat.{ℕ, ◌+◌, ◌-◌, ◌*◌, ◌≤◌}
use native.Mathlib.Omega.{arith}
use lib.ListN.{length}
use Rattle.words.specs.Bytes.{elements_of}
use Rattle.field.specs.Residues.{Elements}
use Rattle.rules.specs.Columns.{columns_of}
use Rattle.rules.specs.Judging.{share_size}
use Rattle.columns.specs.declared.Counts.{Counts}
use Rattle.whole.specs.Pieces.{whole_of, Fillable}
use Rattle.whole.proofs.WholeList.{elements_made}
use Rattle.seeded.specs.Pieces.{Seeds, MakeableSeeded}

module _ {sheet : List ℕ} {k : Counts} {servers : ℕ} {values random seeds out : List ℕ}
    (m : MakeableSeeded sheet k servers values random seeds out) where
  pub fillable : (w : List ℕ) → length w ≡ share_size (columns_of sheet) → Fillable sheet k values random w
  fillable w e = record {
    counted = m.counted;
    legal = m.legal;
    four = omega (arith, m.four);
    elements = m.elements;
    long = e;
  }

  pub whole_elements_lem : Elements (whole_of (columns_of sheet) (elements_of 4 values) (elements_of 4 random))
  whole_elements_lem = elements_made (elements_of 4 random) (record { is_read = m.counted.is_read; legal = m.legal }) m.elements

  pub seeds_given : Seeds seeds (servers - 1)
  seeds_given = record { few = omega (arith, m.several.1); long = m.many }

  pub first_fits : 6 + 4 * share_size (columns_of sheet) ≤ length out
  first_fits = omega (arith, m.room)
