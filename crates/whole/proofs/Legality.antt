-- Legal values: there is one for each column, and their entries are as many as the sheet's, each an element.
-- Assumes nothing.
use mathlib.Core.Path.{◌≡◌, sym, ◌∙◌}
use mathlib.Core.Bool.{true, ◌&&◌}
use mathlib.Core.List.{List}
use Prim.Native.Nat.{ℕ, ◌+◌, ◌*◌, ◌≤◌, ◌<◌}
use native.Mathlib.Omega.{arith}
use borrow.Author.Tests.{eqb-true}
use lib.Dec.{eqb}
use lib.ListN.{length, get_or}
use Rattle.algebra.proofs.Members.{all_map, and_left, and_right}
use Rattle.words.specs.Bytes.{splice, elements_of}
use Rattle.words.proofs.Splice.{splice_all}
use Rattle.field.specs.Residues.{prime}
use Rattle.field.proofs.Below.{member_below}
use Rattle.rules.specs.Columns.{entries_in, columns_of}
use Rattle.rules.specs.Values.{legal_values}
use Rattle.rules.specs.Making.{values_fault}
use Rattle.rules.proofs.Circuits.Limits.{limits}
use Rattle.rules.proofs.Circuits.Encoding.{encoding_length, encoding_below}
use Rattle.columns.specs.declared.Counts.{Counts}
use Rattle.values.specs.Encode.{Encodable}
use Rattle.steps.proofs.Parts.{check_holds}
use Rattle.walk.specs.Walks.{Entries}
use Rattle.whole.specs.Pieces.{Legal, entries_from, Fillable}
use Rattle.whole.proofs.Room.{room}

module _ {sheet values : List ℕ} (l : Legal sheet values) where
  both_hold : eqb (length values) (4 * length (columns_of sheet)) && legal_values (columns_of sheet) (elements_of 4 values) ≡ true
  unfolding values_fault
  both_hold =
      check_holds (eqb (length values) (4 * length (columns_of sheet)) && legal_values (columns_of sheet) (elements_of 4 values)) 4
      l.legal

  a_value_each : length values ≡ 4 * length (columns_of sheet)
  a_value_each = eqb-true _ _ (and_left (eqb (length values) (4 * length (columns_of sheet))) _ both_hold)

  are_legal : legal_values (columns_of sheet) (elements_of 4 values) ≡ true
  are_legal = and_right (eqb (length values) (4 * length (columns_of sheet))) _ both_hold

  pub length_entries : length (entries_from sheet values) ≡ entries_in (columns_of sheet)
  length_entries = encoding_length (columns_of sheet) (elements_of 4 values) are_legal

  pub encodable : (out : List ℕ) → entries_in (columns_of sheet) ≤ length out → Encodable sheet values out
  encodable out h = record { is_read = l.is_read; a_value_each = a_value_each; room = h }

  pub encodable_just : (out : List ℕ) → length out ≡ entries_in (columns_of sheet) → Encodable sheet values out
  encodable_just out h = encodable out (omega arith)

  pub entries_given : Entries sheet (entries_from sheet values)
  entries_given =
      let few = (limits sheet (columns_of sheet) l.is_read).in_limits in
      record {
        is_read = l.is_read;
        elements = all_map (λ a h. omega arith) (encoding_below (columns_of sheet) (elements_of 4 values) few are_legal);
        enough = omega (arith, length_entries);
      }

  -- a buffer of just as many places holds the entries and nothing else
  pub just_entries : (x : List ℕ) → length x ≡ entries_in (columns_of sheet)
      → splice x 0 (entries_from sheet values) ≡ entries_from sheet values
  just_entries x h = splice_all x (entries_from sheet values) (length_entries ∙ sym h)

-- what filling is given
module _ {sheet : List ℕ} {k : Counts} {values random w : List ℕ} (f : Fillable sheet k values random w) where
  pub legal_values_lem : Legal sheet values
  legal_values_lem = record { is_read = f.counted.is_read; legal = f.legal }

  -- the pieces fit
  pub fits : k.entries + (k.gates + k.gates) + 6 ≡ length w
  fits = (room f.counted).size_is ∙ sym f.long

  pub below : (i : ℕ) → get_or (elements_of 4 random) i 0 < prime
  below i = member_below (elements_of 4 random) i f.elements

  -- a place of just as many elements as there are entries
  module _ (x : List ℕ) (e : length x ≡ k.entries) where
    just : length x ≡ entries_in (columns_of sheet)
    just = e ∙ (room f.counted).entries_are

    pub encodes : Encodable sheet values x
    encodes = encodable_just legal_values_lem x just

    pub holds_entries : {y : List ℕ} → y ≡ splice x 0 (entries_from sheet values) → y ≡ entries_from sheet values
    holds_entries q = q ∙ just_entries legal_values_lem x just
