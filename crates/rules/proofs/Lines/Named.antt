-- A number that names a column of kind 21: the sheet is the columns before it, the column, and others. By the columns before it.
-- Assumes nothing.
use mathlib.Core.Path.{◌≡◌, refl, ap}
use mathlib.Core.Bool.{true, false}
use mathlib.Core.List.{List, [], ◌∷◌, ◌++◌}
use Prim.Native.Nat.{ℕ, zero, suc, ◌-◌}
use native.Mathlib.Omega.{arith}
use lib.ListN.{get_or, take}
use Rattle.rules.specs.Columns.{Column, yes_no, choice, number, top, point}
use Rattle.rules.specs.Line.{is_point, names_point, columns_before}
use Rattle.rules.proofs.Circuits.Encoding.{not_legal}

pub record Named (column : ℕ) (cs : List Column) : Type 0 where
  pub bits : ℕ
  pub after : List Column
  pub there : get_or cs (column - 1) yes_no ≡ point bits
  pub splits : cs ≡ columns_before column cs ++ (point bits ∷ after)

is_point_lem : (c : Column) → is_point c ≡ true → (n : ℕ) × (c ≡ point n)
unfolding is_point
is_point_lem yes_no h = absurd (not_legal false refl h)
is_point_lem (choice n) h = absurd (not_legal false refl h)
is_point_lem (number n) h = absurd (not_legal false refl h)
is_point_lem (top n) h = absurd (not_legal false refl h)
is_point_lem (point n) h = (n, refl)

-- by the number of columns before it
at_place : (k : ℕ) (cs : List Column) → names_point (suc k) cs ≡ true
    → (n : ℕ) × (after : List Column) × (get_or cs k yes_no ≡ point n) × (cs ≡ take k cs ++ (point n ∷ after))
unfolding names_point
at_place k [] h = absurd (not_legal false refl h)
at_place zero (c ∷ cs) h = let r = is_point_lem c h in (r.0, cs, r.1, ap (λ (d : Column). d ∷ cs) r.1)
at_place (suc k) (c ∷ cs) h =
    let r = at_place k cs h in
    (r.0, r.1, r.2, ap (λ (ds : List Column). c ∷ ds) r.3)

pub named : (column : ℕ) (cs : List Column) → names_point column cs ≡ true → Named column cs
unfolding names_point
named zero [] h = absurd (not_legal false refl h)
named zero (c ∷ cs) h = absurd (not_legal false refl h)
named (suc k) cs h =
    let r = at_place k cs h in
    let place : suc k - 1 ≡ k = omega arith in
    record { bits = r.0; after = r.1; there = rw place r.2; splits = rw place r.3 }
