-- The checks of both ways of making, in their order: the sheet, S, the values, then x, then y. Each refusal is that of the first
-- check that fails. Assumes nothing.
use mathlib.Core.Path.{◌≡◌, sym, ◌∙◌}
use mathlib.Core.List.{List}
use Prim.Native.Nat.{ℕ, ◌≤◌}
use Rattle.records.specs.Outcome.{ok, refused, or_else}
use Rattle.records.specs.Refusals.{number_of}
use Rattle.records.specs.Answers.{answered}
use Rattle.records.specs.declared.Refusal.{Refusal}
use Rattle.records.proofs.Outcome.{or_none, or_zero, or_assoc}
use Rattle.records.proofs.Refusals.{first_counts, second_counts}
use Rattle.rules.specs.Columns.{within, read_sheet, sheet_fault, columns_of, servers_fault}
use Rattle.rules.specs.Making.{values_fault}
use Rattle.rules.proofs.Circuits.Limits.{within_both}
use Rattle.rules.proofs.Circuits.Refusals.{sheet_fault_lem}
use Rattle.steps.proofs.Parts.{check_holds}
use Rattle.whole.proofs.Answered.{refused_as, done_as}

-- S and the values
abbrev pub early_fault : List ℕ → List ℕ → ℕ → ℕ
early_fault sheet values servers = or_else (servers_fault servers) (values_fault (columns_of sheet) values)

abbrev pub in_order : List ℕ → List ℕ → ℕ → ℕ → ℕ → ℕ
in_order sheet values servers x y =
    or_else (sheet_fault sheet) (or_else (servers_fault servers) (or_else (values_fault (columns_of sheet) values) (or_else x y)))

-- S is within its limits where neither S nor the values are refused
pub within_limits : (servers v : ℕ) → or_else (servers_fault servers) v ≡ 0 → (2 ≤ servers) × (servers ≤ 8)
within_limits servers v h = within_both 2 8 servers (check_holds (within 2 8 servers) 1 (or_zero (servers_fault servers) v h).0)

-- what holds where nothing is refused
pub record Passed (sheet values : List ℕ) (servers x y : ℕ) : Type 0 where
  pub several : (2 ≤ servers) × (servers ≤ 8)
  pub legal : values_fault (columns_of sheet) values ≡ 0
  pub fourth : x ≡ 0
  pub last : y ≡ 0

module _ (sheet values : List ℕ) (servers x y : ℕ) where
  abbrev refusal : ℕ
  refusal = in_order sheet values servers x y

  pub passed : refusal ≡ 0 → Passed sheet values servers x y
  passed h =
      let a = or_zero (sheet_fault sheet) _ h in
      let b = or_zero (servers_fault servers) _ a.1 in
      let c = or_zero (values_fault (columns_of sheet) values) _ b.1 in
      let d = or_zero x y c.1 in
      record { several = within_limits servers _ a.1; legal = c.0; fourth = d.0; last = d.1 }

  -- the answers, where n bytes are written if nothing is refused
  module _ (n : ℕ) where
    pub sheet_refused : (r : Refusal) → number_of r ≡ sheet_fault sheet → refused (number_of r) ≡ answered refusal n
    sheet_refused r e = refused_as refusal n r (first_counts r (sheet_fault sheet) _ e)

    module _ (is_read : read_sheet sheet ≡ ok (columns_of sheet)) where
      after_sheet : or_else (early_fault sheet values servers) (or_else x y) ≡ refusal
      after_sheet =
          or_assoc (servers_fault servers) (values_fault (columns_of sheet) values) (or_else x y)
          ∙ sym (rw (sheet_fault_lem sheet (columns_of sheet) is_read).0 (or_none _))

      pub early_refused : (r : Refusal) → number_of r ≡ early_fault sheet values servers → refused (number_of r) ≡ answered refusal n
      early_refused r e = refused_as refusal n r (first_counts r _ (or_else x y) e ∙ after_sheet)

      module _ (legal : 0 ≡ early_fault sheet values servers) where
        pub fourth_refused : (r : Refusal) → number_of r ≡ x → refused (number_of r) ≡ answered refusal n
        fourth_refused r e = refused_as refusal n r (second_counts _ (or_else x y) _ legal (first_counts r x y e) ∙ after_sheet)

        module _ (sound : 0 ≡ x) where
          pub last_refused : (r : Refusal) → number_of r ≡ y → refused (number_of r) ≡ answered refusal n
          last_refused r e =
              refused_as refusal n r (second_counts _ (or_else x y) _ legal (second_counts x y _ sound e) ∙ after_sheet)

          pub none_refused : (m : ℕ) → 0 ≡ y → m ≡ n → ok m ≡ answered refusal n
          none_refused m e =
              done_as refusal n m (second_counts _ (or_else x y) 0 legal (second_counts x y 0 sound e) ∙ after_sheet)
