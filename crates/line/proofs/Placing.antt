-- The refusals of the call but for that of D, in their order: each check that passes is put away, and the first that fails is the
-- answer. Assumes nothing.
use mathlib.Core.Path.{◌≡◌, refl, sym, ◌∙◌}
use mathlib.Core.Bool.{Bool, true, false, cond}
use mathlib.Core.List.{List}
use Prim.Native.Nat.{ℕ}
use Rattle.std.specs.Prelude.{Option, Some, None, Ok, Err, ok_or}
use Rattle.records.specs.Outcome.{ok, refused, or_else}
use Rattle.records.specs.Refusals.{number_of}
use Rattle.records.specs.Answers.{answered}
use Rattle.records.specs.declared.Refusal.{Refusal}
use Rattle.records.specs.declared.Refusal.TheVariants as why
use Rattle.records.proofs.Outcome.{or_none}
use Rattle.records.proofs.Refusals.{first_counts, second_counts}
use Rattle.rules.specs.Columns.{Column, check, published_in, columns_of}
use Rattle.rules.specs.Line.{names_point, columns_before}
use Rattle.totals_message.specs.Totals.{joined_fault_at}
use Rattle.totals_message.proofs.Totals.{joined_fault_lem}
use Rattle.joining.specs.Calls.{pooled}
use Rattle.joining.proofs.Faults.{refused_by, done_by, refused_told}
use Rattle.joining.proofs.Pooling.{Poolable}
use Rattle.line.specs.Calls.{found_in, line_fault, place_of, placed}

-- ---- what was found
nowhere_by : (b : Bool) (n : ℕ) → None ≡ cond b (Some n) None → b ≡ false
nowhere_by true n e = cc
nowhere_by false n e = refl

at_by : (b : Bool) (n m : ℕ) → Some m ≡ cond b (Some n) None → (b ≡ true) × (m ≡ n)
at_by true n m e = (refl, cc)
at_by false n m e = cc

-- what was looked for is not there
not_found : (x : Refusal) (o : Option ℕ) → Err x ≡ ok_or o why.Limit → (x ≡ why.Limit) × (o ≡ None)
not_found x (Some n) e = cc
not_found x None e = (cc, refl)

module _ (cs : List Column) (column : ℕ) where
  not_named : None ≡ found_in cs column → names_point column cs ≡ false
  unfolding found_in
  not_named e = nowhere_by (names_point column cs) _ e

  is_named : (first : ℕ) → Some first ≡ found_in cs column
      → (names_point column cs ≡ true) × (first ≡ published_in (columns_before column cs))
  unfolding found_in
  is_named first e = at_by (names_point column cs) _ first e

  pub is_found : (first : ℕ) (o : Option ℕ) → Ok first ≡ ok_or o why.Limit → o ≡ found_in cs column → Some first ≡ found_in cs column
  is_found first (Some n) e f = cc
  is_found first None e f = cc

-- ---- by the checks
module _ (servers : ℕ) (sheet : List ℕ) (returns : ℕ) (joined : List ℕ) (column : ℕ) where
  abbrev fault : ℕ
  fault = line_fault servers sheet returns joined column

  refused_for : (r : Refusal) → number_of r ≡ fault → refused (number_of r) ≡ placed servers sheet returns joined column
  unfolding placed
  refused_for r e = refused_by r _ _ e

  pub pool_refused : (r : Refusal) → refused (number_of r) ≡ pooled servers sheet returns
      → refused (number_of r) ≡ placed servers sheet returns joined column
  unfolding line_fault pooled answered
  pool_refused r e = refused_for r (first_counts r _ _ (refused_told _ _ _ e))

  -- p entries are published
  module _ (p : ℕ) (h : Poolable servers sheet returns p) where
    abbrev unsound : ℕ
    unsound = joined_fault_at servers p returns joined

    after_pool : (f : ℕ) → f ≡ or_else (check (names_point column (columns_of sheet)) 2) unsound → f ≡ fault
    unfolding line_fault
    after_pool f e = e ∙ sym (rw (h.none, or_none, joined_fault_lem servers (columns_of sheet) returns joined, ← h.published_are))

    pub column_refused : (x : Refusal) (o : Option ℕ) → Err x ≡ ok_or o why.Limit → o ≡ found_in (columns_of sheet) column
        → refused (number_of x) ≡ placed servers sheet returns joined column
    column_refused x o e f =
        let n = not_found x o e in
        let z : names_point column (columns_of sheet) ≡ false = not_named (columns_of sheet) column (sym n.1 ∙ f) in
        refused_for x (after_pool _ (first_counts x _ _ (rw (n.0, z))))

    -- the totals begin at `first`
    module _ (first : ℕ) (f : Some first ≡ found_in (columns_of sheet) column) where
      after_column : (n : ℕ) → n ≡ unsound → n ≡ fault
      after_column n e = after_pool n (second_counts _ _ _ (rw (is_named (columns_of sheet) column first f).0) e)

      pub fault_refused : (r : Refusal) → number_of r ≡ unsound → refused (number_of r) ≡ placed servers sheet returns joined column
      fault_refused r e = refused_for r (after_column _ e)

      pub all_placed : 0 ≡ unsound → ok (record { published = p; first = first }) ≡ placed servers sheet returns joined column
      unfolding placed
      all_placed z =
          done_by _ (place_of sheet column) _ (after_column 0 z)
          (rw (h.published_are, (is_named (columns_of sheet) column first f).1))
