-- The refusals of making from seeds, in their order (whole's Refusals), and what holds where there is none.
-- Assumes nothing.
use mathlib.Core.Path.{◌≡◌, refl, sym, ap, ap₂, ◌∙◌}
use mathlib.Core.Bool.{Bool, true, false, ◌&&◌, and-false}
use mathlib.Core.List.{List}
use Prim.Native.Nat.{ℕ, ◌+◌, ◌-◌, ◌*◌, ◌≤◌, ◌<◌}
use borrow.Author.Tests.{lt-leb, le-leb, leb-true, eqb-true}
use lib.Dec.{leb, eqb}
use lib.ListN.{length}
use Rattle.algebra.proofs.Members.{and_left, and_right}
use Rattle.words.specs.Bytes.{elements_of, all_below}
use Rattle.words.proofs.Below.{all_of_below}
use Rattle.records.specs.Outcome.{Outcome, ok, refused}
use Rattle.records.specs.Refusals.{number_of}
use Rattle.records.specs.Answers.{answered}
use Rattle.records.specs.declared.Refusal.{Refusal}
use Rattle.records.specs.declared.Refusal.TheVariants as why
use Rattle.field.specs.Residues.{prime}
use Rattle.rules.specs.Settings.{document01}
use Rattle.rules.specs.Columns.{check, read_sheet, sheet_fault, columns_of}
use Rattle.rules.specs.Judging.{share_size}
use Rattle.rules.specs.Making.{share_length}
use Rattle.rules.specs.Seeds.{seeds_fault, seeded_length, make_seeded_refusal}
use Rattle.columns.specs.declared.Counts.{Counts}
use Rattle.steps.proofs.Parts.{check_holds}
use Rattle.whole.specs.Pieces.{Counted}
use Rattle.whole.proofs.Refusals.{early_fault, in_order, passed, sheet_refused, early_refused, fourth_refused, last_refused, none_refused}
use Rattle.seeded.specs.Pieces.{MakeableSeeded}

-- ---- the random elements and the seeds
module _ (servers : ℕ) (random seeds : List ℕ) where
  abbrev fit : Bool
  fit = eqb (length random) 16

  abbrev low : Bool
  low = all_below prime (elements_of 4 random)

  abbrev many : Bool
  many = eqb (length seeds) (32 * (servers - 1))

  fault_is : (f l m : Bool) → fit ≡ f → low ≡ l → many ≡ m → seeds_fault document01 servers random seeds ≡ check (f && (l && m)) 6
  unfolding seeds_fault
  fault_is f l m p q r = ap₂ (λ (a b : Bool). check (a && b) 6) p (ap₂ ◌&&◌ q r)

  pub wrong_random : fit ≡ false → 6 ≡ seeds_fault document01 servers random seeds
  wrong_random p = sym (fault_is false low many p refl refl)

  pub wrong_seeds : fit ≡ true → many ≡ false → 6 ≡ seeds_fault document01 servers random seeds
  wrong_seeds p r = sym (fault_is true low false p refl r ∙ ap (λ (b : Bool). check b 6) (and-false low))

  pub by_elements : (b : Bool) → fit ≡ true → many ≡ true → low ≡ b → check (b && true) 6 ≡ seeds_fault document01 servers random seeds
  by_elements b p r q = sym (fault_is true b true p q r)

-- ---- the order
module _ (sheet values random seeds : List ℕ) (servers room : ℕ) where
  abbrev refusal : ℕ
  refusal = make_seeded_refusal document01 sheet servers values random seeds room

  abbrev fault : ℕ
  fault = seeds_fault document01 servers random seeds

  abbrev bytes : ℕ
  bytes = 6 + 4 * share_size (columns_of sheet) + 38 * (servers - 1)

  abbrev no_room : ℕ
  no_room = check (leb bytes room) 14

  abbrev answer : Outcome ℕ
  answer = answered refusal (seeded_length document01 (columns_of sheet) servers)

  refusal_is : in_order sheet values servers fault no_room ≡ refusal
  unfolding make_seeded_refusal seeded_length share_length
  refusal_is = refl

  answer_is : answered (in_order sheet values servers fault no_room) bytes ≡ answer
  unfolding seeded_length share_length
  answer_is = ap (λ (f : ℕ). answered f bytes) refusal_is

  pub by_sheet : (r : Refusal) → number_of r ≡ sheet_fault sheet → refused (number_of r) ≡ answer
  by_sheet r e = sheet_refused sheet values servers fault no_room bytes r e ∙ answer_is

  module _ (is_read : read_sheet sheet ≡ ok (columns_of sheet)) where
    pub by_early : (r : Refusal) → number_of r ≡ early_fault sheet values servers → refused (number_of r) ≡ answer
    by_early r e = early_refused sheet values servers fault no_room bytes is_read r e ∙ answer_is

    module _ (legal : 0 ≡ early_fault sheet values servers) where
      pub by_seeds : (r : Refusal) → number_of r ≡ fault → refused (number_of r) ≡ answer
      by_seeds r e = fourth_refused sheet values servers fault no_room bytes is_read legal r e ∙ answer_is

      module _ (sound : 0 ≡ fault) where
        pub by_room : room < bytes → refused 14 ≡ answer
        by_room h =
            last_refused sheet values servers fault no_room bytes is_read legal sound why.Room (rw (lt-leb bytes room h)) ∙ answer_is

        pub by_none : (m : ℕ) → bytes ≤ room → m ≡ bytes → ok m ≡ answer
        by_none m h e =
            none_refused sheet values servers fault no_room bytes is_read legal sound m (rw (le-leb bytes room h)) e ∙ answer_is

-- ---- where nothing is refused
pub makeable : (sheet values random seeds out : List ℕ) (servers : ℕ) (k : Counts) → Counted sheet k
    → make_seeded_refusal document01 sheet servers values random seeds (length out) ≡ 0
    → MakeableSeeded sheet k servers values random seeds out
unfolding seeds_fault
makeable sheet values random seeds out servers k counted h =
    let p = passed sheet values servers _ _ (refusal_is sheet values random seeds servers (length out) ∙ h) in
    let f : Bool = fit servers random seeds in
    let l : Bool = low servers random seeds in
    let m : Bool = many servers random seeds in
    let all : f && (l && m) ≡ true = check_holds (f && (l && m)) 5 p.fourth in
    let rest : l && m ≡ true = and_right f (l && m) all in
    record {
      counted = counted;
      several = p.several;
      legal = p.legal;
      four = eqb-true _ _ (and_left f (l && m) all);
      elements = all_of_below prime (elements_of 4 random) (and_left l m rest);
      many = eqb-true _ _ (and_right l m rest);
      room = leb-true _ _ (check_holds (leb (6 + 4 * share_size (columns_of sheet) + 38 * (servers - 1)) (length out)) 13 p.last);
    }
