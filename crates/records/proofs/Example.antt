-- A small format, computed: kind 1 has no body and says 0; kind 2 has a body of one byte, which it says, at most 9.
-- Refusal 1 is an unknown kind or a cut body, refusal 2 a byte past its limit. Assumes nothing.
use mathlib.Core.Path.{◌≡◌, refl}
use mathlib.Core.Bool.{Bool, true, false, cond}
use mathlib.Core.List.{List, [], ◌∷◌, ◌++◌}
use mathlib.Core.Option.{none, some}
use Prim.Native.Nat.{ℕ, ◌≤◌}
use native.Mathlib.Omega.{arith}
use borrow.Author.Tests.{leb-true, le-leb}
use lib.Dec.{leb, eqb}
use Rattle.algebra.specs.Lists.{All, all[], all∷}
use Rattle.algebra.proofs.Members.{all_append}
use Rattle.records.specs.Outcome.{Outcome, ok, refused}
use Rattle.records.specs.Records.{Format, read_from, read}
use Rattle.records.proofs.Runs.{read_record, kept_by_read}

unfoldable small : List ℕ → Outcome ℕ
small [] = ok 0
small (b ∷ s) = cond (leb b 9) (ok b) (refused 2)

abbrev example : Format ℕ
example =
    record {
      body_of = λ k. cond (eqb k 1) (some 0) (cond (eqb k 2) (some 1) none);
      at_fault = 1;
      judge = λ done k body. small body;
    }

empty : read example [] ≡ ok []
unfolding read_from
empty = refl

three : read example (1 ∷ 2 ∷ 7 ∷ 1 ∷ []) ≡ ok (0 ∷ 7 ∷ 0 ∷ [])
unfolding read_from small
three = refl

limit : read example (2 ∷ 9 ∷ []) ≡ ok (9 ∷ [])
unfolding read_from small
limit = refl

past_limit : read example (1 ∷ 2 ∷ 10 ∷ []) ≡ refused 2
unfolding read_from small
past_limit = refl

unknown : read example (1 ∷ 3 ∷ 2 ∷ 10 ∷ []) ≡ refused 1
unfolding read_from small
unknown = refl

cut : read example (2 ∷ 9 ∷ 2 ∷ []) ≡ refused 1
unfolding read_from small
cut = refl

-- the first fault counts: the byte past its limit stands before the unknown kind
first_fault : read example (2 ∷ 10 ∷ 3 ∷ []) ≡ refused 2
unfolding read_from small
first_fault = refl

-- each byte within the limit is read, whatever follows
any_byte : (b : ℕ) (t : List ℕ) (done : List ℕ) → b ≤ 9
    → read_from example (2 ∷ b ∷ t) 0 done ≡ read_from example t 0 (done ++ (b ∷ []))
unfolding small
any_byte b t done h = read_record example 2 (b ∷ []) b t done refl (rw (le-leb b 9 h))

small_most : (body : List ℕ) (a : ℕ) → small body ≡ ok a → a ≤ 9
unfolding small
small_most [] a h = let e : 0 ≡ a = cc in omega arith
small_most (b ∷ s) a h = within (leb b 9) (leb-true b 9) h where
  within : (t : Bool) → (t ≡ true → b ≤ 9) → cond t (ok b) (refused 2) ≡ ok a → a ≤ 9
  within true l h = let e : b ≡ a = cc in let m : b ≤ 9 = l refl in omega arith
  within false l h = let z : ◌≡◌ {A = ℕ} 0 1 = cc in absurd (omega arith)

-- each number that was read is within the limit
all_small : (s xs : List ℕ) → read example s ≡ ok xs → All (λ x. x ≤ 9) xs
all_small =
    kept_by_read example (All (λ x. x ≤ 9)) all[]
    (λ done k body a e j h. all_append {P = λ x. x ≤ 9} h (all∷ (small_most body a j) all[]))
