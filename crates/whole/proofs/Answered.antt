-- The answer of a call that writes, by its refusal: what each answer says of the refusal, and what is left in the buffer.
-- Assumes nothing.
use mathlib.Core.Path.{◌≡◌, refl, ap, ◌∙◌}
use mathlib.Core.List.{List}
use Prim.Native.Nat.{ℕ, zero, suc}
use native.Mathlib.Omega.{arith}
use borrow.Author.Tests.{ne_eqb}
use Rattle.records.specs.Outcome.{Outcome, ok, refused}
use Rattle.records.specs.Refusals.{number_of}
use Rattle.records.specs.Answers.{answered, only_if}
use Rattle.records.specs.declared.Refusal.{Refusal}
use Rattle.records.proofs.Refusals.{number_nonzero}

-- f is the number of the refusal, and n what is written where there is none
module _ (f n : ℕ) where
  pub refused_as : (r : Refusal) → number_of r ≡ f → refused (number_of r) ≡ answered f n
  unfolding answered
  refused_as r e = rw (← e, ne_eqb (number_of r) 0 (number_nonzero r))

  pub done_as : (m : ℕ) → 0 ≡ f → m ≡ n → ok m ≡ answered f n
  unfolding answered
  done_as m e h = rw (← e) (ap ok h)

  pub done_means : (m : ℕ) → ok m ≡ answered f n → f ≡ 0
  unfolding answered
  done_means m = by_number f
    where
      by_number : (f : ℕ) → ok m ≡ answered f n → f ≡ 0
      by_number zero e = refl
      by_number (suc f) e = let z : ◌≡◌ {A = Outcome ℕ} (ok m) (refused (suc f)) = e ∙ rw (ne_eqb (suc f) 0 (λ z. omega arith)) in absurd (cc)

  pub left_alone : (r : Refusal) → refused (number_of r) ≡ answered f n → (new old : List ℕ) → old ≡ only_if f new old
  unfolding answered only_if
  left_alone r = by_number f
    where
      by_number : (f : ℕ) → refused (number_of r) ≡ answered f n → (new old : List ℕ) → old ≡ only_if f new old
      by_number zero e new old = absurd (cc)
      by_number (suc f) e new old = rw (ne_eqb (suc f) 0 (λ z. omega arith))

  pub replaced : (m : ℕ) → ok m ≡ answered f n → (new old : List ℕ) → new ≡ only_if f new old
  unfolding only_if
  replaced m e new old = rw (done_means m e)
