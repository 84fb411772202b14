-- What a function that writes leaves, from the answer of its call. An answer says the refusal, and the length where there is none.
-- Assumes nothing.
use mathlib.Core.Path.{◌≡◌, refl, ap, ◌∙◌}
use mathlib.Core.List.{List}
use Prim.Native.Nat.{ℕ, zero, suc}
use native.Mathlib.Omega.{arith}
use borrow.Author.Tests.{ne_eqb}
use Rattle.std.specs.Prelude.{Result, Ok, Err}
use Rattle.words.specs.Bytes.{splice}
use Rattle.records.specs.Outcome.{Outcome, ok, refused}
use Rattle.records.specs.Refusals.{fault_of, outcome_of}
use Rattle.records.specs.Answers.{answered, only_if, if_done, length_of, Writes}
use Rattle.records.specs.declared.Refusal.{Refusal}

-- an outcome as the number of its refusal, and what it leaves behind `written`
unfoldable number_in : Outcome ℕ → ℕ
number_in (ok n) = 0
number_in (refused r) = r

unfoldable length_in : Outcome ℕ → ℕ → ℕ
length_in (ok n) written = n
length_in (refused r) written = written

number_of_answered : (f n : ℕ) → number_in (answered f n) ≡ f
unfolding number_in answered
number_of_answered zero n = refl
number_of_answered (suc f) n = rw (ne_eqb (suc f) 0 (λ z. omega arith)) refl

length_of_answered : (f n w : ℕ) → length_in (answered f n) w ≡ if_done f n w
unfolding length_in answered if_done
length_of_answered zero n w = refl
length_of_answered (suc f) n w = rw (ne_eqb (suc f) 0 (λ z. omega arith)) refl

number_is : (a : Result ℕ Refusal) → fault_of a ≡ number_in (outcome_of a)
unfolding number_in
number_is (Ok n) = refl
number_is (Err r) = refl

length_is : (a : Result ℕ Refusal) (w : ℕ) → length_of a w ≡ length_in (outcome_of a) w
unfolding length_in
length_is (Ok n) w = refl
length_is (Err r) w = refl

-- an answer and what the call left in the buffer are what the function promises
pub writes : (refusal : ℕ) (bytes : List ℕ) (n : ℕ) (out : List ℕ) (written : ℕ) (a : Result ℕ Refusal) (r : ℕ) (out' : List ℕ) (w' : ℕ)
    → outcome_of a ≡ answered refusal n → out' ≡ only_if refusal (splice out 0 bytes) out → r ≡ fault_of a → w' ≡ length_of a written
    → Writes refusal bytes n out written r out' w'
writes refusal bytes n out written a r out' w' e o q l = record {
  answer_is = q ∙ number_is a ∙ ap number_in e ∙ number_of_answered refusal n;
  out_is = o;
  written_is = l ∙ length_is a written ∙ ap (λ (x : Outcome ℕ). length_in x written) e ∙ length_of_answered refusal n written;
}
