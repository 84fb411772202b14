-- What the two calls leave, by the refusal. Assumes nothing.
use Rattle.std.proofs.Common.{◌≡◌, ℕ, ◌*◌, List, length, ◌∙◌}
use borrow.Author.Tests.{ne_eqb}
use Rattle.std.specs.Prelude.{Result, Ok}
use Rattle.words.specs.Bytes.{splice}
use Rattle.records.specs.Answers.{answered, only_if}
use Rattle.records.specs.Outcome.{refused}
use Rattle.records.specs.Refusals.{number_of, outcome_of}
use Rattle.records.specs.declared.Refusal.{Refusal}
use Rattle.records.proofs.Refusals.{number_nonzero}
use Rattle.rules.specs.Settings.{document01}
use Rattle.rules.specs.Shelf.{shelf_refusal}
use Rattle.shelf.specs.Calls.{Stores}

module _ (ys : List ℕ) (r w : ℕ) (run out : List ℕ) where
  pub is_refused : (a : Result ℕ Refusal) (e : Refusal) → outcome_of a ≡ refused (number_of e)
      → number_of e ≡ shelf_refusal document01 r w (length run) (length out) → Stores ys r w run out a out
  unfolding answered only_if
  is_refused a e p h = record {
    answer_is = p ∙ rw (← h, ne_eqb (number_of e) 0 (number_nonzero e));
    out_is = rw (← h, ne_eqb (number_of e) 0 (number_nonzero e));
  }

  pub is_done : (n : ℕ) → shelf_refusal document01 r w (length run) (length out) ≡ 0 → n ≡ r * w
      → (out' : List ℕ) → out' ≡ splice out 0 ys → Stores ys r w run out (Ok n) out'
  unfolding answered only_if
  is_done n e q out' f = record { answer_is = rw (e, q); out_is = rw (e, f) }
