-- What pool_line leaves, from the answer of the call: a refusal leaves the three numbers, else they are the line's. Assumes nothing.
use mathlib.Core.Path.{◌≡◌, refl, sym, ap, ◌∙◌}
use mathlib.Core.List.{List}
use Prim.Native.Nat.{ℕ}
use borrow.Author.Tests.{ne_eqb}
use lib.IntN.{ℤ}
use Rattle.records.specs.Outcome.{ok, refused}
use Rattle.records.specs.Refusals.{number_of}
use Rattle.records.specs.declared.Refusal.{Refusal}
use Rattle.records.proofs.Refusals.{number_nonzero}
use Rattle.rules.specs.Settings.{document01}
use Rattle.rules.specs.Line.{line_refusal}
use Rattle.joining.proofs.Faults.{refused_told, done_told}
use Rattle.line.specs.declared.Line.{Line}
use Rattle.line.specs.Calls.{fit_of}
use Rattle.pool_totals.specs.Calls.{signed_if, TellsLine}

module _ (servers : ℕ) (sheet : List ℕ) (returns : ℕ) (joined : List ℕ) (column : ℕ) (determinant slope intercept : ℤ) where
  abbrev refusal : ℕ
  refusal = line_refusal document01 servers sheet returns joined column

  pub line_refused : (r : Refusal) → refused (number_of r) ≡ fit_of servers sheet returns joined column
      → TellsLine servers sheet returns joined column determinant slope intercept (number_of r) determinant slope intercept
  unfolding fit_of signed_if
  line_refused r e =
      let g : number_of r ≡ refusal = refused_told _ _ _ e in
      let some = ne_eqb (number_of r) 0 (number_nonzero r) in
      record {
        answer_is = g;
        determinant_is = rw (sym g, some) refl;
        slope_is = rw (sym g, some) refl;
        intercept_is = rw (sym g, some) refl;
      }

  pub line_done : (l : Line) → ok l ≡ fit_of servers sheet returns joined column
      → (d s i : ℤ) → d ≡ l.determinant → s ≡ l.slope → i ≡ l.intercept
      → TellsLine servers sheet returns joined column determinant slope intercept 0 d s i
  unfolding fit_of signed_if
  line_done l e d s i d_is s_is i_is =
      let r = done_told refusal _ l e in
      record {
        answer_is = sym r.0;
        determinant_is = rw r.0 (d_is ∙ ap (λ (x : Line). x.determinant) r.1);
        slope_is = rw r.0 (s_is ∙ ap (λ (x : Line). x.slope) r.1);
        intercept_is = rw r.0 (i_is ∙ ap (λ (x : Line). x.intercept) r.1);
      }
