-- What pool_join leaves, from the answer of joining. Assumes nothing.
use mathlib.Core.Path.{◌≡◌, refl, sym, ap}
use mathlib.Core.List.{List}
use Prim.Native.Nat.{ℕ}
use borrow.Author.Tests.{ne_eqb}
use lib.ListN.{length}
use Rattle.std.specs.Prelude.{Ok, Err}
use Rattle.records.specs.Refusals.{number_of}
use Rattle.records.specs.Answers.{if_done}
use Rattle.records.specs.declared.Refusal.{Refusal}
use Rattle.records.proofs.Refusals.{number_nonzero}
use Rattle.rules.specs.Settings.{document01}
use Rattle.rules.specs.Joining.{join_refusal}
use Rattle.joining.specs.declared.Joining.{Joining}
use Rattle.joining.specs.Calls.{joined_of}
use Rattle.joining.specs.Calls as call
use Rattle.joining.proofs.Faults.{refused_told, done_told}
use Rattle.pool_totals.specs.Calls.{Joins}

module _ (servers : ℕ) (sheet : List ℕ) (returns : ℕ) (joined out : List ℕ) (accepted written : ℕ) (out' : List ℕ) where
  abbrev refusal : ℕ
  refusal = join_refusal document01 servers sheet returns joined (length out)

  pub join_refused : (r : Refusal) → call.Joins servers sheet returns joined out (Err r) out'
      → Joins servers sheet returns joined out accepted written (number_of r) out' accepted written
  unfolding if_done joined_of
  join_refused r j =
      let f : number_of r ≡ refusal = refused_told _ _ _ j.answer_is in
      let none = ne_eqb (number_of r) 0 (number_nonzero r) in
      record {
        totals = record { answer_is = f; out_is = j.out_is; written_is = rw (sym f, none) refl };
        accepted_is = rw (sym f, none) refl;
      }

  pub join_done : (d : Joining) → call.Joins servers sheet returns joined out (Ok d) out'
      → Joins servers sheet returns joined out accepted written 0 out' d.accepted d.written
  unfolding if_done joined_of
  join_done d j =
      let r = done_told refusal _ d j.answer_is in
      record {
        totals = record { answer_is = sym r.0; out_is = j.out_is; written_is = rw r.0 (ap (λ (x : Joining). x.written) r.1) };
        accepted_is = rw r.0 (ap (λ (x : Joining). x.accepted) r.1);
      }
