-- What pool_every_return leaves, from the answer of the call that writes the lists. Assumes nothing.
use mathlib.Core.Path.{◌≡◌, refl, sym, ap}
use mathlib.Core.List.{List}
use Prim.Native.Nat.{ℕ}
use borrow.Author.Tests.{ne_eqb}
use lib.ListN.{length}
use Rattle.records.specs.Outcome.{ok, refused}
use Rattle.records.specs.Answers.{if_done}
use Rattle.every_return.specs.declared.Lists.{Lists}
use Rattle.every_return.specs.Listing.{listed_of, lists_out}
use Rattle.every_return.proofs.Answers.{listed_refused, listed_done}
use Rattle.pool_sheets.specs.Calls.{WritesEveryReturn}

module _ (s out : List ℕ) (lists written : ℕ) (out' : List ℕ) (h : out' ≡ lists_out s out) where
  pub lists_refused : (n : ℕ) → listed_of s (length out) ≡ refused n → WritesEveryReturn s out lists written n out' lists written
  unfolding if_done lists_out
  lists_refused n e =
      let r = listed_refused s (length out) n e in
      let none = ne_eqb n 0 r.1 in
      record {
        values = record { answer_is = sym r.0; out_is = h; written_is = rw (r.0, none) refl };
        lists_is = rw (r.0, none) refl;
      }

  pub lists_written : (d : Lists) → listed_of s (length out) ≡ ok d → WritesEveryReturn s out lists written 0 out' d.lists d.written
  unfolding if_done lists_out
  lists_written d e =
      let r = listed_done s (length out) d e in
      record {
        values = record { answer_is = sym r.0; out_is = h; written_is = rw r.0 (ap (λ (x : Lists). x.written) r.1) };
        lists_is = rw r.0 (ap (λ (x : Lists). x.lists) r.1);
      }
