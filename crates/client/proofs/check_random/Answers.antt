-- `client::check_random` meets its contract: each test that led to a return is put into the definition, which then
-- computes. Assumes nothing.
use mathlib.Core.Path.{◌≡◌, sym, ◌∙◌}
use mathlib.Core.Bool.{Bool, true, false}
use mathlib.Core.List.{List}
use Prim.Native.Nat.{ℕ, ◌-◌, ◌+◌, ◌*◌}
use borrow.Author.Tests.{eq-eqb, ne_eqb}
use lib.ListN.{length}
use Rattle.words.specs.Bytes.{elements_of, all_below}
use Rattle.field.specs.Residues.{prime}
use Rattle.rules.specs.Columns.{check}
use Rattle.client.specs.Pieces.{random_fault_at}
use Rattle.client.proofs.check_random.Goals as goal
use Rattle.client.proofs.check_random.Goals.{then-random-shares-via-then-random-shares as wrong_length, then-random-shares-via-else-random-shares+then-not-below as not_below}

-- of the right length, the elements decide
by_elements : (servers size : ℕ) (random : List ℕ) (b : Bool) → length random ≡ 4 * ((servers - 1) * size + 4)
    → all_below prime (elements_of 4 random) ≡ b → random_fault_at servers size random ≡ check b 6
unfolding random_fault_at
by_elements servers size random b l e = rw (eq-eqb _ _ l, e)

pub returns-then-random-shares : goal.returns-then-random-shares
unfolding random_fault_at
returns-then-random-shares c =
    elim c.then-random-shares.branch [
      | wrong_length w ↦ rw (ne_eqb _ _ w.if-random-shares.true)
      | not_below w ↦ sym (by_elements _ _ _ false w.if-random-shares.false (sym w.below.ensures ∙ w.if-not-below.true))
    ]

pub returns : goal.returns
returns c = sym (by_elements _ _ _ true c.if-random-shares.false (sym c.below.ensures ∙ c.if-not-below.false))
