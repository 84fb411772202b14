-- `snip::first_only` meets its contract: the number of a server is 0, or one more than another number. Assumes nothing.
use mathlib.Core.Path.{◌≡◌, refl}
use Prim.Native.Nat.{ℕ, zero, suc}
use native.Mathlib.Omega.{arith}
use borrow.Author.Tests.{ne_eqb}
use lib.Dec.{eqb}
use mir.Val.{bool_byte}
use Rattle.field.specs.Residues.{residues}
use Rattle.rules.specs.Judging.{first_only}
use Rattle.snip.proofs.first_only.Goals as goal

by_number : (n : ℕ) → bool_byte (eqb n 0) ≡ first_only residues n
unfolding first_only
by_number zero = refl
by_number (suc n) = rw (ne_eqb (suc n) 0 (λ z. omega arith)) refl

pub returns : goal.returns
returns c = by_number c.args.own
