-- `share_message::brings_seed` meets its contract: an empty message has no kind byte, and of another the test is the
-- definition's (`first_is`). Assumes nothing.
use mathlib.Core.Path.{◌≡◌, refl, ◌∙◌}
use mathlib.Core.Bool.{Bool}
use mathlib.Core.List.{List, [], ◌∷◌}
use Prim.Native.Nat.{ℕ}
use lib.Dec.{eqb}
use Rattle.std.specs.Prelude.{Option, Some, None, slice_get, option_copied}
use Rattle.std.specs.Borrow.{Bor}
use Rattle.std.specs.Option.{option_eq}
use Rattle.rules.specs.Messages.{brings_seed}
use Rattle.share_message.proofs.brings_seed.Goals as goal

abbrev same : Bor ℕ → Bor ℕ → Bool
same x y = eqb x.now y.now

first_is : (m : List ℕ) (r : Option (Bor ℕ)) (k : Bor ℕ) → option_copied r ≡ slice_get m 0 → k.now ≡ 38
    → option_eq same r (Some k) ≡ brings_seed m
unfolding brings_seed
first_is [] None k e s = refl
first_is [] (Some x) k e s = cc
first_is (a ∷ m) None k e s = cc
first_is (a ∷ m) (Some x) k e s = let f : x.now ≡ a = cc in rw (s, f) refl

pub returns : goal.returns
returns c = c.eq.ensures ∙ first_is c.args.m.now c.first.result _ c.first.ensures.value refl
