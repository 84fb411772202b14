-- The multiplications that check no bit. A bit check's right input is its left input and the constant p - 1; of the others this
-- says what the right input has past that, and how g follows from f. `right_corrected` in proofs says that it does.
-- Assumes nothing.
use Rattle.std.specs.Prelude.{List, [], ◌∷◌, ◌++◌, map, ℕ, ◌+◌}
use Rattle.algebra.specs.Lists.{tabulate}
use Rattle.algebra.specs.Ops.{Ops, minus}
use Rattle.algebra.specs.Interpolation.{basis, interpolate}
use Rattle.rules.specs.Columns.{Column, entries_of}
use Rattle.rules.specs.Circuit.{Product, bits_of, products_at, gates_in}
use Rattle.rules.specs.Judging.{zero_then}

module _ (O : Ops) where
  open O use {F, ◌⊕◌, ◌⊗◌, 𝟘}

  infixl 65 ◌⊕◌
  infixl 70 ◌⊗◌
  -- c is what the constant p - 1 comes to, x are the entries
  module _ (c : F) (x : ℕ → F) where
    -- v - u - c of one product
    unfoldable pub product_extra : Product → F
    product_extra p = minus O (minus O (x p.right) (x p.left)) c

    -- at each multiplication of a column, 0 where it checks a bit
    unfoldable pub column_extras : ℕ → Column → List F
    column_extras e k = tabulate (λ i. 𝟘) (bits_of k) ++ map product_extra (products_at e k)

    unfoldable pub walk_extras : ℕ → List Column → List F
    walk_extras e [] = []
    walk_extras e (k ∷ cs) = column_extras e k ++ walk_extras (e + entries_of k) cs

    -- the polynomial through these at 1..M and through 0 at 0
    abbrev pub extra_at : List Column → F → F
    extra_at cs r = interpolate O (gates_in cs) (zero_then O 𝟘 (walk_extras 0 cs)) r

    -- g at r from f at r, where they are v and u at 0: added are the polynomial that is v - u at 0 and c at 1..M, and this one
    abbrev pub corrected : List Column → F → F → F → F → F
    corrected cs f u v r = f ⊕ (c ⊕ minus O (minus O v u) c ⊗ basis O (gates_in cs) 0 r) ⊕ extra_at cs r
