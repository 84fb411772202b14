-- `walk::point_extras` meets its contract: zeros at the bits, and two stores behind them. Assumes nothing.
use mathlib.Core.Path.{◌≡◌, ap, ap₂, ◌∙◌}
use mathlib.Core.List.{List, [], ◌∷◌, ◌++◌}
use Prim.Native.Nat.{ℕ, ◌*◌}
use native.Mathlib.Omega.{arith}
use lib.ListN.{length}
use lib.Seq.{length-take-le}
use Rattle.algebra.specs.Lists.{tabulate}
use Rattle.algebra.proofs.Tables.{length_tabulate}
use Rattle.field.proofs.Below.{member_below}
use Rattle.rules.specs.Circuit.{bits_of, products_at}
use Rattle.rules.specs.Products.{product_extra, column_extras}
use Rattle.walk.proofs.Storing.{zeros, set_two}
use Rattle.walk.proofs.point_extras.Goals as goal

pub product_extra-requires : goal.product_extra-requires
product_extra-requires c =
    (member_below _ _ c.requires.0, member_below _ _ c.requires.0, c.requires.1)

pub product_extra-requires-2 : goal.product_extra-requires-2
product_extra-requires-2 c =
    (member_below _ _ c.requires.0, member_below _ _ c.requires.0, c.requires.1)

pub returns : goal.returns
unfolding column_extras bits_of products_at product_extra
returns c =
    let a = c.args in
    let long = length-take-le (2 * a.n) a.out.now (omega (arith, c.requires.3)) in
    let front : c.fill.new.self ≡ tabulate (λ i. 0) (2 * a.n)
    = c.fill.ensures.after (λ y e. e) ∙ zeros _ ∙ ap (tabulate (λ i. 0)) long in
    set_two c.fill.new.self a.out.now (2 * a.n) _ _ (ap length front ∙ length_tabulate (λ i. 0) (2 * a.n)) c.requires.3
    ∙ ap₂ (λ (l m : List ℕ). l ++ m) front
    (ap₂ (λ (u v : ℕ). u ∷ v ∷ []) c.product_extra.ensures c.product_extra-2.ensures)
