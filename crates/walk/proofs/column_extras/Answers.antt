-- `walk::column_extras` meets its contract: zeros where all multiplications check bits, and a point by itself. Assumes nothing.
use mathlib.Core.Path.{◌≡◌, sym, ap, ◌∙◌}
use mathlib.Core.Logic.{◌⊎◌, inl, inr}
use Prim.Native.Nat.{ℕ}
use native.Mathlib.Omega.{arith}
use Rattle.algebra.specs.Lists.{tabulate}
use Rattle.field.specs.Residues.{residues}
use Rattle.rules.specs.Columns.{entries_of}
use Rattle.rules.specs.Circuit.{products_at, gates_of, products_of}
use Rattle.rules.specs.Products.{column_extras}
use Rattle.columns.specs.declared.Column as code
use Rattle.columns.specs.declared.Column.TheVariants as kind
use Rattle.columns.specs.Kinds.{from_code}
use Rattle.walk.specs.Walks.{members}
use Rattle.walk.proofs.BitsOnly.{extras_bits}
use Rattle.walk.proofs.Storing.{zeros}
use Rattle.walk.proofs.column_extras.Goals as goal

-- the kinds of the first arm
no_products : (k : code.Column)
    → (k ≡ kind.YesNo) ⊎ ((n : ℕ) × (k ≡ kind.Choice n)) ⊎ ((n : ℕ) × (k ≡ kind.Number n)) ⊎ ((n : ℕ) × (k ≡ kind.Top n))
    → products_of (from_code k) ≡ 0
unfolding products_of products_at
no_products k (inl e) = ap (λ (k : code.Column). products_of (from_code k)) e
no_products k (inr (inl e)) = ap (λ (k : code.Column). products_of (from_code k)) e.1
no_products k (inr (inr (inl e))) = ap (λ (k : code.Column). products_of (from_code k)) e.1
no_products k (inr (inr (inr e))) = ap (λ (k : code.Column). products_of (from_code k)) e.1

pub point_extras-requires : goal.point_extras-requires
unfolding entries_of gates_of
point_extras-requires c =
    let told = c.in-Point.is in
    let entries = ap (λ (k : code.Column). entries_of (from_code k)) told in
    let gates = ap (λ (k : code.Column). gates_of (from_code k)) told in
    (c.requires.elements.0, c.requires.elements.1, omega (arith, c.requires.column_in_bounds.0, entries), c.requires.column_in_bounds.1 ∙ gates)

pub returns-in-YesNo : goal.returns-in-YesNo
returns-in-YesNo c =
    let a = c.args in
    let bits = extras_bits (from_code a.column) a.e (no_products a.column c.in-YesNo.is) a.constant in
    c.fill.ensures.after (λ y e. e) ∙ zeros _ ∙ ap (tabulate (λ i. 0)) c.requires.column_in_bounds.1 ∙ sym (bits (members a.x.now))

pub returns-in-Point : goal.returns-in-Point
returns-in-Point c =
    let a = c.args in
    c.point_extras.ensures
    ∙ sym
    (ap (λ (k : code.Column). column_extras residues a.constant (members a.x.now) a.e (from_code k)) c.in-Point.is)
