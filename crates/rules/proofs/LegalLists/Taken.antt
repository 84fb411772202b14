-- Making takes each list: its values are told back from their 4 bytes, as none has more than 24 bits, and they are legal.
-- Assumes nothing.
use mathlib.Core.Path.{◌≡◌, ap, ◌∙◌}
use mathlib.Core.Bool.{true}
use mathlib.Core.List.{List, [], ◌∷◌}
use Prim.Native.Nat.{ℕ, ◌*◌, ◌^◌, ◌≤◌, ◌<◌}
use native.Mathlib.Nat.{pow-le-pow_right, mul-le-mul}
use native.Mathlib.Omega.{arith}
use borrow.Author.Tests.{ltb-true, eq-eqb}
use lib.Dec.{ltb}
use lib.ListN.{length}
use Rattle.algebra.specs.Lists.{All, all[], all∷}
use Rattle.algebra.proofs.Members.{all_in, and_left, and_right}
use Rattle.words.specs.Bytes.{bytes_of_all, elements_of}
use Rattle.words.proofs.Elements.{length_bytes_all, elements_bytes}
use Rattle.rules.specs.Columns.{Column, yes_no, choice, number, top, point, values_of, columns_of}
use Rattle.rules.specs.Values.{legal_values}
use Rattle.rules.specs.Making.{values_fault}
use Rattle.rules.specs.EveryReturn.{legal_lists, ListsTaken}
use Rattle.rules.proofs.Circuits.Limits.{InLimits}
use Rattle.rules.proofs.Circuits.Refusals.{sheet_limits_lem}
use Rattle.rules.proofs.LegalLists.Members.{in_legal}
use Rattle.rules.proofs.LegalLists.Counted.{lists_long}

values_most : (c : Column) → InLimits c → values_of c ≤ 16777216
unfolding values_of
values_most yes_no h = omega arith
values_most (choice n) h = omega (arith, h.1)
values_most (top n) h = omega (arith, h.1)
values_most (point n) h =
    let low : 2 ^ n ≤ 2 ^ 12 = pow-le-pow_right (omega arith) h.1 in
    let most : 2 ^ n * 2 ^ n ≤ 2 ^ 12 * 2 ^ 12 = mul-le-mul low low in
    omega arith
values_most (number n) h = let most : 2 ^ n ≤ 2 ^ 24 = pow-le-pow_right (omega arith) h.1 in omega arith

values_low : (cs : List Column) → All InLimits cs → (vs : List ℕ) → legal_values cs vs ≡ true → All (λ x. x < 256 ^ 4) vs
unfolding legal_values
values_low cs h [] e = all[]
values_low [] all[] (v ∷ vs) e = absurd (let z : ◌≡◌ {A = ℕ} 0 1 = cc in omega arith)
values_low (c ∷ cs) (all∷ h hs) (v ∷ vs) e =
    let within = ltb-true v (values_of c) (and_left _ (legal_values cs vs) e) in
    let low : v < 256 ^ 4 = omega (arith, within, values_most c h) in
    all∷ low (values_low cs hs vs (and_right (ltb v (values_of c)) _ e))

pub lists_taken : ListsTaken
unfolding values_fault
lists_taken sheet vs f h =
    let cs = columns_of sheet in
    let legal : legal_values cs vs ≡ true = in_legal cs vs h in
    let told : elements_of 4 (bytes_of_all 4 vs) ≡ vs
    = elements_bytes 4 (omega arith) vs (values_low cs (sheet_limits_lem sheet f).in_limits vs legal) in
    let long : length (bytes_of_all 4 vs) ≡ 4 * length cs
    = length_bytes_all 4 vs ∙ ap (λ (n : ℕ). 4 * n) (all_in vs (legal_lists cs) (lists_long cs) h) in
    rw (told, legal, eq-eqb (length (bytes_of_all 4 vs)) (4 * length cs) long)
