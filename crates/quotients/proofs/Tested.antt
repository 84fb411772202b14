-- A table that passes one test over its entries, number times inverse leaves 1, holds the inverses: where a times x leaves
-- 1 and so does a times y, x is x a y, which is y. Assumes nothing.
use mathlib.Core.Path.{◌≡◌, sym, ap, ◌∙◌}
use mathlib.Core.Bool.{Bool, true, ◌&&◌}
use mathlib.Core.List.{List, [], ◌∷◌}
use Prim.Native.Nat.{ℕ, zero, suc, ◌+◌, ◌*◌, ◌%◌, ◌≤◌, ◌<◌}
use native.Mathlib.Nat.{mod-mod, mod-eq_of_lt, add-zero}
use native.Mathlib.Omega.{arith}
use borrow.Author.Tests.{eqb-true, ltb-true}
use lib.Dec.{eqb, ltb}
use lib.ListN.{length, get_or, take}
use lib.Seq.{length-take-le, get_or-take, take-length}
use Rattle.algebra.specs.Lists.{tabulate}
use Rattle.algebra.specs.Modulo.{inverse_from}
use Rattle.algebra.proofs.Inverse.{inverse_right}
use Rattle.algebra.proofs.Members.{and_left, and_right}
use Rattle.algebra.proofs.Remainders.{mul_mod}
use Rattle.algebra.proofs.Tables.{tabulate_cong, tabulate_get_d}
use Rattle.algebra.proofs.Trial.{prime_2147483647}
use Rattle.field.specs.Residues.{prime, residues}
use Rattle.quotients.specs.Factorials.{Inverses}

-- x is an element, and a times x leaves 1
abbrev pub is_inverse : ℕ → ℕ → Bool
is_inverse a x = ltb x prime && eqb ((a * x) % prime) 1

-- the members are 1 over a, 1 over a + 1, ..
abbrev pub are_inverses : ℕ → List ℕ → Bool
are_inverses a [] = true
are_inverses a (x ∷ s) = is_inverse a x && are_inverses (suc a) s

-- a factor that leaves 1 may be left out
left_out_lem : (n m : ℕ) → m % prime ≡ 1 → (n * m) % prime ≡ n % prime
left_out_lem n m e =
    mul_mod n m prime
    ∙ ap (λ (z : ℕ). (n % prime * z) % prime) e
    ∙ ap (λ (z : ℕ). z % prime) (omega arith)
    ∙ mod-mod n prime

inverse_of : (a x : ℕ) → 0 < a → a < prime → is_inverse a x ≡ true → x ≡ residues.inv a
inverse_of a x pos small h =
    let y = inverse_from prime a a in
    let lt : x < prime = ltb-true x prime (and_left (ltb x prime) (eqb ((a * x) % prime) 1) h) in
    let e : (a * x) % prime ≡ 1 = eqb-true _ _ (and_right (ltb x prime) (eqb ((a * x) % prime) 1) h) in
    let one : (a * y) % prime ≡ 1 = inverse_right prime prime_2147483647 a a (omega arith) pos small in
    let turned : x * (a * y) ≡ y * (a * x) = omega arith in
    sym (mod-eq_of_lt lt)
    ∙ sym (left_out_lem x (a * y) one)
    ∙ ap (λ (z : ℕ). z % prime) turned
    ∙ left_out_lem y (a * x) e

inverse_at : (a : ℕ) (s : List ℕ) → 0 < a → a + length s ≤ prime → are_inverses a s ≡ true → (i : ℕ) → i < length s
    → get_or s i 0 ≡ residues.inv (a + i)
inverse_at a [] pos few h i l = absurd (omega arith)
inverse_at a (x ∷ s) pos few h zero l =
    inverse_of a x pos (omega arith) (and_left (is_inverse a x) (are_inverses (suc a) s) h)
    ∙ ap residues.inv (sym (add-zero a))
inverse_at a (x ∷ s) pos few h (suc i) l =
    inverse_at (suc a) s (omega arith) (omega arith) (and_right (is_inverse a x) (are_inverses (suc a) s) h) i (omega arith)
    ∙ ap residues.inv (omega arith)

-- the first n members of a list, as a table
pub firsts : (t : List ℕ) (n : ℕ) → n ≤ length t → tabulate (λ i. get_or t i 0) n ≡ take n t
firsts t n l =
    tabulate_cong _ _ n (λ i k. sym (get_or-take n t i 0 k))
    ∙ ap (tabulate (λ i. get_or (take n t) i 0)) (sym (length-take-le n t l))
    ∙ tabulate_get_d 0 (take n t)

-- those of a table of inverses that passes its test
pub inverses_tested : (t : List ℕ) (n : ℕ) → are_inverses 1 t ≡ true → length t < prime → n ≤ length t
    → take n t ≡ tabulate (λ i. residues.inv (suc i)) n
inverses_tested t n h few l =
    sym (firsts t n l)
    ∙ tabulate_cong _ _ n
    (λ i k. inverse_at 1 t (omega arith) (omega arith) h i (omega arith) ∙ ap residues.inv (omega arith))

-- the whole of it
pub all_tested : (t : List ℕ) → are_inverses 1 t ≡ true → length t < prime → Inverses t
all_tested t h few = sym (take-length t) ∙ inverses_tested t (length t) h few (omega arith)
