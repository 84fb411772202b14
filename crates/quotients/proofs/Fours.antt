-- The first n members of a list of inverses in fours, and the rest of them. Assumes nothing.
use mathlib.Core.Path.{◌≡◌, ap, ◌∙◌}
use mathlib.Core.List.{List, []}
use Prim.Native.Nat.{ℕ, zero, suc, ◌+◌, ◌*◌, ◌/◌, ◌%◌, ◌≤◌, ◌<◌}
use native.Mathlib.Omega.{arith}
use lib.ListN.{length, length-drop, get_or, take, drop}
use lib.Seq.{length-take-le, get_or-drop, get_or-take}
use Rattle.std.specs.Simd.{first_chunks}
use Rattle.field.specs.Residues.{prime, residues}
use Rattle.field.proofs.Below.{inverse_below}
use Rattle.quotients.specs.Factorials.{Inverses}
use Rattle.quotients.proofs.Products.{member_is}

four_at : (k i j : ℕ) (t : List ℕ) → i < k → k * 4 ≤ length t → j < 4
    → get_or (get_or (first_chunks 4 k t) i []) j 0 ≡ get_or t (i * 4 + j) 0
four_at zero i j t h l m = absurd (omega arith)
four_at (suc k) zero j t h l m =
    let e : j ≡ 0 * 4 + j = omega arith in
    get_or-take 4 t j 0 m ∙ ap (λ (n : ℕ). get_or t n 0) e
four_at (suc k) (suc i) j t h l m =
    let e : 4 + (i * 4 + j) ≡ suc i * 4 + j = omega arith in
    four_at k i j (drop 4 t) (omega arith) (omega (arith, length-drop 4 t)) m
    ∙ get_or-drop 4 t (i * 4 + j) 0
    ∙ ap (λ (n : ℕ). get_or t n 0) e

module _ (s : List ℕ) (are : Inverses s) (n : ℕ) (within : n ≤ length s) where
  firsts : (i k : ℕ) → i < n → suc i ≡ k → get_or (take n s) i 0 ≡ residues.inv k
  firsts i k h e = get_or-take n s i 0 h ∙ member_is s are i k (omega arith) e

  module _ {fours : List (List ℕ)} (front : fours ≡ first_chunks 4 (length (take n s) / 4) (take n s))
      (count : length fours ≡ length (take n s) / 4) where
    -- member j of four i
    pub four_is : (i j : ℕ) → i < length fours → j < 4 → get_or (get_or fours i []) j 0 ≡ residues.inv (i * 4 + suc j)
    four_is i j h m =
        let long = length-take-le n s within in
        ap (λ (t : List (List ℕ)). get_or (get_or t i []) j 0) front
        ∙ four_at (length (take n s) / 4) i j (take n s) (omega arith) (omega arith) m
        ∙ firsts (i * 4 + j) (i * 4 + suc j) (omega arith) (omega arith)

    pub four_low : (i j : ℕ) → i < length fours → j < 4 → get_or (get_or fours i []) j 0 < prime
    four_low i j h m = rw (four_is i j h m) (inverse_below (i * 4 + suc j))

  module _ {rest : List ℕ} (back : rest ≡ drop (length (take n s) / 4 * 4) (take n s))
      (count : length rest ≡ length (take n s) % 4) where
    -- member i of the rest
    pub rest_is : (i : ℕ) → i < length rest → get_or rest i 0 ≡ residues.inv (suc (n / 4 * 4 + i))
    rest_is i h =
        let long = length-take-le n s within in
        ap (λ (t : List ℕ). get_or t i 0) back
        ∙ get_or-drop (length (take n s) / 4 * 4) (take n s) i 0
        ∙ firsts (length (take n s) / 4 * 4 + i) (suc (n / 4 * 4 + i)) (omega arith) (omega arith)

    pub rest_low : (i : ℕ) → i < length rest → get_or rest i 0 < prime
    rest_low i h = rw (rest_is i h) (inverse_below (suc (n / 4 * 4 + i)))
