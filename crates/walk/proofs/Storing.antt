-- Behind the front of a buffer: one store fills the one place that is left, two the two that are left, and a part that is all the rest replaces it.
-- Assumes nothing.
use mathlib.Core.Path.{◌≡◌, refl, sym, ap, ap₂, ◌∙◌}
use mathlib.Core.List.{List, [], ◌∷◌, ◌++◌, append_assoc, append-nil}
use Prim.Native.Nat.{ℕ, zero, suc, ◌+◌, ◌-◌, ◌≤◌}
use native.Mathlib.Omega.{arith}
use borrow.Rule.Slice.PartMut.{mid_of, put_mid, mid_len, Post-is}
use lib.ListN.{length, replicate, get_or, set, drop, drop_of_length-le, length-append}
use lib.Seq.{drop-cons, drop-length, set_at, take_at}
use Rattle.algebra.specs.Lists.{tabulate}
use Rattle.algebra.proofs.Tables.{tabulate_front}

pub zeros : (n : ℕ) → replicate {A = ℕ} n 0 ≡ tabulate (λ i. 0) n
unfolding tabulate
zeros zero = refl
zeros (suc n) = ap (0 ∷◌) (zeros n) ∙ sym (tabulate_front (λ i. 0) n)

pub set_one : (front d : List ℕ) (n a : ℕ) → length front ≡ n → length d ≡ suc n → set (front ++ drop n d) n a ≡ front ++ (a ∷ [])
set_one front d n a h k =
    let last : length d ≤ suc n = omega arith in
    ap (λ (l : List ℕ). set (front ++ l) n a) (drop-cons d n 0 (omega arith) ∙ ap (get_or d n 0 ∷◌) (drop_of_length-le d last))
    ∙ set_at front (get_or d n 0) [] a n h

two_left : (d : List ℕ) (n : ℕ) → length d ≡ n + 2 → drop n d ≡ get_or d n 0 ∷ get_or d (suc n) 0 ∷ []
two_left d n h =
    let last : length d ≤ suc (suc n) = omega arith in
    drop-cons d n 0 (omega arith)
    ∙ ap (get_or d n 0 ∷◌)
    (drop-cons d (suc n) 0 (omega arith) ∙ ap (get_or d (suc n) 0 ∷◌) (drop_of_length-le d last))

pub set_two : (front d : List ℕ) (n a b : ℕ) → length front ≡ n → length d ≡ n + 2
    → set (set (front ++ drop n d) n a) (n + 1) b ≡ front ++ (a ∷ b ∷ [])
set_two front d n a b h k =
    let behind : length (front ++ (a ∷ [])) ≡ n + 1 = length-append front (a ∷ []) ∙ ap (◌+ 1) h in
    ap (λ (l : List ℕ). set (set (front ++ l) n a) (n + 1) b) (two_left d n k)
    ∙ ap (λ (l : List ℕ). set l (n + 1) b)
    (set_at front (get_or d n 0) (get_or d (suc n) 0 ∷ []) a n h ∙ sym (append_assoc front (a ∷ []) (get_or d (suc n) 0 ∷ [])))
    ∙ set_at (front ++ (a ∷ [])) (get_or d (suc n) 0) [] b (n + 1) behind
    ∙ append_assoc front (a ∷ []) (b ∷ [])

module _ (front rest : List ℕ) (n : ℕ) (h : length front ≡ n) where
  abbrev whole : List ℕ
  whole = front ++ rest

  pub length_rest : length (mid_of n (length whole - n) whole) ≡ length rest
  length_rest = mid_len n (length whole) whole (omega arith) ∙ omega (arith, length-append front rest)

  pub put_rest : (part : List ℕ) → put_mid n (length whole - n) whole part ≡ front ++ part
  put_rest part =
      let within : n ≤ length whole = omega (arith, length-append front rest) in
      ap₂ (λ (a b : List ℕ). a ++ (part ++ b)) (take_at front rest n h) (Post-is n (length whole) whole within ∙ drop-length whole)
      ∙ ap (front ++◌) (append-nil part)
