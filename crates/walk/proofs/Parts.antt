-- A part of a list: its length, its members by their places in the list, and buffers that it is copied to the front of.
-- Assumes that it lies within the list.
use mathlib.Core.Path.{◌≡◌, sym, ap, ◌∙◌}
use mathlib.Core.List.{List, [], ◌∷◌, ◌++◌}
use Prim.Native.Nat.{ℕ, suc, ◌+◌, ◌-◌, ◌≤◌, ◌<◌}
use native.Mathlib.Omega.{arith}
use lib.ListN.{length, get_or, set, take, drop, length-drop}
use lib.Seq.{length-take-le}
use Rattle.std.proofs.lemmas.List.{get_or-take, get_or-drop}
use Rattle.algebra.specs.Lists.{tabulate}
use Rattle.algebra.proofs.Tables.{length_tabulate, tabulate_cong, tabulate_get_d}
use Rattle.walk.specs.Walks.{members}
use Rattle.walk.proofs.Storing.{set_one, set_two}

module _ (x : List ℕ) (first n : ℕ) (h : first + n ≤ length x) where
  abbrev part : List ℕ
  part = take (first + n - first) (drop first x)

  pub part_long : length part ≡ n
  part_long =
      let within : first + n - first ≤ length (drop first x) = rw (length-drop first x) (omega arith) in
      length-take-le (first + n - first) (drop first x) within ∙ omega arith

  pub part_at : (i : ℕ) → i < length part → get_or part i 0 ≡ members x (first + i)
  part_at i k =
      let within : i < first + n - first = omega (arith, part_long) in
      get_or-take (first + n - first) (drop first x) i 0 within ∙ get_or-drop first x i 0

  pub part_is : part ≡ tabulate (λ i. members x (first + i)) n
  part_is =
      sym (tabulate_get_d 0 part) ∙ tabulate_cong _ _ (length part) part_at
      ∙ ap (tabulate (λ i. members x (first + i))) part_long

  -- what is filled with its members, n places of a buffer
  pub filled_part : (out : List ℕ) {front : List ℕ} → n ≤ length out
      → front ≡ tabulate (λ i. members x (first + i)) (length (take n out)) → front ≡ part
  filled_part out k e =
      e ∙ ap (tabulate (λ i. members x (first + i))) (length-take-le n out k) ∙ sym part_is

  -- the part in front, and what is stored behind it
  module _ (out : List ℕ) where
    pub copied_one : (a : ℕ) {front : List ℕ} → length out ≡ suc n → front ≡ part
        → set (front ++ drop n out) n a ≡ tabulate (λ i. members x (first + i)) n ++ (a ∷ [])
    copied_one a {front} k e =
        let f : front ≡ tabulate (λ i. members x (first + i)) n = e ∙ part_is in
        set_one front out n a (ap length f ∙ length_tabulate _ n) k ∙ ap (◌++ (a ∷ [])) f

    pub copied_two : (a b : ℕ) {front : List ℕ} → length out ≡ suc (suc n) → front ≡ part
        → set (set (front ++ drop n out) n a) (n + 1) b ≡ tabulate (λ i. members x (first + i)) n ++ (a ∷ b ∷ [])
    copied_two a b {front} k e =
        let f : front ≡ tabulate (λ i. members x (first + i)) n = e ∙ part_is in
        set_two front out n a b (ap length f ∙ length_tabulate _ n) (omega arith) ∙ ap (◌++ (a ∷ b ∷ [])) f
