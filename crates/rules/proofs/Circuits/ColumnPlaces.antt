-- A column behind other columns: its value, its entries in the encoding, and its published entries each stand where those
-- of the columns in front end. By the columns in front. Assumes nothing.
use mathlib.Core.Path.{◌≡◌, refl, ◌∙◌, ap}
use mathlib.Core.Bool.{true, false}
use mathlib.Core.List.{List, [], ◌∷◌, ◌++◌}
use Prim.Native.Nat.{ℕ, zero, suc, ◌+◌, ◌<◌}
use native.Mathlib.Nat.{zero-add}
use native.Mathlib.Omega.{arith}
use lib.ListN.{length, get_or, get_or-append}
use lib.Seq.{get_or-append-add}
use Rattle.algebra.specs.Lists.{count_from}
use Rattle.rules.specs.Columns.{Column, entries_of, published_of, values_of, entries_in, published_in, published_from}
use Rattle.rules.specs.Values.{encoded, legal_values, encoding}
use Rattle.rules.proofs.Circuits.Limits.{count_length}
use Rattle.rules.proofs.Circuits.Encoding.{not_legal, legal_head, legal_tail, encoding_head, encoding_tail}

count_at : (a n i : ℕ) → i < n → get_or (count_from a n) i 0 ≡ a + i
unfolding count_from
count_at a zero i l = absurd (omega arith)
count_at a (suc n) zero l = omega arith
count_at a (suc n) (suc i) l =
    let e : get_or (count_from (suc a) n) i 0 ≡ suc a + i = count_at (suc a) n i (omega arith) in
    omega arith

module _ (c : Column) (after : List Column) where
  -- its value
  pub value_behind : (before : List Column) (vs : List ℕ) → legal_values (before ++ (c ∷ after)) vs ≡ true
      → get_or vs (length before) 0 < values_of c
  unfolding legal_values
  value_behind [] [] h = absurd (not_legal false refl h)
  value_behind [] (v ∷ vs) h = legal_head c after v vs h
  value_behind (d ∷ before) [] h = absurd (not_legal false refl h)
  value_behind (d ∷ before) (v ∷ vs) h = value_behind before vs (legal_tail d (before ++ (c ∷ after)) v vs h)

  -- its entries
  pub entry_behind : (i : ℕ) → i < entries_of c → (before : List Column) (vs : List ℕ)
      → legal_values (before ++ (c ∷ after)) vs ≡ true
      → get_or (encoding (before ++ (c ∷ after)) vs) (entries_in before + i) 0 ≡ encoded c (get_or vs (length before) 0) i
  unfolding legal_values entries_in
  entry_behind i l [] [] h = absurd (not_legal false refl h)
  entry_behind i l [] (v ∷ vs) h =
      ap (λ k. get_or (encoding (c ∷ after) (v ∷ vs)) k 0) (zero-add i) ∙ encoding_head c after v vs i l
  entry_behind i l (d ∷ before) [] h = absurd (not_legal false refl h)
  entry_behind i l (d ∷ before) (v ∷ vs) h =
      let all = before ++ (c ∷ after) in
      let place : entries_of d + entries_in before + i ≡ entries_of d + (entries_in before + i) = omega arith in
      ap (λ k. get_or (encoding (d ∷ all) (v ∷ vs)) k 0) place
      ∙ encoding_tail d all v vs (entries_in before + i)
      ∙ entry_behind i l before vs (legal_tail d all v vs h)

  pub entry_within : (i : ℕ) → i < entries_of c → (before : List Column)
      → entries_in before + i < entries_in (before ++ (c ∷ after))
  unfolding entries_in
  entry_within i l [] = omega arith
  entry_within i l (d ∷ before) =
      let h : entries_in before + i < entries_in (before ++ (c ∷ after)) = entry_within i l before in
      omega arith

  -- its published entries
  pub published_behind : (i : ℕ) → i < published_of c → (before : List Column) (a : ℕ)
      → get_or (published_from a (before ++ (c ∷ after))) (published_in before + i) 0 ≡ a + (entries_in before + i)
  unfolding published_from published_in entries_in
  published_behind i l [] a =
      let long : length (count_from a (published_of c)) ≡ published_of c = count_length a (published_of c) in
      get_or-append (count_from a (published_of c)) (published_from (a + entries_of c) after) 0 (0 + i) (omega arith)
      ∙ count_at a (published_of c) (0 + i) (omega arith)
  published_behind i l (d ∷ before) a =
      let here : List ℕ = count_from a (published_of d) in
      let rest : List ℕ = published_from (a + entries_of d) (before ++ (c ∷ after)) in
      let long : length here ≡ published_of d = count_length a (published_of d) in
      let place : published_of d + published_in before + i ≡ length here + (published_in before + i) = omega arith in
      let sum : a + entries_of d + (entries_in before + i) ≡ a + (entries_of d + entries_in before + i) = omega arith in
      ap (λ k. get_or (here ++ rest) k 0) place
      ∙ get_or-append-add here rest (published_in before + i) 0
      ∙ published_behind i l before (a + entries_of d)
      ∙ sum

  pub published_within : (i : ℕ) → i < published_of c → (before : List Column)
      → published_in before + i < published_in (before ++ (c ∷ after))
  unfolding published_in
  published_within i l [] = omega arith
  published_within i l (d ∷ before) =
      let h : published_in before + i < published_in (before ++ (c ∷ after)) = published_within i l before in
      omega arith
