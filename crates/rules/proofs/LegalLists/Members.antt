-- The lists are the legal ones: a member is a value below the column's number of values, before a list of the other columns.
-- Assumes nothing.
use mathlib.Core.Path.{◌≡◌, refl, subst}
use mathlib.Core.Logic.{inl, inr, ⊎_elim}
use mathlib.Core.Bool.{true}
use mathlib.Core.List.{List, [], ◌∷◌, map}
use Prim.Native.Nat.{ℕ, zero, suc, ◌<◌}
use native.Mathlib.Nat.{eq-or-lt_of_le, le_of_suc-le-suc}
use native.Mathlib.Omega.{arith}
use borrow.Author.Tests.{ltb-true, lt-ltb}
use lib.Dec.{ltb}
use Rattle.algebra.specs.Lists.{In}
use Rattle.algebra.proofs.Members.{in_append, append_in, in_map, of_map, and-true, and_left, and_right}
use Rattle.rules.specs.Columns.{Column, values_of}
use Rattle.rules.specs.Values.{legal_values}
use Rattle.rules.specs.EveryReturn.{after_each, legal_lists}

-- a member of `after_each n l`, taken apart
pub record Split (n : ℕ) (l : List (List ℕ)) (a : List ℕ) : Type 0 where
  pub first : ℕ
  pub rest : List ℕ
  pub first_low : first < n
  pub rest_in : In rest l
  pub is : first ∷ rest ≡ a

pub split : (n : ℕ) (l : List (List ℕ)) (a : List ℕ) → In a (after_each n l) → Split n l a
unfolding after_each
split zero l a h = absurd h
split (suc v) l a h = ⊎_elim (λ k. wider (split v l a k)) last (in_append a (after_each v l) (map (v ∷◌) l) h)
  where
    wider : Split v l a → Split (suc v) l a
    wider s = record { first = s.first; rest = s.rest; first_low = omega (arith, s.first_low); rest_in = s.rest_in; is = s.is }

    last : In a (map (v ∷◌) l) → Split (suc v) l a
    last k =
        let q = of_map (v ∷◌) a l k in
        record { first = v; rest = q.0; first_low = omega arith; rest_in = q.1; is = q.2 }

pub joined : (n : ℕ) (l : List (List ℕ)) (v : ℕ) (t : List ℕ) → v < n → In t l → In (v ∷ t) (after_each n l)
unfolding after_each
joined zero l v t h k = absurd (omega arith)
joined (suc n) l v t h k =
    append_in (v ∷ t) (after_each n l) (map (n ∷◌) l)
    (⊎_elim (λ e. inr (subst (λ (m : ℕ). In (v ∷ t) (map (m ∷◌) l)) e (in_map (v ∷◌) t l k)))
    (λ less. inl (joined n l v t less k))
    (eq-or-lt_of_le (le_of_suc-le-suc h)))

pub legal_in : (cs : List Column) (vs : List ℕ) → legal_values cs vs ≡ true → In vs (legal_lists cs)
unfolding legal_lists legal_values
legal_in [] [] e = inl refl
legal_in [] (v ∷ vs) e = absurd (let z : ◌≡◌ {A = ℕ} 0 1 = cc in omega arith)
legal_in (c ∷ cs) [] e = absurd (let z : ◌≡◌ {A = ℕ} 0 1 = cc in omega arith)
legal_in (c ∷ cs) (v ∷ vs) e =
    joined (values_of c) (legal_lists cs) v vs (ltb-true v (values_of c) (and_left _ (legal_values cs vs) e))
    (legal_in cs vs (and_right (ltb v (values_of c)) _ e))

pub in_legal : (cs : List Column) (vs : List ℕ) → In vs (legal_lists cs) → legal_values cs vs ≡ true
unfolding legal_lists legal_values
in_legal [] vs (inl e) = rw (← e)
in_legal [] vs (inr h) = absurd h
in_legal (c ∷ cs) vs h = go (split (values_of c) (legal_lists cs) vs h) (in_legal cs)
  where
    go : (s : Split (values_of c) (legal_lists cs) vs) → ((t : List ℕ) → In t (legal_lists cs) → legal_values cs t ≡ true)
        → legal_values (c ∷ cs) vs ≡ true
    go s ih =
        rw (← s.is)
        (and-true (ltb s.first (values_of c)) (legal_values cs s.rest) (lt-ltb s.first (values_of c) s.first_low)
        (ih s.rest s.rest_in))
