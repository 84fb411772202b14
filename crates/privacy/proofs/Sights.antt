-- What the definitions of a sight say: `same_sight` is equality, and the others are all servers but the one. Both by the members of a
-- list. Assumes nothing.
use mathlib.Core.Path.{◌≡◌, refl, ap₂, subst}
use mathlib.Core.Logic.{◌≢◌, inl, inr, ◌⊎◌}
use mathlib.Core.Bool.{Bool, true, false, false≢true, cond, not}
use mathlib.Core.List.{List, [], ◌∷◌}
use Prim.Native.Nat.{ℕ, ◌<◌}
use native.Mathlib.Omega.{arith}
use borrow.Author.Tests.{eqb-false}
use lib.Dec.{eqb}
use Rattle.algebra.specs.Lists.{In, count_from}
use Rattle.algebra.proofs.Members.{and-true, and_left, and_right, in_count}
use Rattle.words.specs.Bytes.{same_bytes}
use Rattle.words.proofs.Same.{same_equal, equal_same}
use Rattle.rules.specs.Keyed.{those}
use Rattle.privacy.specs.Sight.{Case, others, same_sight}

-- ---- sameSight
pub sight_equal : (u v : List (List ℕ)) → same_sight u v ≡ true → u ≡ v
unfolding same_sight
sight_equal [] [] h = refl
sight_equal [] (n ∷ v) h = absurd (false≢true h)
sight_equal (m ∷ u) [] h = absurd (false≢true h)
sight_equal (m ∷ u) (n ∷ v) h =
    ap₂ ◌∷◌ (same_equal m n (and_left (same_bytes m n) (same_sight u v) h))
    (sight_equal u v (and_right (same_bytes m n) (same_sight u v) h))

pub equal_sight : (u v : List (List ℕ)) → u ≡ v → same_sight u v ≡ true
unfolding same_sight
equal_sight u v e = subst (λ (w : List (List ℕ)). same_sight u w ≡ true) e (self u)
  where
    self : (w : List (List ℕ)) → same_sight w w ≡ true
    self [] = refl
    self (m ∷ w) = and-true (same_bytes m m) (same_sight w w) (equal_same m m refl) (self w)

-- ---- the others
in_those : (t : ℕ → Bool) (x : ℕ) (s : List ℕ) → In x (those t s) → In x s × (t x ≡ true)
unfolding those
in_those t x [] h = absurd h
in_those t x (y ∷ s) h = go (t y) refl (in_those t x s) h
  where
    go : (b : Bool) → t y ≡ b → (In x (those t s) → In x s × (t x ≡ true)) → In x (cond b (y ∷ those t s) (those t s))
        → ((y ≡ x) ⊎ In x s) × (t x ≡ true)
    go true q rest (inl e) = (inl e, subst (λ (v : ℕ). t v ≡ true) e q)
    go true q rest (inr k) = (inr (rest k).0, (rest k).1)
    go false q rest k = (inr (rest k).0, (rest k).1)

pub in_others : (c : Case) (i : ℕ) → In i (others c) → (i < c.servers) × (i ≢ c.left_out)
in_others c i h =
    let found = in_those (λ i. not (eqb i c.left_out)) i (count_from 0 c.servers) h in
    let below = in_count 0 c.servers i found.0 in
    (omega arith, other (eqb i c.left_out) refl found.1)
  where
    other : (b : Bool) → eqb i c.left_out ≡ b → not b ≡ true → i ≢ c.left_out
    other true q k = absurd (false≢true k)
    other false q k = eqb-false i c.left_out q
