-- The lists rise. Lists after a lower value stand before those after a higher one, and lists after one value stand as they do
-- by themselves. What rises is distinct. Assumes nothing.
use mathlib.Core.Path.{◌≡◌, subst}
use mathlib.Core.Logic.{◌≢◌}
use mathlib.Core.List.{List, [], ◌∷◌, ◌++◌, map}
use Prim.Native.Nat.{ℕ, zero, suc}
use native.Mathlib.Omega.{arith}
use Rattle.algebra.specs.Lists.{All, all[], all∷, Distinct, distinct[], distinct∷}
use Rattle.algebra.proofs.Members.{all_map, all_append, in_all, map_all}
use Rattle.rules.specs.Columns.{Column, values_of}
use Rattle.rules.specs.EveryReturn.{after_each, legal_lists, Before, here, behind, Rising, rising[], rising∷}
use Rattle.rules.proofs.LegalLists.Members.{Split, split}

rising_append : {s t : List (List ℕ)} → Rising s → Rising t → All (λ a. All (Before a) t) s → Rising (s ++ t)
rising_append rising[] q all[] = q
rising_append (rising∷ p ps) q (all∷ h hs) = rising∷ (all_append p h) (rising_append ps q hs)

rising_map : (v : ℕ) {s : List (List ℕ)} → Rising s → Rising (map (v ∷◌) s)
rising_map v rising[] = rising[]
rising_map v (rising∷ p ps) = rising∷ (map_all (v ∷◌) (all_map (λ b h. behind h) p)) (rising_map v ps)

rising_each : (n : ℕ) (l : List (List ℕ)) → Rising l → Rising (after_each n l)
unfolding after_each
rising_each zero l h = rising[]
rising_each (suc v) l h =
    rising_append (rising_each v l h) (rising_map v h)
    (in_all (after_each v l) (λ a k. map_all (v ∷◌) (in_all l (λ t j. lower (split v l a k) t))))
  where
    lower : {a : List ℕ} → Split v l a → (t : List ℕ) → Before a (v ∷ t)
    lower s t = subst (λ b. Before b (v ∷ t)) s.is (here s.first_low)

pub in_order_lem : (cs : List Column) → Rising (legal_lists cs)
unfolding legal_lists
in_order_lem [] = rising∷ all[] rising[]
in_order_lem (c ∷ cs) = rising_each (values_of c) (legal_lists cs) (in_order_lem cs)

-- no list stands before itself
not_itself : {a b : List ℕ} → Before a b → b ≢ a
not_itself (here {v = v} {w = w} h) e = let q : w ≡ v = cc in omega arith
not_itself (behind {s = s} {t = t} h) e = not_itself h (let q : t ≡ s = cc in q)

pub rising_distinct : {s : List (List ℕ)} → Rising s → Distinct s
rising_distinct rising[] = distinct[]
rising_distinct (rising∷ p ps) = distinct∷ (all_map (λ b h. not_itself h) p) (rising_distinct ps)
