-- How many lists and bytes there are: each value of the first column comes with all lists of the others, and each list has a
-- value for each column. With it all that is promised of the lists. Assumes nothing.
use mathlib.Core.Path.{◌≡◌, refl, ap, ◌∙◌}
use mathlib.Core.List.{List, [], ◌∷◌, map}
use Prim.Native.Nat.{ℕ, zero, suc, ◌*◌}
use native.Mathlib.Omega.{arith}
use lib.ListN.{length, length-append}
use Rattle.algebra.specs.Lists.{All, all[], all∷}
use Rattle.algebra.proofs.Members.{all_map, all_append, map_all}
use Rattle.words.proofs.Elements.{length_bytes_all}
use Rattle.rules.specs.Columns.{Column, values_of, columns_of}
use Rattle.rules.specs.EveryReturn.{after_each, legal_lists, lists_in, lists_bytes, every_return_bytes, every_return_length}
use Rattle.rules.specs.EveryReturn.{EveryLegal, BytesCounted}
use Rattle.rules.proofs.LegalLists.Members.{in_legal, legal_in}
use Rattle.rules.proofs.LegalLists.Order.{in_order_lem, rising_distinct}

length-map : {A B : Type 0} (f : A → B) (l : List A) → length (map f l) ≡ length l
length-map f [] = refl
length-map f (x ∷ l) = ap suc (length-map f l)

length_each : (n : ℕ) (l : List (List ℕ)) → length (after_each n l) ≡ n * length l
unfolding after_each
length_each zero l = omega arith
length_each (suc v) l = rw length-append (omega (arith, length_each v l, length-map (v ∷◌) l))

pub length_lists : (cs : List Column) → length (legal_lists cs) ≡ lists_in cs
unfolding legal_lists lists_in
length_lists [] = refl
length_lists (c ∷ cs) = length_each (values_of c) (legal_lists cs) ∙ ap (λ (n : ℕ). values_of c * n) (length_lists cs)

pub every_legal : (cs : List Column) → EveryLegal cs
every_legal cs =
    record {
      exactly_legal = λ vs. (in_legal cs vs, legal_in cs vs);
      each_once = rising_distinct (in_order_lem cs);
      rising = in_order_lem cs;
      counted = length_lists cs;
    }

-- ---- the bytes
each_long : (n k : ℕ) (l : List (List ℕ)) → All (λ vs. length vs ≡ k) l → All (λ vs. length vs ≡ suc k) (after_each n l)
unfolding after_each
each_long zero k l h = all[]
each_long (suc v) k l h = all_append (each_long v k l h) (map_all (v ∷◌) (all_map (λ vs e. ap suc e) h))

pub lists_long : (cs : List Column) → All (λ vs. length vs ≡ length cs) (legal_lists cs)
unfolding legal_lists
lists_long [] = all∷ refl all[]
lists_long (c ∷ cs) = each_long (values_of c) (length cs) (legal_lists cs) (lists_long cs)

length_bytes : (k : ℕ) (l : List (List ℕ)) → All (λ vs. length vs ≡ k) l → length (lists_bytes l) ≡ 4 * k * length l
unfolding lists_bytes
length_bytes k [] all[] = omega arith
length_bytes k (vs ∷ l) (all∷ h hs) =
    rw (length-append, length_bytes_all 4 vs, h) (omega (arith, length_bytes k l hs))

pub bytes_counted : BytesCounted
unfolding every_return_bytes every_return_length
bytes_counted sheet =
    length_bytes (length (columns_of sheet)) (legal_lists (columns_of sheet)) (lists_long (columns_of sheet))
    ∙ ap (λ (n : ℕ). 4 * length (columns_of sheet) * n) (length_lists (columns_of sheet))
