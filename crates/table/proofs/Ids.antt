-- A search in a run of ids, where f says whether the id is one of those before place i: it is the one there, or one of those
-- behind. Assumes nothing.
use mathlib.Core.Path.{◌≡◌, ap, sym, ◌∙◌}
use mathlib.Core.Bool.{Bool, ◌||◌, or-false, or_assoc}
use mathlib.Core.List.{List}
use Prim.Native.Nat.{ℕ, ◌+◌, ◌≤◌, ◌<◌}
use native.Mathlib.Numerals.{add-one}
use lib.Dec.{eqb}
use lib.ListN.{length, get_or, drop, drop_of_length-le}
use lib.Seq.{drop-cons}
use Rattle.rules.specs.Server.{is_member}

module _ (x : ℕ) (xs : List ℕ) (i : ℕ) (f : Bool) where
  pub id_next : i < length xs
      → (f || is_member x (drop i xs)) ≡ ((f || eqb (get_or xs i 0) x) || is_member x (drop (i + 1) xs))
  unfolding is_member
  id_next h = rw (add-one, drop-cons xs i 0) (sym (or_assoc f (eqb (get_or xs i 0) x) _))

  pub id_end : length xs ≤ i → (f || is_member x (drop i xs)) ≡ f
  unfolding is_member
  id_end h = rw (drop_of_length-le xs {i = i} h) (or-false f)
