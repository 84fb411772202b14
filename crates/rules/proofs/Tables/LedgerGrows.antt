-- A ledger with one return more decided: its entered notes, its ids and its totals grow at their end. Assumes nothing.
use mathlib.Core.Path.{◌≡◌, refl, sym, ap, ◌∙◌}
use mathlib.Core.Bool.{Bool, true, false, cond}
use mathlib.Core.List.{List, [], ◌∷◌, ◌++◌, map, map-append}
use Prim.Native.Nat.{ℕ, ◌+◌, ◌%◌}
use native.Mathlib.Nat.{mod-add-mod, add-zero}
use lib.ListN.{length, get_or, length-append}
use Rattle.algebra.specs.Lists.{sum_over, tabulate}
use Rattle.algebra.proofs.Rearrangement.{sum_append}
use Rattle.algebra.proofs.Tables.{tabulate_none, tabulate_front}
use Rattle.rules.specs.Settings.{Setting}
use Rattle.rules.specs.Columns.{published_from}
use Rattle.rules.specs.Server.{Opened, published_shares}
use Rattle.rules.specs.Ledger.{Note, Decision, Decided, notes_with, ids_of, notes_of, ledger_totals}
use Rattle.rules.proofs.Histories.Moves.{decided_as}

pub notes_grow : (t : Decision → Bool) (ds : List Decided) (n : Note) (d : Decision)
    → notes_with t (ds ++ (decided_as n d ∷ [])) ≡ notes_with t ds ++ cond (t d) (n ∷ []) []
unfolding notes_with
notes_grow t [] n d = refl
notes_grow t (k ∷ ds) n d = go (t k.decision) (notes_grow t ds n d)
  where
    more : List Note
    more = cond (t d) (n ∷ []) []

    go : (b : Bool) → notes_with t (ds ++ (decided_as n d ∷ [])) ≡ notes_with t ds ++ more
        → cond b (k.note ∷ notes_with t (ds ++ (decided_as n d ∷ []))) (notes_with t (ds ++ (decided_as n d ∷ [])))
        ≡ cond b (k.note ∷ notes_with t ds) (notes_with t ds) ++ more
    go true e = ap (k.note ∷◌) e
    go false e = e

pub ids_grow : (ds : List Decided) (n : Note) (d : Decision)
    → ids_of (notes_of (ds ++ (decided_as n d ∷ []))) ≡ ids_of (notes_of ds) ++ (n.id ∷ [])
ids_grow ds n d =
    ap (map (λ (x : Note). x.id)) (map-append (λ (x : Decided). x.note) ds (decided_as n d ∷ []))
    ∙ map-append (λ (x : Note). x.id) (notes_of ds) (n ∷ [])

pub count_grows : (ds : List Decided) (n : Note) (d : Decision) → length (ds ++ (decided_as n d ∷ [])) ≡ length ds + 1
count_grows ds n d = length-append ds (decided_as n d ∷ [])

-- two lists made by rules from one, taken together place by place
pub tabulate_both : {A : Type 0} (f : ℕ → ℕ → ℕ) (a b : A → ℕ) (l : List A)
    → tabulate (λ k. f (get_or (map a l) k 0) (get_or (map b l) k 0)) (length l) ≡ map (λ e. f (a e) (b e)) l
tabulate_both f a b [] = tabulate_none _
tabulate_both f a b (x ∷ l) = tabulate_front _ (length l) ∙ ap (f (a x) (b x) ∷◌) (tabulate_both f a b l)

module _ (σ : Setting) (o : Opened) where
  -- "Then the published entries are added to the totals."
  pub totals_grow : (ns : List Note) (n : Note)
      → tabulate (λ k. (get_or (ledger_totals σ o ns) k 0 + get_or (published_shares σ o n.elements) k 0) % σ.modulus)
      (length (published_from 0 o.columns))
      ≡ ledger_totals σ o (ns ++ (n ∷ []))
  unfolding ledger_totals published_shares
  totals_grow ns n =
      tabulate_both (λ a b. (a + b) % σ.modulus) _ _ (published_from 0 o.columns)
      ∙ ap (λ (f : ℕ → ℕ). map f (published_from 0 o.columns)) (λ i e. one e i)
    where
      at : ℕ → Note → ℕ
      at e m = get_or m.elements e 0

      one : (e : ℕ) → (sum_over (at e) ns % σ.modulus + at e n) % σ.modulus ≡ sum_over (at e) (ns ++ (n ∷ [])) % σ.modulus
      one e =
          mod-add-mod (sum_over (at e) ns) σ.modulus (at e n)
          ∙ ap (λ (t : ℕ). t % σ.modulus) (sym (sum_append (at e) ns (n ∷ []) ∙ ap (sum_over (at e) ns +◌) (last e)))
        where
          last : (e : ℕ) → sum_over (at e) (n ∷ []) ≡ at e n
          last e = unfold sum_over in add-zero (at e n)
