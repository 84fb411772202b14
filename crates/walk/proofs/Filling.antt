-- A loop that fills a buffer from its front by a rule f, one that adds the members of a rule to a start, and one that adds
-- them with the powers of 2 as factors. After i turns the first i are done. Assumes nothing.
use mathlib.Core.Path.{◌≡◌, refl, sym, ap, ◌∙◌}
use mathlib.Core.List.{List, ◌++◌}
use Prim.Native.Nat.{ℕ, zero, suc, ◌+◌, ◌%◌, ◌^◌, ◌≤◌, ◌<◌}
use native.Mathlib.Nat.{add_comm, add-mod-mod, mod-add-mod, mod-lt, pow-suc}
use native.Mathlib.Numerals.{add-one}
use native.Mathlib.Omega.{arith}
use lib.Dec.{lit<}
use lib.ListN.{length, length-set, set, drop}
use Rattle.algebra.specs.Lists.{tabulate}
use Rattle.algebra.proofs.Tables.{fill_none, fill_next, fill_all}
use Rattle.field.specs.Residues.{prime, residues}
use Rattle.rules.specs.Settings.{document01}
use Rattle.rules.specs.Run.{at_server}
use Rattle.rules.specs.Walk.{sum_from}
use Rattle.walk.specs.Walks.{plain}

module _ (f : ℕ → ℕ) where
  pub record Filling (before now : List ℕ) (i : ℕ) : Type 0 where
    pub within : i ≤ length before
    pub same : length now ≡ length before
    pub filled : now ≡ tabulate f i ++ drop i before

  pub start : (d : List ℕ) → Filling d d 0
  start d = record { within = omega arith; same = refl; filled = fill_none f d }

  pub turn : {d l : List ℕ} {i : ℕ} (v : ℕ) → Filling d l i → i < length d → v ≡ f i → Filling d (set l i v) (i + 1)
  turn {d} {l} {i} v w h e = record {
    within = omega arith;
    same = length-set l i v ∙ w.same;
    filled = fill_next f d l i v h w.filled e;
  }

  pub finish : {d l : List ℕ} {i : ℕ} → Filling d l i → length d ≤ i → l ≡ tabulate f (length d)
  finish {d} {l} {i} w h = fill_all f d l i h w.within w.filled

  -- a buffer of one place, filled by one store
  pub one_place : (d : List ℕ) (v : ℕ) → length d ≡ 1 → v ≡ f 0 → set d 0 v ≡ tabulate f (length d)
  one_place d v h e = finish (turn v (start d) (omega arith) e) (omega arith)

-- a sum that is an element
module _ (x : ℕ → ℕ) (a : ℕ) (f : ℕ → ℕ) where
  pub record Adding (acc i : ℕ) : Type 0 where
    pub element : acc < prime
    pub is : acc ≡ sum_from document01 (plain 0 x) a f i

  pub add_start : a < prime → Adding a 0
  unfolding sum_from
  add_start h = record { element = h; is = refl }

  pub add_turn : {acc i : ℕ} (v : ℕ) → Adding acc i → v ≡ residues.◌⊕◌ acc (f i) → Adding v (i + 1)
  unfolding sum_from
  add_turn {acc} {i} v w e = record {
    element = rw e (mod-lt _ (lit< tt));
    is =
        e ∙ ap (λ t. residues.◌⊕◌ t (f i)) w.is ∙ ap (sum_from document01 (plain 0 x) a f) (sym (add-one i));
  }

-- doubling is the next power of 2
pub doubled : (i power v : ℕ) → power ≡ residues.ι (2 ^ i) → v ≡ residues.◌⊕◌ power power → v ≡ residues.ι (2 ^ (i + 1))
doubled i power v e q =
    let two : 2 ^ (i + 1) ≡ 2 ^ i + 2 ^ i = ap (2 ^◌) (add-one i) ∙ pow-suc 2 i ∙ omega arith in
    q ∙ ap (λ t. residues.◌⊕◌ t t) e ∙ mod-add-mod (2 ^ i) prime (2 ^ i % prime) ∙ add-mod-mod (2 ^ i) (2 ^ i) prime
    ∙ ap (λ t. t % prime) (sym two)

pub swapped : (a b : ℕ) → residues.◌⊕◌ a b ≡ residues.◌⊕◌ b a
swapped a b = ap (λ t. t % prime) (add_comm a b)

-- only the addition of a meaning counts for a sum
pub sum_same : (k : ℕ) (x y h : ℕ → ℕ) (a : ℕ) (f : ℕ → ℕ) (n : ℕ)
    → sum_from document01 (plain 0 x) a f n ≡ sum_from document01 (at_server residues k y h) a f n
unfolding sum_from
sum_same k x y h a f zero = refl
sum_same k x y h a f (suc n) = ap (λ t. residues.◌⊕◌ t (f n)) (sum_same k x y h a f n)
