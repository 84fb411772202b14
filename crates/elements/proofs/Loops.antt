-- The turns of the loops over a run of elements. A run that is written grows at its end (`grow`), for any width; a test over a
-- run goes on behind its first number. Assumes that the run lies within the buffer.
use Rattle.std.proofs.Common.{◌≡◌, ℕ, ◌+◌, ◌*◌, ◌≤◌, ◌<◌, sym, ap, ◌∙◌, arith, add-one}
use Rattle.std.proofs.Common.{Bool, ◌&&◌, List, ◌++◌, length, get_or, take, drop}
use mathlib.Core.Bool.{false, and-true, and-false}
use borrow.Author.Tests.{lt-ltb, le-ltb}
use native.Mathlib.Nat.{mul-le-mul_left}
use lib.ListN.{drop_of_length-le}
use lib.Seq.{take-suc, length-take-le, drop-cons}
use Rattle.algebra.specs.Lists.{every}
use Rattle.words.specs.Bytes.{bytes_of, bytes_of_all, splice, all_below}
use Rattle.words.proofs.Splice.{splice_none}
use Rattle.words.proofs.Elements.{length_bytes_all, bytes_all_append, bytes_all_one}
use Rattle.words.proofs.Loops.{grow}

-- ---- a run that is written
module _ (s : List ℕ) (a : ℕ) where
  pub write_none : (w : ℕ) (vs : List ℕ) → s ≡ splice s a (bytes_of_all w (take 0 vs))
  unfolding bytes_of_all
  write_none w vs = sym (splice_none s a)

  -- one element more
  pub write_next : (w : ℕ) (vs : List ℕ) (i : ℕ) → a + w * length vs ≤ length s → i < length vs
      → splice (splice s a (bytes_of_all w (take i vs))) (a + w * i) (bytes_of w (get_or vs i 0))
      ≡ splice s a (bytes_of_all w (take (i + 1) vs))
  write_next w vs i h k =
      let l : length (bytes_of_all w (take i vs)) ≡ w * i
      = length_bytes_all w (take i vs) ∙ ap (λ (n : ℕ). w * n) (length-take-le i vs (omega arith)) in
      let m : w * i ≤ w * length vs = mul-le-mul_left w (omega arith) in
      let e : bytes_of_all w (take (i + 1) vs) ≡ bytes_of_all w (take i vs) ++ bytes_of w (get_or vs i 0)
      = rw (add-one, take-suc vs i 0 k, bytes_all_append, bytes_all_one) in
      grow s a (bytes_of_all w (take i vs)) (bytes_of w (get_or vs i 0)) (w * i) l (omega arith) ∙ ap (splice s a) (sym e)

-- ---- a run that is tested: f says whether the numbers before place i are below p
module _ (p : ℕ) (xs : List ℕ) (i : ℕ) (f : Bool) where
  pub below_next : i < length xs → get_or xs i 0 < p → (f && all_below p (drop i xs)) ≡ (f && all_below p (drop (i + 1) xs))
  unfolding all_below every
  below_next h k = rw (add-one, drop-cons xs i 0 h, lt-ltb (get_or xs i 0) p k)

  pub below_not : i < length xs → p ≤ get_or xs i 0 → (f && all_below p (drop i xs)) ≡ false
  unfolding all_below every
  below_not h k = rw (drop-cons xs i 0 h, le-ltb (get_or xs i 0) p k) (and-false f)

  pub below_end : length xs ≤ i → (f && all_below p (drop i xs)) ≡ f
  unfolding all_below every
  below_end h = rw (drop_of_length-le xs {i = i} h) (and-true f)
