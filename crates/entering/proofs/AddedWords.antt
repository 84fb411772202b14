-- Numbers added to words. A run of sums that grows at its end is put next to what is there, and the words behind it are still
-- those that were there. Assumes that the runs lie within the buffer.
use mathlib.Core.Path.{◌≡◌, sym, ap, ◌∙◌}
use mathlib.Core.List.{List, ◌++◌}
use Prim.Native.Nat.{ℕ, ◌+◌, ◌*◌, ◌≤◌, ◌<◌}
use native.Mathlib.Numerals.{add-one}
use native.Mathlib.Omega.{arith}
use lib.ListN.{length, get_or}
use Rattle.algebra.specs.Lists.{tabulate}
use Rattle.algebra.proofs.Tables.{length_tabulate, tabulate_none, tabulate_next, tabulate_append}
use Rattle.words.specs.Bytes.{value_of, bytes_of, bytes_of_all, part, splice}
use Rattle.words.proofs.Splice.{splice_none, length_splice, part_behind}
use Rattle.words.proofs.Elements.{length_bytes_all, bytes_all_append, bytes_all_one}
use Rattle.words.proofs.Loops.{grow}
use Rattle.field.specs.Residues.{prime, residues}
use Rattle.entering.specs.Totals.{word_at, words_added, Addable}

-- ---- a run of numbers that grows at its end
module _ (f : ℕ → ℕ) where
  pub length_run : (i : ℕ) → length (bytes_of_all 4 (tabulate f i)) ≡ 4 * i
  length_run i = length_bytes_all 4 (tabulate f i) ∙ ap (λ (n : ℕ). 4 * n) (length_tabulate f i)

  module _ (s : List ℕ) (a : ℕ) where
    pub run_none : s ≡ splice s a (bytes_of_all 4 (tabulate f 0))
    unfolding bytes_of_all
    run_none = sym (ap (λ (l : List ℕ). splice s a (bytes_of_all 4 l)) (tabulate_none f) ∙ splice_none s a)

    pub run_next : (i : ℕ) → a + 4 * i ≤ length s
        → splice (splice s a (bytes_of_all 4 (tabulate f i))) (a + 4 * i) (bytes_of 4 (f i)) ≡ splice s a (bytes_of_all 4 (tabulate f (i + 1)))
    run_next i h =
        let e : bytes_of_all 4 (tabulate f (i + 1)) ≡ bytes_of_all 4 (tabulate f i) ++ bytes_of 4 (f i)
        = rw (add-one, tabulate_next, bytes_all_append, bytes_all_one) in
        grow s a (bytes_of_all 4 (tabulate f i)) (bytes_of 4 (f i)) (4 * i) (length_run i) h ∙ ap (splice s a) (sym e)

    pub run_more : (m n : ℕ) → a + 4 * m ≤ length s
        → splice (splice s a (bytes_of_all 4 (tabulate f m))) (a + 4 * m) (bytes_of_all 4 (tabulate (λ i. f (m + i)) n))
        ≡ splice s a (bytes_of_all 4 (tabulate f (m + n)))
    run_more m n h =
        let e : bytes_of_all 4 (tabulate f (m + n)) ≡ bytes_of_all 4 (tabulate f m) ++ bytes_of_all 4 (tabulate (λ i. f (m + i)) n)
        = rw (tabulate_append f m n, bytes_all_append) in
        grow s a (bytes_of_all 4 (tabulate f m)) _ (4 * m) (length_run m) h ∙ ap (splice s a) (sym e)

    -- what stands behind it
    pub run_behind : (i b n : ℕ) → a + 4 * i ≤ length s → a + 4 * i ≤ b → part b n (splice s a (bytes_of_all 4 (tabulate f i))) ≡ part b n s
    run_behind i b n h l =
        part_behind s a (bytes_of_all 4 (tabulate f i)) (omega (arith, length_run i)) b n (omega (arith, length_run i))

    pub length_run_put : (i : ℕ) → a + 4 * i ≤ length s → length (splice s a (bytes_of_all 4 (tabulate f i))) ≡ length s
    length_run_put i h = length_splice s a (bytes_of_all 4 (tabulate f i)) (omega (arith, length_run i))

-- ---- a turn of the adding
module _ (s : List ℕ) (to : ℕ) (xs : List ℕ) (from n i : ℕ) (h : Addable s to xs from n) (l : i < n) (t : List ℕ)
    (e : t ≡ splice s to (bytes_of_all 4 (tabulate (words_added s to xs from) i))) where
  to_word : word_at t (to + 4 * i) ≡ word_at s (to + 4 * i)
  to_word = rw e (ap value_of (run_behind (words_added s to xs from) s to i (to + 4 * i) 4 (omega (arith, h.fits)) (omega arith)))

  pub words_below : (x : ℕ) → x ≡ word_at t (to + 4 * i) → (x < prime) × (get_or xs (from + i) 0 < prime)
  words_below x p = (rw (p ∙ to_word) (h.to_below i l), h.from_below i l)

  pub words_turn : (x v : ℕ) → x ≡ word_at t (to + 4 * i) → v ≡ residues.◌⊕◌ x (get_or xs (from + i) 0)
      → splice t (to + 4 * i) (bytes_of 4 v) ≡ splice s to (bytes_of_all 4 (tabulate (words_added s to xs from) (i + 1)))
  unfolding words_added
  words_turn x v p r =
      let g : v ≡ words_added s to xs from i = r ∙ ap (λ (y : ℕ). residues.◌⊕◌ y (get_or xs (from + i) 0)) (p ∙ to_word) in
      rw (g, e) (run_next (words_added s to xs from) s to i (omega (arith, h.fits)))
