-- The turns of the loop over blocks: after each the buffer holds the stream up to a place, then what it held before. A turn
-- puts the elements of one block behind those that are there. Assumes that what is put lies within the buffer.
use mathlib.Core.Path.{◌≡◌, sym, ap, ap₂, ◌∙◌}
use mathlib.Core.List.{List, ◌++◌, append_assoc}
use Prim.Native.Nat.{ℕ, ◌+◌, ◌-◌, ◌*◌, ◌/◌, ◌%◌, ◌≤◌, ◌<◌, min}
use native.Mathlib.Omega.{arith}
use borrow.Rule.Slice.PartMut.{mid_of, put_mid, mid_len, Post-is}
use Rattle.std.specs.Int.{div_ceil}
use lib.ListN.{length, get_or, set, take, drop}
use lib.Seq.{take_at, drop-append-add, drop-drop}
use Rattle.algebra.specs.Lists.{tabulate}
use Rattle.algebra.proofs.Tables.{length_tabulate, tabulate_append, tabulate_cong}
use Rattle.chacha.specs.ChaCha.{mixed}
use Rattle.rules.specs.Settings.{document01}
use Rattle.rules.specs.Seeds.{element_of}
use Rattle.seeds.specs.Filling.{streamed}

-- a table from a to e, put behind the table up to a
pub put_next : (f : ℕ → ℕ) (d l ys : List ℕ) (a e : ℕ) → a ≤ e → l ≡ tabulate f a ++ drop a d
    → ys ≡ tabulate (λ j. f (a + j)) (e - a) → put_mid a (e - a) l ys ≡ tabulate f e ++ drop e d
put_next f d l ys a e h was put =
    let p = tabulate f a in
    let n : length p ≡ a = length_tabulate f a in
    let k : length p + (e - a) ≡ e = omega arith in
    let m : a + (e - a) ≡ e = omega arith in
    let front : take a l ≡ p = ap (take a) was ∙ take_at p (drop a d) a n in
    let behind : drop e l ≡ drop e d
    = ap (drop e) was ∙ ap (λ (t : ℕ). drop t (p ++ drop a d)) (sym k) ∙ drop-append-add p (drop a d) (e - a)
    ∙ drop-drop (e - a) a d ∙ ap (λ (t : ℕ). drop t d) m in
    let whole : tabulate f e ≡ p ++ ys
    = ap (tabulate f) (sym m) ∙ tabulate_append f a (e - a) ∙ ap (◌++◌ p) (sym put) in
    ap₂ ◌++◌ front (ap (◌++◌ ys) (Post-is a e l h ∙ behind))
    ∙ sym (append_assoc p ys (drop e d))
    ∙ ap (λ (t : List ℕ). t ++ drop e d) (sym whole)

-- the first m elements of block k, where s differs from the first state in its count only
pub block_elements : (s d : List ℕ) (k m : ℕ) → m ≤ 16 → set s 12 k ≡ set d 12 k
    → tabulate (λ j. element_of document01 (get_or (mixed (set s 12 k)) j 0)) m ≡ tabulate (λ j. streamed d (16 * k + j)) m
unfolding streamed
block_elements s d k m h e =
    tabulate_cong (λ j. element_of document01 (get_or (mixed (set s 12 k)) j 0)) (λ j. streamed d (16 * k + j)) m
    (λ j l.
    let q : (16 * k + j) / 16 ≡ k = omega arith in
    let r : (16 * k + j) % 16 ≡ j = omega arith in
    rw (q, r, e))

-- a turn of the loop: k blocks are done, and the elements of the next are put, up to place e
module _ (n k e : ℕ) (more : 16 * k < n) (end : e ≡ min n (16 * k + 16)) where
  pub turn : (s t d l ys : List ℕ) → length l ≡ n → ((v : ℕ) → set t 12 v ≡ set s 12 v)
      → l ≡ tabulate (streamed s) (min n (16 * k)) ++ drop (min n (16 * k)) d
      → ys ≡ tabulate (λ j. element_of document01 (get_or (mixed (set t 12 k)) j 0)) (length (mid_of (16 * k) (e - 16 * k) l))
      → put_mid (16 * k) (e - 16 * k) l ys
      ≡ tabulate (streamed s) (min n (16 * (k + 1))) ++ drop (min n (16 * (k + 1))) d
  turn s t d l ys long count was put =
      let a : min n (16 * k) ≡ 16 * k = omega arith in
      let b : min n (16 * (k + 1)) ≡ e = omega arith in
      let h : e ≤ length l = omega arith in
      let o : e - 16 * k ≤ 16 = omega arith in
      rw b
      (put_next (streamed s) d l ys (16 * k) e (omega arith) (rw a at was)
      (put
      ∙ ap (tabulate (λ j. element_of document01 (get_or (mixed (set t 12 k)) j 0))) (mid_len (16 * k) e l h)
      ∙ block_elements t s k (e - 16 * k) o (count k)))

-- blocks are left while there are fewer than it takes
pub blocks_left : (n k c : ℕ) → c ≡ div_ceil n 16 → k < c → 16 * k < n
blocks_left n k c e h = omega (arith, e)

pub blocks_done : (n k c : ℕ) → c ≡ div_ceil n 16 → c ≤ k → min n (16 * k) ≡ n
blocks_done n k c e h = omega (arith, e)
