-- Messages stored by place, and back. The place of each byte is known (`place_of`), and storing twice, with R and W
-- exchanged, takes each byte to where it was, so that the two runs agree place by place. Assumes nothing.
use mathlib.Core.Path.{◌≡◌, sym, ap, ◌∙◌}
use mathlib.Core.Logic.{⊎_elim}
use mathlib.Core.List.{List, ◌++◌}
use Prim.Native.Nat.{ℕ, zero, suc, ◌+◌, ◌*◌, ◌/◌, ◌%◌, ◌<◌}
use native.Mathlib.Nat.{mul_comm, mod-lt, div-add-mod, div-lt_iff_lt-mul, mul-le-mul_left, eq-or-lt_of_le, le_of_suc-le-suc}
use native.Mathlib.Omega.{arith}
use lib.ListN.{length, get_or, length-append, get_or-append}
use lib.Seq.{get_or-append-add, ext_get_or}
use Rattle.algebra.proofs.Tables.{length_tabulate, get_d_tabulate}
use Rattle.rules.specs.Shelf.{bytes_at, first_bytes, shelved, BroughtBack, StoredAgain, PlaceOf, LengthKept}

-- ---- places in n blocks of b bytes
-- byte i of block j lies within them
pub within_blocks : (b n i j : ℕ) → i < b → j < n → b * j + i < b * n
within_blocks b n i j h k = omega (arith, mul-le-mul_left {m = suc j} {n = n} b k)

-- place k is byte k % b of block k / b
pub record Block (b n k : ℕ) : Type 0 where
  pub whole : b * (k / b) + k % b ≡ k
  pub low : k % b < b
  pub high : k / b < n

pub block_of : (b n k : ℕ) → k < b * n → Block b n k
block_of b n k h =
    let pos : 0 < b = positive b h in
    record { whole = div-add-mod k b; low = mod-lt k pos; high = (div-lt_iff_lt-mul pos).1 (rw mul_comm at h) }
  where
    positive : (b : ℕ) → k < b * n → 0 < b
    positive zero t = omega arith
    positive (suc b) t = omega arith

-- ---- the first n bytes of each message
module _ (r w : ℕ) (run : List ℕ) where
  length_first : (n : ℕ) → length (first_bytes r w run n) ≡ r * n
  unfolding first_bytes
  length_first zero = omega arith
  length_first (suc n) = simp (length-append, length_tabulate) (omega (arith, length_first n))

  place_first : (n i j : ℕ) → i < r → j < n → get_or (first_bytes r w run n) (r * j + i) 0 ≡ get_or run (w * i + j) 0
  unfolding first_bytes
  place_first zero i j h k = absurd (omega arith)
  place_first (suc n) i j h k = ⊎_elim last (λ l. before l (place_first n i j h l)) (eq-or-lt_of_le (le_of_suc-le-suc k))
    where
      last : j ≡ n → get_or (first_bytes r w run n ++ bytes_at r w run n) (r * j + i) 0 ≡ get_or run (w * i + j) 0
      last e =
          let place : r * j + i ≡ length (first_bytes r w run n) + i = rw e (omega (arith, length_first n)) in
          rw place (get_or-append-add (first_bytes r w run n) (bytes_at r w run n) i 0)
          ∙ get_d_tabulate (λ i. get_or run (w * i + n) 0) r i 0 h
          ∙ ap (λ (t : ℕ). get_or run (w * i + t) 0) (sym e)

      before : j < n → get_or (first_bytes r w run n) (r * j + i) 0 ≡ get_or run (w * i + j) 0
          → get_or (first_bytes r w run n ++ bytes_at r w run n) (r * j + i) 0 ≡ get_or run (w * i + j) 0
      before l ih =
          get_or-append (first_bytes r w run n) (bytes_at r w run n) 0 (r * j + i)
          (rw length_first (within_blocks r n i j h l))
          ∙ ih

-- ---- the whole run
pub place_of : PlaceOf
unfolding shelved
place_of r w run i j h k = place_first r w run w i j h k

pub length_shelved : (r w : ℕ) (run : List ℕ) → length (shelved r w run) ≡ r * w
unfolding shelved
length_shelved r w run = length_first r w run w

pub length_kept : LengthKept
length_kept r w run = (length_shelved r w run, length_shelved w r run ∙ mul_comm w r)

pub brought_back : BroughtBack
brought_back r w run e =
    ext_get_or 0 (shelved w r (shelved r w run)) run (omega (arith, length_shelved w r (shelved r w run), mul_comm w r)) at_each
  where
    at_each : (k : ℕ) → k < length (shelved w r (shelved r w run)) → get_or (shelved w r (shelved r w run)) k 0 ≡ get_or run k 0
    at_each k h =
        let b = block_of w r k (rw length_shelved at h) in
        rw (← b.whole)
        (place_of w r (shelved r w run) (k % w) (k / w) b.low b.high ∙ place_of r w run (k / w) (k % w) b.high b.low)

pub stored_again : StoredAgain
stored_again r w shelf e = brought_back w r shelf (e ∙ mul_comm r w)
