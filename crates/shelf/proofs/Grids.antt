-- The two grids, of messages stored by place and of messages brought back. A place of the run and of the buffer is a block
-- and a byte in it, so the bytes have places of their own; where all were moved, the buffer begins with what rules say.
-- Assumes nothing.
use mathlib.Core.Path.{◌≡◌, refl, sym, ap, ◌∙◌}
use mathlib.Core.Bool.{Bool, true, false}
use mathlib.Core.List.{List, ◌++◌}
use Prim.Native.Nat.{ℕ, ◌+◌, ◌-◌, ◌*◌, ◌/◌, ◌%◌, ◌≤◌, ◌<◌}
use native.Mathlib.Nat.{mul_comm, add-sub_of_le}
use native.Mathlib.Omega.{arith}
use borrow.Author.Tests.{leb-true, leb-false}
use lib.Arith.{digits_div, digits_mod}
use lib.Dec.{leb}
use lib.ListN.{length, get_or, drop, get_or-append}
use lib.Seq.{get_or-append-add, get_or-drop, ext_get_or}
use Rattle.words.specs.Bytes.{splice}
use Rattle.words.proofs.Splice.{length_splice}
use Rattle.rules.specs.Shelf.{shelved, unshelved}
use Rattle.rules.proofs.Storage.Shelf.{within_blocks, block_of, place_of, length_shelved}
use Rattle.shelf.specs.declared.Grid.{Grid}
use Rattle.shelf.specs.Grid.{at, by_message, by_place, Movable, Moved}

-- a place says its block and its byte
same_block : (b i j k l : ℕ) → i < b → k < b → b * j + i ≡ b * l + k → (i ≡ k) × (j ≡ l)
same_block b i j k l hi hk e =
    let q : j * b + i ≡ l * b + k = rw (mul_comm j b, mul_comm l b) e in (
      sym (digits_mod j hi) ∙ ap (λ (x : ℕ). x % b) q ∙ digits_mod l hk,
      sym (digits_div j hi) ∙ ap (λ (x : ℕ). x / b) q ∙ digits_div l hk,
    )

-- bytes that stand at the front of a buffer, with what follows them kept
front : (out out' ys : List ℕ) → length out' ≡ length out → length ys ≤ length out
    → ((k : ℕ) → k < length ys → get_or out' k 0 ≡ get_or ys k 0)
    → ((k : ℕ) → length ys ≤ k → get_or out' k 0 ≡ get_or out k 0) → out' ≡ splice out 0 ys
unfolding splice
front out out' ys e fits low high = ext_get_or 0 out' (splice out 0 ys) (e ∙ sym (length_splice out 0 ys (omega arith))) each
  where
    by : (k : ℕ) (b : Bool) → leb (length ys) k ≡ b → get_or out' k 0 ≡ get_or (splice out 0 ys) k 0
    by k true q =
        let h : length ys ≤ k = leb-true (length ys) k q in
        let m : length ys + (k - length ys) ≡ k = add-sub_of_le h in
        let n : 0 + length ys + (k - length ys) ≡ k = omega (arith, m) in
        high k h
        ∙ sym (ap (λ (x : ℕ). get_or (ys ++ drop (0 + length ys) out) x 0) (sym m)
        ∙ get_or-append-add ys (drop (0 + length ys) out) (k - length ys) 0
        ∙ get_or-drop (0 + length ys) out (k - length ys) 0
        ∙ ap (λ (x : ℕ). get_or out x 0) n)
    by k false q =
        let h : k < length ys = leb-false (length ys) k q in
        low k h ∙ sym (get_or-append ys (drop (0 + length ys) out) 0 k h)

    each : (k : ℕ) → k < length out' → get_or out' k 0 ≡ get_or (splice out 0 ys) k 0
    each k h = by k (leb (length ys) k) refl

module _ (r w : ℕ) where
  abbrev pub storing : Grid
  storing = record { messages = r; width = w; read = by_message w; write = by_place r }

  abbrev pub bringing : Grid
  bringing = record { messages = r; width = w; read = by_place r; write = by_message w }

  within_message : (i j : ℕ) → i < r → j < w → at (by_message w) i j < r * w
  within_message i j h k = omega (arith, within_blocks w r j i k h, mul_comm r w)

  within_place : (i j : ℕ) → i < r → j < w → at (by_place r) i j < r * w
  within_place i j h k = omega (arith, within_blocks r w i j h k)

  module _ (run out : List ℕ) (bytes_are : length run ≡ r * w) (room : r * w ≤ length out) where
    pub storable : Movable storing run out
    storable = record {
      reads = λ i j h k. rw bytes_are (within_message i j h k);
      writes = within_place;
      apart = λ i j k l hi hj hk hl e. same_block r i j k l hi hk (omega (arith, e));
      room = room;
    }

    pub bringable : Movable bringing run out
    bringable = record {
      reads = λ i j h k. rw bytes_are (within_place i j h k);
      writes = within_message;
      apart = λ i j k l hi hj hk hl e. let p = same_block w j i l k hj hl (omega (arith, e)) in (p.1, p.0);
      room = room;
    }

  module _ (run out out' : List ℕ) (room : r * w ≤ length out) where
    pub stored : Moved storing 0 r 0 w run out out' → out' ≡ splice out 0 (shelved r w run)
    stored v =
        front out out' (shelved r w run) v.long (omega (arith, length_shelved r w run))
        (λ k h. low k (omega (arith, h, length_shelved r w run)))
        (λ k h. v.past k (omega (arith, h, length_shelved r w run)))
      where
        low : (k : ℕ) → k < r * w → get_or out' k 0 ≡ get_or (shelved r w run) k 0
        low k h =
            let b = block_of r w k h in
            let p : at (by_place r) (k % r) (k / r) ≡ k = omega (arith, b.whole) in
            let q : at (by_message w) (k % r) (k / r) ≡ w * (k % r) + k / r = omega arith in
            ap (λ (x : ℕ). get_or out' x 0) (sym p)
            ∙ v.moved (k % r) (k / r) (omega arith) b.low (omega arith) b.high
            ∙ ap (λ (x : ℕ). get_or run x 0) q
            ∙ sym (place_of r w run (k % r) (k / r) b.low b.high)
            ∙ ap (λ (x : ℕ). get_or (shelved r w run) x 0) b.whole

    pub brought : Moved bringing 0 r 0 w run out out' → out' ≡ splice out 0 (unshelved r w run)
    brought v =
        front out out' (unshelved r w run) v.long (omega (arith, length_shelved w r run, mul_comm r w))
        (λ k h. low k (omega (arith, h, length_shelved w r run)))
        (λ k h. v.past k (omega (arith, h, length_shelved w r run, mul_comm r w)))
      where
        low : (k : ℕ) → k < w * r → get_or out' k 0 ≡ get_or (unshelved r w run) k 0
        low k h =
            let b = block_of w r k h in
            let p : at (by_message w) (k / w) (k % w) ≡ k = omega (arith, b.whole) in
            let q : at (by_place r) (k / w) (k % w) ≡ r * (k % w) + k / w = omega arith in
            ap (λ (x : ℕ). get_or out' x 0) (sym p)
            ∙ v.moved (k / w) (k % w) (omega arith) b.high (omega arith) b.low
            ∙ ap (λ (x : ℕ). get_or run x 0) q
            ∙ sym (place_of w r run (k % w) (k / w) b.low b.high)
            ∙ ap (λ (x : ℕ). get_or (unshelved r w run) x 0) b.whole
