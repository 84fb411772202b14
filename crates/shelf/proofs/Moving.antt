-- The turns of the loops: the next byte of a message, the next tile. A byte that is written has a place of its own, so what
-- was there stays. Assumes nothing.
use mathlib.Core.Path.{◌≡◌, refl, sym, ◌∙◌}
use mathlib.Core.Bool.{Bool, true, false}
use mathlib.Core.List.{List}
use Prim.Native.Nat.{ℕ, suc, ◌+◌, ◌≤◌, ◌<◌}
use native.Mathlib.Omega.{arith}
use borrow.Author.Tests.{leb-true, leb-false, eqb-true, eqb-false}
use lib.Dec.{leb, eqb}
use lib.ListN.{length, get_or, set, length-set}
use lib.Seq.{get_or-set_same, get_or-set_other}
use Rattle.shelf.specs.declared.Grid.{Grid}
use Rattle.shelf.specs.Grid.{at, size, There, Movable, Moved}

-- the bytes can be moved into each buffer of this length
pub movable_on : (g : Grid) (run out out' : List ℕ) → length out' ≡ length out → Movable g run out → Movable g run out'
movable_on g run out out' e m =
    record { reads = m.reads; writes = m.writes; apart = m.apart; room = omega (arith, m.room, e) }

module _ (g : Grid) (run : List ℕ) where
  -- ---- one byte, and then another
  module _ (out : List ℕ) (m : Movable g run out) (i j : ℕ) (hi : i < g.messages) (hj : j < g.width) where
    abbrev put : List ℕ
    put = set out (at g.write i j) (get_or run (at g.read i j) 0)

    put_there : There g run put i j
    put_there = get_or-set_same out (at g.write i j) _ 0 (omega (arith, m.writes i j hi hj, m.room))

    put_stays : (k l : ℕ) → k < g.messages → l < g.width → There g run out k l → There g run put k l
    put_stays k l hk hl t = by (eqb (at g.write i j) (at g.write k l)) refl
      where
        by : (b : Bool) → eqb (at g.write i j) (at g.write k l) ≡ b → There g run put k l
        by true e =
            let p = m.apart i j k l hi hj hk hl (eqb-true (at g.write i j) (at g.write k l) e) in
            rw (sym p.0, sym p.1) put_there
        by false e =
            get_or-set_other out (at g.write i j) (at g.write k l) _ 0
            (λ q. eqb-false (at g.write i j) (at g.write k l) e (sym q))
            ∙ t

    put_past : (k : ℕ) → size g ≤ k → get_or put k 0 ≡ get_or out k 0
    put_past k h =
        get_or-set_other out (at g.write i j) k _ 0 (λ q. absurd (omega (arith, m.writes i j hi hj, q)))

    pub next_byte : (from : ℕ) (out₀ : List ℕ) → Moved g i (suc i) from j run out₀ out
        → Moved g i (suc i) from (j + 1) run out₀ put
    next_byte from out₀ v = record {
      long = length-set out (at g.write i j) _ ∙ v.long;
      past = λ k h. put_past k h ∙ v.past k h;
      stay = λ k l hk hl t. put_stays k l hk hl (v.stay k l hk hl t);
      moved = λ k l a b c d. there k l a b c d (leb j l) refl;
    }
      where
        there : (k l : ℕ) → i ≤ k → k < suc i → from ≤ l → l < j + 1 → (b : Bool) → leb j l ≡ b → There g run put k l
        there k l a b c d true e =
            let h : j ≤ l = leb-true j l e in
            let p : i ≡ k = omega arith in
            let q : j ≡ l = omega arith in
            rw (sym p, sym q) put_there
        there k l a b c d false e =
            let h : l < j = leb-false j l e in
            put_stays k l (omega arith) (omega arith) (v.moved k l a b c h)

  -- ---- the bytes before `from`, and then those up to `to`
  module _ (out₀ out out' : List ℕ) where
    pub next_tile : (last from to : ℕ) → last ≤ g.messages → from ≤ g.width
        → Moved g 0 last 0 from run out₀ out → Moved g 0 last from to run out out' → Moved g 0 last 0 to run out₀ out'
    next_tile last from to hl hf v u = record {
      long = u.long ∙ v.long;
      past = λ k h. u.past k h ∙ v.past k h;
      stay = λ k l a b x. u.stay k l a b (v.stay k l a b x);
      moved = λ k l a b c d. there k l b d (leb from l) refl;
    }
      where
        there : (k l : ℕ) → k < last → l < to → (b : Bool) → leb from l ≡ b → There g run out' k l
        there k l b d true e = u.moved k l (omega arith) b (leb-true from l e) d
        there k l b d false e =
            let h : l < from = leb-false from l e in
            u.stay k l (omega arith) (omega arith) (v.moved k l (omega arith) b (omega arith) h)
