-- `share_message::check_header` meets its contract. Each test that led to a return decides the definition, in the order of
-- the tests (`wrong_kind`, `wrong_server`, `sound`), and a message of its kind's length has a server (`kind_long`). Assumes nothing.
use mathlib.Core.Path.{◌≡◌, sym, ◌∙◌}
use mathlib.Core.Bool.{true, false}
use mathlib.Core.List.{List}
use Prim.Native.Nat.{ℕ}
use native.Mathlib.Omega.{arith}
use borrow.Author.Tests.{eq-eqb, ne_eqb}
use lib.ListN.{get_or}
use Rattle.share_message.specs.Shares.{kind_sound_at, header_fault_at}
use Rattle.share_message.proofs.Shares.{kind_long}
use Rattle.share_message.proofs.check_header.Goals as goal
use Rattle.share_message.proofs.check_header.Goals.{else-kind_sound-via-then-kind_sound+else-from-own, else-kind_sound-via-else-kind_sound}

module _ (size own : ℕ) (m : List ℕ) where
  wrong_kind : kind_sound_at size own m ≡ false → 7 ≡ header_fault_at size own m
  unfolding header_fault_at
  wrong_kind k = rw k

  module _ (k : kind_sound_at size own m ≡ true) where
    wrong_server : (get_or m 5 0 ≡ own → ⊥) → 7 ≡ header_fault_at size own m
    unfolding header_fault_at
    wrong_server h = rw (k, ne_eqb (get_or m 5 0) own h)

    sound : get_or m 5 0 ≡ own → 0 ≡ header_fault_at size own m
    unfolding header_fault_at
    sound h = rw (k, eq-eqb (get_or m 5 0) own h)

pub bounds-m-5 : goal.bounds-m-5
bounds-m-5 c =
    let a = c.args in
    let k : kind_sound_at a.size a.own a.m.now ≡ true = sym c.kind_sound.ensures ∙ c.if-kind_sound.true in
    omega (arith, kind_long a.size a.own a.m.now k)

pub returns-then-from-own : goal.returns-then-from-own
returns-then-from-own c =
    let k = sym c.kind_sound.ensures ∙ c.if-kind_sound.true in
    sound _ _ _ k (rw c.from.ensures at c.if-from-own.true)

pub returns-else-kind_sound : goal.returns-else-kind_sound
returns-else-kind_sound c =
    elim c.else-kind_sound.branch [
      | else-kind_sound-via-then-kind_sound+else-from-own w ↦
          wrong_server _ _ _ (sym c.kind_sound.ensures ∙ w.if-kind_sound.true) (rw w.from.ensures at w.if-from-own.false)
      | else-kind_sound-via-else-kind_sound w ↦ wrong_kind _ _ _ (sym c.kind_sound.ensures ∙ w.if-kind_sound.false)
    ]
