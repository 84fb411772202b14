-- What a record says that a call has written. A share's record and numbers say the return that was taken, since the numbers of a
-- place are the elements of a share and two more; round one's say it with the sums; an accepted one's the same in its last wait; a
-- freed record says nothing. Each is within the limits, and where a record says a return it is not free. Assumes nothing.
use mathlib.Core.Path.{◌≡◌, refl, sym, ap, ◌∙◌}
use mathlib.Core.Bool.{Bool, true, false, cond, ◌&&◌}
use mathlib.Core.List.{List, [], ◌∷◌}
use mathlib.Core.Option.{some, none}
use Prim.Native.Nat.{ℕ, ◌+◌, ◌≤◌, ◌<◌}
use native.Mathlib.Omega.{arith}
use borrow.Author.Tests.{lt-ltb, le-leb, ne_eqb}
use lib.Dec.{ltb}
use lib.ListN.{length, get_or, length-append}
use lib.Seq.{take_at, get_or_at, get_or-append-add}
use Rattle.algebra.specs.Lists.{All, all[], all∷}
use Rattle.algebra.proofs.Members.{and-true, all_append}
use Rattle.words.specs.Bytes.{all_below}
use Rattle.words.proofs.Below.{below_of_all}
use Rattle.slots.specs.declared.Slot.{Slot}
use Rattle.slots.specs.Slots.{free_slot}
use Rattle.rules.specs.Settings.{Setting}
use Rattle.rules.specs.Columns.{Column}
use Rattle.rules.specs.Judging.{share_size, allowed_pair}
use Rattle.rules.specs.Server.{Waiting, Wait, awaitsOne, awaits_two, awaitsEntry, held, with_sums}
use Rattle.rules.specs.WaitingList.{stage_one, stage_two, stage_entry, is_free, place_size, waiting_at, wait_as, wait_at}
use Rattle.rules.specs.WaitingList.{record_sound, slot_of, numbers_of}
use Rattle.rules.proofs.Waiting.Records.{held_as}

module _ (cs : List Column) where
  -- ---- a share
  module _ (w : Waiting) (long : length w.elements ≡ share_size cs) where
    pub length_numbers : length (numbers_of w) ≡ place_size cs
    length_numbers = length-append w.elements (w.rh ∷ w.tau ∷ []) ∙ omega arith

    numbers_say : (stage : ℕ) → waiting_at cs (slot_of stage w) (numbers_of w) ≡ w
    unfolding waiting_at
    numbers_say stage =
        let last : share_size cs + 1 ≡ length w.elements + 1 = omega arith in
        let tau : get_or (numbers_of w) (share_size cs + 1) 0 ≡ w.tau =
        ap (λ (k : ℕ). get_or (numbers_of w) k 0) last ∙ get_or-append-add w.elements (w.rh ∷ w.tau ∷ []) 1 0 in
        λ i. record {
          id = w.id;
          r = w.r;
          s = w.s;
          d = w.d;
          e = w.e;
          rh = get_or_at w.elements w.rh (w.tau ∷ []) 0 (share_size cs) long i;
          tau = tau i;
          elements = take_at w.elements (w.rh ∷ w.tau ∷ []) (share_size cs) long i;
        }

    pub share_says : wait_at cs (slot_of stage_one w) (numbers_of w) ≡ some (awaitsOne w)
    unfolding wait_at wait_as
    share_says = ap (λ (v : Waiting). some (awaitsOne v)) (numbers_say stage_one)

  -- ---- round one, an accepted verdict, and a record set free
  pub sums_say : (x : Slot) (ns : List ℕ) (d e : ℕ)
      → wait_at cs (slot_of stage_two (with_sums (waiting_at cs x ns) d e)) ns ≡ some (awaits_two (with_sums (waiting_at cs x ns) d e))
  unfolding wait_at wait_as waiting_at
  sums_say x ns d e = refl

  pub accepted_says : (x : Slot) (ns : List ℕ)
      → wait_at cs (slot_of stage_entry (waiting_at cs x ns)) ns ≡ some (awaitsEntry (waiting_at cs x ns))
  unfolding wait_at wait_as waiting_at
  accepted_says x ns = refl

  pub free_says : (ns : List ℕ) → wait_at cs free_slot ns ≡ none
  unfolding wait_at
  free_says ns = refl

  -- ---- a record that says a return
  pub said : (x : Slot) (ns : List ℕ) (w : Wait) → wait_at cs x ns ≡ some w → (is_free x ≡ false) × (waiting_at cs x ns ≡ held w)
  unfolding wait_at
  said x ns w e = go (is_free x) refl e
    where
      there : Wait
      there = wait_as x.stage (waiting_at cs x ns)

      go : (b : Bool) → is_free x ≡ b → cond b none (some there) ≡ some w → (is_free x ≡ false) × (waiting_at cs x ns ≡ held w)
      go true q e = absurd (let z : ◌≡◌ {A = ℕ} 0 1 = cc in omega arith)
      go false q e = (q, let same : there ≡ w = cc in sym (held_as x.stage (waiting_at cs x ns)) ∙ ap held same)

-- ---- the limits
module _ (σ : Setting) (cs : List Column) where
  pub free_sound : (ns : List ℕ) → record_sound σ cs free_slot ns ≡ true
  unfolding record_sound
  free_sound ns = refl

  pub taken_sound : (w : Waiting) (ns : List ℕ) → allowed_pair σ cs w.r w.s ≡ true → w.d < σ.modulus → w.e < σ.modulus
      → all_below σ.modulus ns ≡ true
      → (stage : ℕ) → 1 ≤ stage → stage ≤ stage_entry → record_sound σ cs (slot_of stage w) ns ≡ true
  unfolding record_sound
  taken_sound w ns pair d e below stage taken few =
      let all : (allowed_pair σ cs w.r w.s
      && (ltb w.d σ.modulus && (ltb w.e σ.modulus && all_below σ.modulus ns))) ≡ true =
      and-true _ _ pair (and-true _ _ (lt-ltb w.d σ.modulus d) (and-true _ _ (lt-ltb w.e σ.modulus e) below)) in
      rw (le-leb stage stage_entry few, ne_eqb stage 0 (λ z. omega arith)) all

  pub numbers_low : (w : Waiting) → All (λ x. x < σ.modulus) w.elements → w.rh < σ.modulus → w.tau < σ.modulus
      → all_below σ.modulus (numbers_of w) ≡ true
  numbers_low w all rh tau = below_of_all σ.modulus (numbers_of w) (all_append all (all∷ rh (all∷ tau all[])))
