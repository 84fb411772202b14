-- The limits by what the sheet comes to are rules' at document 01's setting: both unfold to the same tests, record by record.
-- Assumes nothing.
use mathlib.Core.Path.{◌≡◌, refl}
use mathlib.Core.Bool.{true, false}
use mathlib.Core.List.{List, [], ◌∷◌}
use Prim.Native.Nat.{ℕ, suc, ◌≤◌, ◌<◌}
use borrow.Author.Tests.{le-leb, lt-leb, lt-ltb, le-ltb, eq-eqb, ne_eqb}
use lib.ListN.{length}
use Rattle.words.specs.Bytes.{all_below}
use Rattle.slots.specs.declared.Slot.{Slot}
use Rattle.rules.specs.Settings.{document01}
use Rattle.rules.specs.Columns.{Column}
use Rattle.rules.specs.Circuit.{gates_in}
use Rattle.rules.specs.Judging.{allowed_pair}
use Rattle.rules.specs.Server.{most_waiting}
use Rattle.rules.specs.WaitingList.{place_size, numbers_at, record_sound, records_sound, waiting_sound}
use Rattle.limits.specs.Sheets.{pair_sound}
use Rattle.waiting.specs.Soundness.{record_sound_at, records_sound_at, waiting_sound_at}

module _ (cs : List Column) where
  pub record_sound_lem : (x : Slot) (ns : List ℕ) → record_sound document01 cs x ns ≡ record_sound_at (gates_in cs) x ns
  unfolding record_sound record_sound_at allowed_pair pair_sound
  record_sound_lem x ns = refl

  pub records_sound_lem : (es : List ℕ) (k : ℕ) (xs : List Slot)
      → records_sound document01 cs es k xs ≡ records_sound_at (gates_in cs) (place_size cs) es k xs
  unfolding records_sound records_sound_at
  records_sound_lem es k [] = refl
  records_sound_lem es k (x ∷ xs) = rw (record_sound_lem x (numbers_at cs es k), records_sound_lem es (suc k) xs)

  -- of eight records
  pub waiting_sound_lem : (xs : List Slot) (es : List ℕ) → length xs ≡ most_waiting
      → waiting_sound document01 cs xs es ≡ waiting_sound_at (gates_in cs) (place_size cs) xs es
  unfolding waiting_sound waiting_sound_at
  waiting_sound_lem xs es h = rw (eq-eqb (length xs) most_waiting h, records_sound_lem es 0 xs)

-- ---- the tests of a record in their order: the one that fails, or the last where the others hold
module _ (gates : ℕ) (x : Slot) (ns : List ℕ) where
  pub stage_over : 3 < x.stage → false ≡ record_sound_at gates x ns
  unfolding record_sound_at
  stage_over h = rw (lt-leb x.stage 3 h)

  module _ (known : x.stage ≤ 3) where
    pub record_free : x.stage ≡ 0 → true ≡ record_sound_at gates x ns
    unfolding record_sound_at
    record_free e = rw (le-leb x.stage 3 known, eq-eqb x.stage 0 e)

    module _ (waits : x.stage ≡ 0 → ⊥) where
      pub pair_fails : pair_sound gates x.r x.s ≡ false → false ≡ record_sound_at gates x ns
      unfolding record_sound_at
      pair_fails e = rw (le-leb x.stage 3 known, ne_eqb x.stage 0 waits, e)

      module _ (pair : pair_sound gates x.r x.s ≡ true) where
        pub d_over : 2147483647 ≤ x.d → false ≡ record_sound_at gates x ns
        unfolding record_sound_at
        d_over h = rw (le-leb x.stage 3 known, ne_eqb x.stage 0 waits, pair, le-ltb x.d 2147483647 h)

        module _ (below : x.d < 2147483647) where
          pub e_over : 2147483647 ≤ x.e → false ≡ record_sound_at gates x ns
          unfolding record_sound_at
          e_over h =
              rw (
                le-leb x.stage 3 known,
                ne_eqb x.stage 0 waits,
                pair,
                lt-ltb x.d 2147483647 below,
                le-ltb x.e 2147483647 h,
              )

          pub numbers_decide : x.e < 2147483647 → all_below 2147483647 ns ≡ record_sound_at gates x ns
          unfolding record_sound_at
          numbers_decide h =
              rw (
                le-leb x.stage 3 known,
                ne_eqb x.stage 0 waits,
                pair,
                lt-ltb x.d 2147483647 below,
                lt-ltb x.e 2147483647 h,
              )
              refl
