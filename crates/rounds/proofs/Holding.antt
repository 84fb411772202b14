-- A return that waits in a record of a sound table: the numbers of its place as the code cuts them out, that they are elements,
-- and its sigma. The table's laws give what its record keeps to (`waits_at_lem`), and the places are rules'. Assumes nothing.
use mathlib.Core.Path.{◌≡◌, refl, sym, ◌∙◌}
use mathlib.Core.Bool.{false}
use mathlib.Core.List.{List}
use Prim.Native.Nat.{ℕ, ◌+◌, ◌*◌, ◌≤◌, ◌<◌}
use native.Mathlib.Omega.{arith}
use lib.ListN.{length, get_or, take, drop}
use lib.Seq.{get_or-take, take-take}
use Rattle.words.proofs.Splice.{length_part}
use Rattle.words.proofs.Below.{all_of_below}
use Rattle.field.specs.Residues.{prime, Elements}
use Rattle.field.proofs.Below.{member_below}
use Rattle.rules.specs.Settings.{document01}
use Rattle.rules.specs.Columns.{entries_in}
use Rattle.rules.specs.Circuit.{gates_in}
use Rattle.rules.specs.Judging.{a_of, b_of, c_of, share_size}
use Rattle.rules.specs.Server as rules
use Rattle.rules.specs.Server.{sigma_in}
use Rattle.rules.specs.WaitingList.{is_free}
use Rattle.rules.specs.Table.{Lent, columns_in, columns_at, opened_in}
use Rattle.limits.specs.Sheets.{size_of}
use Rattle.rules.proofs.Histories.OwnMessages.{pair_below}
use Rattle.layout.specs.Places.{place_size_of}
use Rattle.layout.specs.declared.Table.{Table}
use Rattle.layout.specs.Numbers.{table_of}
use Rattle.waiting.specs.Held.{held_at}
use Rattle.waiting.specs.declared.Waiting.{Waiting}
use Rattle.waiting.proofs.Places.{place_within}
use Rattle.table.specs.Reading.{Sound}
use Rattle.table.proofs.Waiting as table
use Rattle.table.proofs.Waiting.{numbers_are}
use Rattle.rounds.specs.Waits.{slot_in, numbers_in, held_in, Waits, place_in, share_in, InRun, Sharing, sigma_at}

-- ---- the numbers of a place lie within the run
pub run_fits : (es : List ℕ) (k : Table) (j : ℕ) → InRun es k j → (z : ℕ) → z ≡ place_size_of k.entries k.gates
    → z * j + z ≤ length es
run_fits es k j r z e = omega (arith, place_within z j r.within, r.run_long)

-- the share is their start
pub share_is : (T : Lent) (k : Table) → k ≡ table_of T.bytes → (j : ℕ)
    → share_in k j T.elements ≡ take (share_size (columns_at document01 T)) (numbers_in T j)
unfolding table_of share_size
share_is T k e j =
    let cs = columns_at document01 T in
    let n : ℕ = entries_in cs + (gates_in cs + gates_in cs) + 6 in
    rw e (sym (take-take n (n + 2) (drop ((n + 2) * j) T.elements) (omega arith)))

pub size_is : (T : Lent) (k : Table) → k ≡ table_of T.bytes → size_of k.entries k.gates ≡ share_size (columns_at document01 T)
unfolding table_of share_size
size_is T k e = rw e

-- ---- sigma
sigma_at_lem : (t ns : List ℕ) (w : rules.Waiting) → w.elements ≡ take (share_size (columns_in document01 t)) ns
    → sigma_at (table_of t) ns w.rh w.d w.e ≡ sigma_in document01 (opened_in document01 t) w
unfolding table_of sigma_at sigma_in a_of b_of c_of share_size
sigma_at_lem t ns w x =
    let l = entries_in (columns_in document01 t) in
    let m = gates_in (columns_in document01 t) in
    let n = l + (m + m) + 6 in
    let at : (i : ℕ) → i < n → get_or (take n ns) i 0 ≡ get_or ns i 0 = λ i h. get_or-take n ns i 0 h in
    let b : l + 3 + (m + m) + 1 ≡ l + 4 + (m + m) = omega arith in
    let c : l + 3 + (m + m) + 2 ≡ l + 5 + (m + m) = omega arith in
    rw (
      x,
      at (l + 3 + (m + m)) (omega arith),
      at (l + 4 + (m + m)) (omega arith),
      at (l + 5 + (m + m)) (omega arith),
      b,
      c,
    )

pub sigma_is : (t ns : List ℕ) (k : Table) (w : rules.Waiting) → k ≡ table_of t
    → w.elements ≡ take (share_size (columns_in document01 t)) ns
    → sigma_at k ns w.rh w.d w.e ≡ sigma_in document01 (opened_in document01 t) w
sigma_is t ns k w e x = rw e (sigma_at_lem t ns w x)

-- ---- what is known of a record that is not free
pub waits_at_lem : (T : Lent) (k : Table) → Sound T k → (j : ℕ) → j < 8 → is_free (slot_in T j) ≡ false → Waits T k j
waits_at_lem T k s j h f =
    let w = table.waits_at_lem T k s j h f in
    let x = slot_in T j in
    let cs = columns_at document01 T in
    let pair = pair_below document01 cs x.r x.s w.pair in
    record {
      sound = s;
      within = h;
      not_free = f;
      r_below = pair.0;
      s_below = pair.1;
      d_below = w.d_below;
      e_below = w.e_below;
      numbers_below = w.numbers_below;
    }

module _ (T : Lent) (k : Table) (j : ℕ) (w : Waits T k j) where
  pub in_run : InRun T.elements k j
  in_run = record { limited = w.sound.limited; within = w.within; run_long = w.sound.run_long }

  elements : Elements (numbers_in T j)
  elements = all_of_below prime (numbers_in T j) w.numbers_below

  pub numbers_long : length (numbers_in T j) ≡ place_size_of k.entries k.gates
  numbers_long =
      let z = place_size_of k.entries k.gates in
      rw (numbers_are T k w.sound j) at
      (length_part (z * j) z T.elements (run_fits T.elements k j in_run z refl))

  -- what its record says can be read off, and is what the code reads off
  module _ (ns : List ℕ) (e : ns ≡ place_in k j T.elements) (z : ℕ) (q : z ≡ size_of k.entries k.gates) where
    numbers_same : ns ≡ numbers_in T j
    numbers_same = e ∙ numbers_are T k w.sound j

    pub held_asks : (z + 2 ≤ length ns) × ((slot_in T j).d < prime) × ((slot_in T j).e < prime)
    held_asks = (rw numbers_same (omega (arith, numbers_long)), w.d_below, w.e_below)

    pub held_is : held_at (slot_in T j) ns z ≡ held_in T j
    held_is = rw (numbers_same, q, size_is T k w.sound.says)

  -- sigma can be worked out
  pub sharing : (ns : List ℕ) → ns ≡ numbers_in T j → (u : Waiting) → u ≡ held_in T j → Sharing k ns u.rh u.d u.e
  unfolding held_at
  sharing ns e u q =
      rw (e, q)
      (record {
        limited = w.sound.limited;
        long = omega (arith, numbers_long);
        elements = elements;
        rh_below = member_below (numbers_in T j) (share_size (columns_at document01 T)) elements;
        d_below = w.d_below;
        e_below = w.e_below;
      })
