-- A return that is decided: the table after a rejected verdict, an entry or a drop stands beside the ledger after it. The bytes get the counts, the
-- id and, where it is entered, the totals; its record is set free and its numbers become 0. Assumes nothing.
use mathlib.Core.Path.{◌≡◌, refl, sym, ap, ap₂, ◌∙◌, subst}
use mathlib.Core.Bool.{Bool, true, false, cond}
use mathlib.Core.List.{List, [], ◌∷◌, ◌++◌, map, append-nil}
use mathlib.Core.Option.{some}
use Prim.Native.Nat.{ℕ, suc, ◌+◌, ◌*◌, ◌%◌, ◌^◌, ◌≤◌, ◌<◌}
use native.Mathlib.Nat.{mod-lt, add-zero}
use native.Mathlib.Omega.{arith}
use lib.ListN.{length, get_or, set, take, drop, replicate, length-append, length-map}
use lib.Seq.{length-take-le, drop-drop}
use Rattle.algebra.specs.Lists.{All, all[], all∷, tabulate, sum_over}
use Rattle.algebra.proofs.Members.{all_map}
use Rattle.algebra.proofs.Rearrangement.{rearranged_length}
use Rattle.words.specs.Bytes.{bytes_of, bytes_of_all, splice, elements_of, all_below}
use Rattle.words.proofs.Numbers.{length_bytes, value_bytes_lem}
use Rattle.words.proofs.Splice.{length_splice, drop_splice, take_end_splice}
use Rattle.words.proofs.Elements.{length_bytes_all, elements_bytes, elements_append, elements_one}
use Rattle.words.proofs.Below.{below_of_all}
use Rattle.slots.specs.Slots.{free_slot}
use Rattle.rules.specs.Settings.{Setting, Facts}
use Rattle.rules.specs.Columns.{Column, published_in, published_from}
use Rattle.rules.specs.Keyed.{find, without}
use Rattle.rules.specs.Server.{Opened, Waiting, held, waiting_of, published_shares}
use Rattle.rules.specs.WaitingList.{place_of, cleared_numbers}
use Rattle.rules.specs.Table.{Lent, totals_place, ids_place, sheet_size, columns_in, returns_in, opened_in, totals_in}
use Rattle.rules.specs.Table.{decided_bytes, decided_table, added_totals, added_bytes, waiting_under}
use Rattle.rules.specs.Ledger.{Note, Pending, waits_one, waitsTwo, waitsEntry, note_in, pending_id, is_open, Decision, entered, Decided}
use Rattle.rules.specs.Ledger.{is_entered, notes_with, ids_of, notes_of, ledger_totals, ledger_wait}
use Rattle.rules.proofs.Histories.MessageBytes.{width_positive}
use Rattle.rules.proofs.Histories.Opening.{positive}
use Rattle.rules.proofs.Histories.Keyed.{found_id, found_out}
use Rattle.rules.proofs.Histories.Moves.{at, decided_as}
use Rattle.rules.proofs.Tables.Parts.{Parts, Sized, assemble, placed, decided_are, entered_are}
use Rattle.rules.proofs.Tables.State.{totals_are}
use Rattle.rules.proofs.Tables.Writes.{set_counts, set_runs, put_counts, put_totals, put_ids}
use Rattle.rules.proofs.Tables.Listed.{Listed, found_fits, freed_listed}
use Rattle.rules.proofs.Tables.Invariant.{Beside, opened_same}
use Rattle.rules.proofs.Tables.Taken.{under_is}
use Rattle.rules.proofs.Tables.LedgerGrows.{notes_grow, ids_grow, count_grows, totals_grow}

-- a number below p fits its bytes
pub fits_bytes : (σ : Setting) → Facts σ → (x : ℕ) → x < σ.modulus → x < 256 ^ σ.width
fits_bytes σ facts x h = omega (arith, facts.fits)

-- one id more
id_noted : (ids : List ℕ) (n id : ℕ) → id < 256 ^ 4 → 4 * n + 4 ≤ length ids
    → elements_of 4 (take (4 * (n + 1)) (splice ids (4 * n) (bytes_of 4 id))) ≡ elements_of 4 (take (4 * n) ids) ++ (id ∷ [])
id_noted ids n id h fit =
    let four : length (bytes_of 4 id) ≡ 4 = length_bytes 4 id in
    let inside : 4 * n + length (bytes_of 4 id) ≤ length ids = omega arith in
    let end : 4 * (n + 1) ≡ 4 * n + length (bytes_of 4 id) = omega arith in
    ap (elements_of 4) (ap (λ (k : ℕ). take k (splice ids (4 * n) (bytes_of 4 id))) end ∙ take_end_splice ids (4 * n) (bytes_of 4 id) inside)
    ∙ elements_append 4 (omega arith) (take (4 * n) ids) (bytes_of 4 id) n (length-take-le (4 * n) ids (omega arith))
    ∙ ap (elements_of 4 (take (4 * n) ids) ++◌)
    (elements_one 4 (omega arith) (bytes_of 4 id) four ∙ ap (λ (k : ℕ). k ∷ []) (value_bytes_lem 4 id h))

-- ---- the bytes: one return more decided, counted a more times as entered, and the totals t
module _ (σ : Setting) (cs : List Column) (g : Parts) (z : Sized σ cs g) (id : ℕ) (room : g.decided < g.returns) where
  abbrev noted : List ℕ
  noted = splice g.ids (4 * g.decided) (bytes_of 4 id)

  abbrev decided_parts : ℕ → List ℕ → Parts
  decided_parts a t = set_counts (g.decided + 1) (g.entered + a) (set_runs t noted g)

  inside : 4 * g.decided + 4 ≤ length g.ids
  inside = omega (arith, z.ids_long)

  id_inside : 4 * g.decided + length (bytes_of 4 id) ≤ length g.ids
  id_inside = omega (arith, length_bytes 4 id, inside)

  noted_long : length noted ≡ length g.ids
  noted_long = length_splice g.ids (4 * g.decided) (bytes_of 4 id) id_inside

  unused : drop (4 * g.decided) g.ids ≡ drop (4 * g.decided) (replicate (length g.ids) 0)
      → drop (4 * (g.decided + 1)) noted ≡ drop (4 * (g.decided + 1)) (replicate (length noted) 0)
  unused zeros =
      let a : ℕ = 4 * g.decided in
      let four : length (bytes_of 4 id) ≡ 4 = length_bytes 4 id in
      let past : 4 * (g.decided + 1) ≡ a + 4 = omega arith in
      drop_splice g.ids a (bytes_of 4 id) id_inside (4 * (g.decided + 1)) (omega arith)
      ∙ ap (λ (k : ℕ). drop k g.ids) past
      ∙ sym (drop-drop 4 a g.ids)
      ∙ ap (drop 4) zeros
      ∙ drop-drop 4 a (replicate (length g.ids) 0)
      ∙ ap₂ (λ (k m : ℕ). drop k (replicate m 0)) (sym past) (sym noted_long)

  module _ (a : ℕ) (t : List ℕ) (same : length t ≡ length g.totals) (one : a ≤ 1) where
    abbrev counted : List ℕ → Parts
    counted ids = set_counts (g.decided + 1) (g.entered + a) (set_runs t ids g)

    counted_sized : (ids : List ℕ) → length ids ≡ length g.ids → Sized σ cs (counted ids)
    counted_sized ids l = record {
      reads = z.reads;
      totals_long = same ∙ z.totals_long;
      ids_long = l ∙ z.ids_long;
      returns_fit_lem = z.returns_fit_lem;
      sheet_fits = z.sheet_fits;
      decided_few = omega arith;
      entered_few = omega (arith, z.entered_few);
      least_few = z.least_few;
    }

    decided_sized : Sized σ cs (decided_parts a t)
    decided_sized = counted_sized noted noted_long

    -- the counts and the id put one after another
    put_decided : (T : Lent) → T.bytes ≡ assemble σ g
        → decided_bytes σ T a id (assemble σ (set_runs t g.ids g)) ≡ assemble σ (decided_parts a t)
    unfolding decided_bytes
    put_decided T is =
        let u = assemble σ (set_runs t g.ids g) in
        let put : ℕ → ℕ → ℕ → List ℕ =
        λ d c place. splice (splice u 6 (bytes_of 2 (d + 1) ++ bytes_of 2 (c + a))) (place + 4 * d) (bytes_of 4 id) in
        ap (λ (v : List ℕ). decided_bytes σ (record { bytes = v; slots = T.slots; elements = T.elements }) a id u) is
        ∙ (λ i. put (decided_are σ cs g z i) (entered_are σ cs g z i) (placed σ cs g z (ids_place σ) i))
        ∙ ap (λ (v : List ℕ). splice v (ids_place σ (length g.sheet) cs g.returns + 4 * g.decided) (bytes_of 4 id))
        (put_counts σ (set_runs t g.ids g) (g.decided + 1) (g.entered + a))
        ∙ put_ids σ cs (counted g.ids) (counted_sized g.ids refl) (4 * g.decided) (bytes_of 4 id) id_inside

module _ (σ : Setting) (facts : Facts σ) (o : Opened) (many : length (published_from 0 o.columns) ≡ published_in o.columns)
    (T : Lent) (ws : List Pending) (ds : List Decided) (b : Beside σ o T (at (is_open ws) ds)) (id : ℕ) (v : Pending)
    (q : find pending_id id ws ≡ some v) where
  abbrev W : ℕ
  W = σ.width

  abbrev g : Parts
  g = b.parts

  abbrev n : Note
  n = note_in v

  abbrev rest : List Pending
  rest = without pending_id id ws

  abbrev old : List Note
  old = notes_with is_entered ds

  abbrev grown : Decision → List Note
  grown d = notes_with is_entered (ds ++ (decided_as n d ∷ []))

  opened : opened_in σ T.bytes ≡ o
  opened = opened_same σ o T (at (is_open ws) ds) b

  one_less : suc (length rest) ≡ length ws
  one_less = rearranged_length (found_out pending_id id ws v q)

  left : g.decided < g.returns
  left = omega (arith, one_less, b.room, b.tells.decided_is, b.opened_as_lem.returns_are)

  named : n.id ≡ id
  named = found_id pending_id id ws v q

  used : (d : Decision)
      → elements_of 4 (take (4 * (g.decided + 1)) (splice g.ids (4 * g.decided) (bytes_of 4 id)))
      ≡ ids_of (notes_of (ds ++ (decided_as n d ∷ [])))
  used d =
      ap (λ (k : ℕ). elements_of 4 (take (4 * (g.decided + 1)) (splice g.ids (4 * g.decided) (bytes_of 4 k)))) (sym named)
      ∙ id_noted g.ids g.decided n.id (found_fits σ o ws T.slots T.elements b.listed id v q)
      (inside σ o.columns g b.sized id left)
      ∙ ap (◌++ (n.id ∷ [])) b.tells.used_are
      ∙ sym (ids_grow ds n d)

  -- decided as d, with the totals t
  decide_as_lem : (d : Decision) (a : ℕ) (t U : List ℕ) → a ≤ 1 → g.entered + a ≡ length (grown d) → length t ≡ length g.totals
      → elements_of W t ≡ ledger_totals σ o (grown d) → all_below σ.modulus (elements_of W t) ≡ true
      → U ≡ assemble σ (set_runs t g.ids g)
      → Beside σ o (decided_table σ T id (decided_bytes σ T a id U)) (at (is_open rest) (ds ++ (decided_as n d ∷ [])))
  unfolding decided_table
  decide_as_lem d a t U one count long are below put = record {
    parts = decided_parts σ o.columns g b.sized id left a t;
    is = ap (decided_bytes σ T a id) put ∙ put_decided σ o.columns g b.sized id left a t long one T b.is;
    sized = decided_sized σ o.columns g b.sized id left a t long one;
    opened_as_lem = b.opened_as_lem;
    tells = record {
      decided_is = ap (◌+ 1) b.tells.decided_is ∙ sym (count_grows ds n d);
      entered_is = count;
      used_are = used d;
      unused_are = unused σ o.columns g b.sized id left b.tells.unused_are;
      totals_are = are;
      totals_below = below;
    };
    staged = b.staged;
    listed = subst (λ (p : Opened).
        Listed σ o rest (set T.slots (place_of id T.slots) free_slot)
        (cleared_numbers p.columns T.elements (place_of id T.slots)))
        (sym opened) (freed_listed σ o ws T.slots T.elements b.listed id v q);
    room = omega (arith, count_grows ds n d, one_less, b.room);
  }

  -- rejected or dropped: the totals stay
  pub kept : (d : Decision) → is_entered d ≡ false
      → Beside σ o (decided_table σ T id (decided_bytes σ T 0 id T.bytes)) (at (is_open rest) (ds ++ (decided_as n d ∷ [])))
  kept d no_more =
      let same : grown d ≡ old = notes_grow is_entered ds n d ∙ ap (λ (t : Bool). old ++ cond t (n ∷ []) []) no_more ∙ append-nil old in
      decide_as_lem d 0 g.totals T.bytes (omega arith) (add-zero g.entered ∙ b.tells.entered_is ∙ ap length (sym same)) refl
      (b.tells.totals_are ∙ ap (ledger_totals σ o) (sym same)) b.tells.totals_below b.is

  -- entered: the published entries are added
  elements_are : (waiting_under σ T id).elements ≡ n.elements
  unfolding ledger_wait waiting_of
  elements_are = ap (λ (w : Waiting). w.elements) (under_is σ o T ws ds b id v q) ∙ held_elements v
    where
      held_elements : (p : Pending) → (held (ledger_wait σ o p)).elements ≡ (note_in p).elements
      held_elements (waits_one m) = refl
      held_elements (waitsTwo m x y) = refl
      held_elements (waitsEntry m x y) = refl

  added_are : added_totals σ T id ≡ ledger_totals σ o (old ++ (n ∷ []))
  unfolding added_totals
  added_are =
      let totals : totals_in σ T.bytes ≡ ledger_totals σ o old =
      ap (totals_in σ) b.is ∙ totals_are σ o.columns g b.sized ∙ b.tells.totals_are in
      let published : published_in (columns_in σ T.bytes) ≡ length (published_from 0 o.columns) =
      ap (λ (p : Opened). published_in p.columns) opened ∙ sym many in
      (λ i. tabulate (λ k. (get_or (totals i) k 0 + get_or (published_shares σ (opened i) (elements_are i)) k 0) % σ.modulus) (published i))
      ∙ totals_grow σ o old n

  totals_low : (ns : List Note) → All (λ x. x < σ.modulus) (ledger_totals σ o ns)
  unfolding ledger_totals
  totals_low ns = low (published_from 0 o.columns)
    where
      low : (l : List ℕ) → All (λ x. x < σ.modulus) (map (λ e. sum_over (λ m. get_or m.elements e 0) ns % σ.modulus) l)
      low [] = all[]
      low (e ∷ l) = all∷ (mod-lt _ (positive σ facts)) (low l)

  totals_many : (ns : List Note) → length (ledger_totals σ o ns) ≡ published_in o.columns
  unfolding ledger_totals
  totals_many ns = length-map (published_from 0 o.columns) _ ∙ many

  pub admitted : Beside σ o (decided_table σ T id (decided_bytes σ T 1 id (added_bytes σ T id)))
      (at (is_open rest) (ds ++ (decided_as n entered ∷ [])))
  unfolding added_bytes
  admitted =
      let more : grown entered ≡ old ++ (n ∷ []) = notes_grow is_entered ds n entered in
      let new = ledger_totals σ o (old ++ (n ∷ [])) in
      let t = bytes_of_all W new in
      let back : elements_of W t ≡ new =
      elements_bytes W (width_positive σ facts) new (all_map (λ x h. fits_bytes σ facts x h) (totals_low (old ++ (n ∷ [])))) in
      let long : length t ≡ length g.totals =
      length_bytes_all W new ∙ ap (W *◌) (totals_many (old ++ (n ∷ []))) ∙ sym b.sized.totals_long in
      let put : splice T.bytes (totals_place σ (sheet_size σ T.bytes) (columns_in σ T.bytes) (returns_in σ T.bytes))
      (bytes_of_all W (added_totals σ T id)) ≡ assemble σ (set_runs t g.ids g) =
      ap₂ (λ (u v : List ℕ). splice u (totals_place σ (sheet_size σ u) (columns_in σ u) (returns_in σ u)) (bytes_of_all W v)) b.is added_are
      ∙ ap (λ (k : ℕ). splice (assemble σ g) k t) (placed σ o.columns g b.sized (totals_place σ))
      ∙ put_totals σ o.columns g b.sized t long in
      decide_as_lem entered 1 t _ (omega arith)
      (ap (◌+ 1) b.tells.entered_is ∙ sym (ap length more ∙ length-append old (n ∷ []))) long
      (back ∙ ap (ledger_totals σ o) (sym more))
      (ap (all_below σ.modulus) back ∙ below_of_all σ.modulus new (totals_low (old ++ (n ∷ [])))) put
