-- An entry: refused where no return awaits its entry under the id in a sound open table (`enter_refusal_lem` of the crate rounds); else
-- the published entries of its share are added to the totals, and it is decided. Assumes nothing.
use mathlib.Core.Path.{◌≡◌, ◌∙◌}
use mathlib.Core.Bool.{cond, ◌&&◌}
use mathlib.Core.List.{List}
use Prim.Native.Nat.{ℕ, ◌<◌}
use native.Mathlib.Omega.{arith}
use lib.Dec.{lit≤}
use lib.ListN.{length, take}
use Rattle.algebra.proofs.Members.{and_left, and_right}
use Rattle.std.specs.Prelude.{Result, Ok, Err, Some}
use Rattle.std.specs.Result.{IsErrAnd}
use Rattle.std.proofs.lemmas.Result.{err_from_is_err_and}
use Rattle.words.specs.Bytes.{all_below}
use Rattle.records.specs.Outcome.{refused}
use Rattle.records.specs.Refusals.{number_of}
use Rattle.records.specs.declared.Refusal.{Refusal}
use Rattle.records.proofs.Refusals.{number_nonzero}
use Rattle.words.proofs.Splice.{length_part}
use Rattle.words.proofs.Below.{all_of_below, below_of_all, all_take}
use Rattle.slots.specs.declared.Change.{Change}
use Rattle.slots.specs.Slots.{free_slot, applied}
use Rattle.field.specs.Residues.{prime}
use Rattle.rules.specs.Settings.{document01}
use Rattle.rules.specs.Judging.{share_size}
use Rattle.rules.specs.Server.{enter_refusal}
use Rattle.rules.specs.WaitingList.{waiting_count, waiting_sound}
use Rattle.rules.specs.Table.{Lent, columns_at, totals_in, header_sound, counts_sound, table_state, table_sound, enter_refused, enter_table}
use Rattle.layout.specs.declared.Table.{Table}
use Rattle.waiting.specs.declared.Waiting.{Waiting}
use Rattle.waiting.specs.Changes.{records_at, lent}
use Rattle.waiting.proofs.Changes.{refused_changes, done_changes}
use Rattle.table.specs.Deciding.{Placed, Decided}
use Rattle.table.proofs.Answers.{headed_of}
use Rattle.table.proofs.Decided.{placed, decided_is}
use Rattle.rounds.specs.Waits.{numbers_in, Waits, share_in}
use Rattle.rounds.specs.Named.{waits_as, named_in}
use Rattle.rounds.specs.declared.named.Named.{Named}
use Rattle.rounds.proofs.Holding.{share_is, size_is, numbers_long}
use Rattle.rounds.proofs.Naming.{enter_refusal_lem, not_found, Names}
use Rattle.entering.specs.Totals.{Adds, with_published}
use Rattle.entering.specs.Calls.{Enters}
use Rattle.entering.proofs.AddedColumns.{added_is}

-- ---- the published entries of a return that waits can be added
adds : (T : Lent) (k : Table) (j : ℕ) → Waits T k j → (xs : List ℕ) → xs ≡ take (share_size (columns_at document01 T)) (numbers_in T j)
    → Adds T.bytes k xs
unfolding table_sound
adds T k j w xs e =
    let counts = counts_sound document01 T.bytes (waiting_count T.slots) in
    let totals = all_below prime (totals_in document01 T.bytes) in
    let last = waiting_sound document01 (columns_at document01 T) T.slots T.elements in
    let n = share_size (columns_at document01 T) in
    let long : length (take n (numbers_in T j)) ≡ n
    = length_part 0 n (numbers_in T j) (omega (arith, numbers_long T k j w, size_is T k w.sound.says)) in
    let each = all_of_below prime (numbers_in T j) w.numbers_below in
    record {
      headed = headed_of T k w.sound;
      long = w.sound.long;
      totals_below =
          and_left totals last
          (and_right counts (totals && last)
          (and_right (header_sound document01 T.bytes) (counts && (totals && last)) w.sound.is_sound));
      share_long = rw e (omega (arith, long, size_is T k w.sound.says));
      share_below = rw e (below_of_all prime (take n (numbers_in T j)) (all_take (λ a. a < prime) n each));
    }

-- ---- the call
module _ (T : Lent) (id : ℕ) where
  refused_is : enter_refused document01 T id ≡ cond (table_sound document01 T && waits_as T id 3) 0 11
  unfolding enter_refused enter_refusal table_state
  refused_is = enter_refusal_lem T id

  refused_by_lem : (e : Refusal) → refused (number_of e) ≡ named_in T id 3 → Enters T id (Err e) T.bytes T.elements
  refused_by_lem e q =
      let b = not_found T id 3 (number_of e) q in
      refused_changes (enter_refused document01 T id) (enter_table document01 T id) T (number_of e) (refused_is ∙ rw (b.0, b.1))
      (number_nonzero e)

  pub enter_unnamed : (a : Result Change Refusal) (e : Refusal) → IsErrAnd a (λ y. y ≡ e) → refused (number_of e) ≡ named_in T id 3
      → Enters T id a T.bytes T.elements
  enter_unnamed a e h q = let p = err_from_is_err_and a h in rw (p.1, p.2) (refused_by_lem e q)

  -- the return that is named, and its share as the code cuts it out
  module _ (v : Named) (n : Names T id 3 v.table v.at v.waiting) (xs : List ℕ) (x : xs ≡ share_in v.table v.at T.elements) where
    share_same : xs ≡ take (share_size (columns_at document01 T)) (numbers_in T v.at)
    share_same = x ∙ share_is T v.table n.waits.sound.says v.at

    pub enter_adds : Adds T.bytes v.table xs
    enter_adds = adds T v.table v.at n.waits xs share_same

    pub enter_placed : (t : List ℕ) → length t ≡ length T.bytes → Placed t v.table T.elements v.at 1
    enter_placed t l = placed T v.table n.waits.sound v.at n.waits.within n.waits.not_free t l 1 (lit≤ tt)

    pub enter_done : (c : Change) (t es : List ℕ) → Decided v.table v.at 1 id (with_published T.bytes xs) T.elements c t es
        → Enters T id (Ok c) t es
    unfolding enter_table
    enter_done c t es d =
        let s = n.waits.sound in
        let new : lent t (applied T.slots (Some (records_at v.at free_slot))) es ≡ enter_table document01 T id
        = rw d.frees at (decided_is T v.table s 1 id (with_published T.bytes xs) v.at n.place_is c t es d)
        ∙ rw (share_same, added_is T id v.at n.place_is) in
        rw d.frees
        (done_changes (enter_refused document01 T id) (enter_table document01 T id) T v.at free_slot t es (refused_is ∙ rw n.stands)
        (omega (arith, n.waits.within, s.eight)) new)
