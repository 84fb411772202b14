-- Opening: a table that opens stands beside the empty ledger, so every list of calls on it is answered as the ledger
-- tells. The table's bytes past the sheet are 0, its eight records are free and their numbers 0. Assumes nothing.
use mathlib.Core.Path.{◌≡◌, refl, sym, ap, ap₂, ◌∙◌}
use mathlib.Core.Bool.{Bool}
use mathlib.Core.List.{List, [], ◌∷◌, ◌++◌, map, append_assoc}
use Prim.Native.Nat.{ℕ, zero, suc, ◌+◌, ◌-◌, ◌*◌, ◌%◌, ◌^◌, ◌≤◌, ◌<◌}
use native.Mathlib.Nat.{zero-mod, mul-suc, mul-le-mul_left}
use native.Mathlib.Omega.{arith}
use borrow.Author.Tests.{leb-true}
use lib.Dec.{eqb, leb}
use lib.ListN.{length, get_or, take, drop, replicate, length-replicate, get_or-replicate, replicate-append-replicate}
use lib.Seq.{take_at, drop_at}
use Rattle.algebra.specs.Lists.{All, all[], all∷, distinct[], Rearranged, sum_over, tabulate}
use Rattle.algebra.proofs.Members.{and_right}
use Rattle.words.specs.Bytes.{bytes_of, bytes_of_all, part, splice, elements_of, all_below}
use Rattle.words.proofs.Splice.{part_of_take, take_end_splice, length_splice}
use Rattle.words.proofs.Elements.{elements_bytes}
use Rattle.words.proofs.Below.{below_of_all}
use Rattle.slots.specs.Slots.{free_slot}
use Rattle.rules.specs.Settings.{Setting, Facts}
use Rattle.rules.specs.Columns.{Column, columns_of, published_in, published_from}
use Rattle.rules.specs.Server.{Opened, most_waiting}
use Rattle.rules.specs.WaitingList.{place_size, run_size, numbers_at, wait_at, records_from, present, free_list}
use Rattle.rules.specs.Table.{Lent, stage_open, header_length, table_length, open_length, open_room, open_bytes, opened_table}
use Rattle.rules.specs.Ledger.{Call, empty, notes_with, ledger_totals, ledger_answers}
use Rattle.rules.specs.Runs.{run_table, table_answers}
use Rattle.rules.specs.Pools.{BytesIn, opens_in, Pool, columns, opened_at, table_at, ledger_at, answers_at}
use Rattle.rules.proofs.Circuits.Limits.{Limits, within_both}
use Rattle.rules.proofs.Circuits.Refusals.{sheet_read, sheet_limits_lem}
use Rattle.rules.proofs.Histories.MessageBytes.{width_positive}
use Rattle.rules.proofs.Histories.Opening.{positive, Opening, opening}
use Rattle.rules.proofs.Waiting.Said.{free_sound}
use Rattle.rules.proofs.Tables.Parts.{Parts, header, assemble}
use Rattle.rules.proofs.Tables.Listed.{Listed}
use Rattle.rules.proofs.Tables.Invariant.{Opens, Beside}
use Rattle.rules.proofs.Tables.Decided.{fits_bytes}
use Rattle.rules.proofs.Tables.Run.{run_beside, answers_same}

-- ---- zeros
zero_bytes : (w : ℕ) → bytes_of w 0 ≡ replicate w 0
unfolding bytes_of
zero_bytes zero = refl
zero_bytes (suc w) = ap (0 ∷◌) (zero_bytes w)

zeros_bytes : (w n : ℕ) → bytes_of_all w (replicate n 0) ≡ replicate (w * n) 0
unfolding bytes_of_all
zeros_bytes w zero = ap (λ (k : ℕ). replicate k 0) (let e : 0 ≡ w * 0 = omega arith in e)
zeros_bytes w (suc n) =
    ap₂ (λ (a b : List ℕ). a ++ b) (zero_bytes w) (zeros_bytes w n)
    ∙ replicate-append-replicate w (w * n) 0
    ∙ ap (λ (k : ℕ). replicate k 0) (let e : w + w * n ≡ w * suc n = omega arith in e)

all_zeros : (p : ℕ) → 0 < p → (n : ℕ) → All (λ x. x < p) (replicate n 0)
all_zeros p h zero = all[]
all_zeros p h (suc n) = all∷ h (all_zeros p h n)

-- a part of zeros
pub zeros_part : (m n k : ℕ) → m + n ≤ k → part m n (replicate k 0) ≡ replicate n 0
zeros_part m n k h =
    let x : ℕ = k - (m + n) in
    let e : k ≡ m + (n + x) = omega arith in
    let rest : List ℕ = replicate n 0 ++ replicate x 0 in
    let split : ◌≡◌ {A = List ℕ} (replicate k 0) (replicate m 0 ++ rest) =
    ap (λ (j : ℕ). replicate {A = ℕ} j 0) e
    ∙ sym (replicate-append-replicate m (n + x) 0)
    ∙ ap (λ (l : List ℕ). replicate m 0 ++ l) (sym (replicate-append-replicate n x 0)) in
    ap (part m n) split
    ∙ ap (take n) (drop_at (replicate m 0) rest m (length-replicate m 0))
    ∙ take_at (replicate n 0) (replicate x 0) n (length-replicate n 0)

-- ---- eight free records
module _ (σ : Setting) (o : Opened) (es : List ℕ) (enough : run_size o.columns ≤ length es) where
  abbrev zeros : List ℕ
  zeros = replicate (run_size o.columns) 0

  zeros_long : length zeros ≡ run_size o.columns
  zeros_long = length-replicate (run_size o.columns) 0

  fit : 0 + length zeros ≤ length es
  fit = omega (arith, zeros_long)

  numbers_zero : (j : ℕ) → j < most_waiting → numbers_at o.columns (splice es 0 zeros) j ≡ replicate (place_size o.columns) 0
  numbers_zero j h =
      let size : ℕ = place_size o.columns in
      let within : size * j + size ≤ size * most_waiting = omega (arith, mul-suc size j, mul-le-mul_left size h) in
      sym (part_of_take (size * j) size (0 + length zeros) (splice es 0 zeros) (omega (arith, zeros_long)))
      ∙ ap (part (size * j) size) (take_end_splice es 0 zeros fit)
      ∙ zeros_part (size * j) size (run_size o.columns) within

  none_listed : Listed σ o [] free_list (splice es 0 zeros)
  unfolding records_from wait_at present
  none_listed = record {
    eight = refl;
    enough = omega (arith, enough, length_splice es 0 zeros fit);
    fine = λ j h.
        let free : get_or free_list j free_slot ≡ free_slot = get_or-replicate most_waiting j free_slot free_slot h in
        record { sound = rw free (free_sound σ o.columns _); erased = λ e. (free, numbers_zero j h) };
    same = Rearranged.none;
    apart = distinct[];
    ids_fit = all[];
  }

module _ (σ : Setting) (facts : Facts σ) (servers own : ℕ) (sheet : List ℕ) (returns least : ℕ) (B : Lent)
    (opens : opens_in σ servers own sheet returns least B ≡ 0) where
  abbrev cs : List Column
  cs = columns_of sheet

  abbrev o : Opened
  o = record { servers = servers; own = own; columns = cs; returns = returns; least = least }

  known_open : Opening σ servers own sheet returns least (length B.bytes) (length B.slots) (length B.elements)
  known_open = opening σ servers own sheet returns least (length B.bytes) (length B.slots) (length B.elements) opens

  limited : Limits sheet cs
  limited = sheet_limits_lem sheet known_open.no_fault_lem

  pub open_facts : Opens σ o sheet
  open_facts = record {
    reads = sheet_read sheet known_open.no_fault_lem;
    servers_fit_lem = known_open.servers_fit_lem;
    own_fits = known_open.own_fits;
    returns_fit_lem = known_open.returns_fit_lem;
    least_fits_lem = known_open.least_fits_lem;
    totals_fit_lem = known_open.totals_fit_lem;
  }

  numbers_enough : run_size cs ≤ length B.elements
  unfolding open_room
  numbers_enough =
      let bytes : Bool = leb (open_length σ sheet returns) (length B.bytes) in
      let records : Bool = eqb (length B.slots) most_waiting in
      let numbers : Bool = leb (run_size cs) (length B.elements) in
      leb-true _ _ (and_right records numbers (and_right bytes _ known_open.enough))

  abbrev parts : Parts
  parts = record {
    stage = stage_open;
    servers = servers;
    own = own;
    returns = returns;
    decided = 0;
    entered = 0;
    least = least;
    sheet = sheet;
    totals = replicate (σ.width * published_in cs) 0;
    ids = replicate (4 * returns) 0;
    rest = drop (0 + length (open_bytes σ servers own sheet returns least)) B.bytes;
  }

  zeros_are : replicate (open_length σ sheet returns - (header_length + length sheet)) 0 ≡ parts.totals ++ parts.ids
  unfolding open_length table_length
  zeros_are =
      let size : open_length σ sheet returns - (header_length + length sheet) ≡ σ.width * published_in cs + 4 * returns = omega arith in
      ap (λ (k : ℕ). replicate k 0) size ∙ sym (replicate-append-replicate (σ.width * published_in cs) (4 * returns) 0)

  opened_parts : splice B.bytes 0 (open_bytes σ servers own sheet returns least) ≡ assemble σ parts
  unfolding splice open_bytes assemble bytes_of
  opened_parts =
      ap (λ (z : List ℕ). header σ parts ++ (sheet ++ z) ++ parts.rest) zeros_are
      ∙ ap (header σ parts ++◌) (simp append_assoc)

  -- the first totals: all 0
  zeros_again : elements_of σ.width parts.totals ≡ replicate (published_in cs) 0
  zeros_again =
      ap (elements_of σ.width) (sym (zeros_bytes σ.width (published_in cs)))
      ∙ elements_bytes σ.width (width_positive σ facts) (replicate (published_in cs) 0)
      (all_zeros (256 ^ σ.width) (fits_bytes σ facts 0 (positive σ facts)) (published_in cs))

  totals_none : elements_of σ.width parts.totals ≡ ledger_totals σ o []
  unfolding ledger_totals sum_over
  totals_none =
      zeros_again ∙ ap (λ (n : ℕ). replicate n 0) (sym limited.published_count) ∙ each (published_from 0 cs)
    where
      each : (l : List ℕ) → replicate (length l) 0 ≡ map (λ e. 0 % σ.modulus) l
      each [] = refl
      each (e ∷ l) = ap₂ (λ (a : ℕ) (b : List ℕ). a ∷ b) (sym (zero-mod σ.modulus)) (each l)

  pub opened_beside : Beside σ o (opened_table σ servers own sheet returns least B) empty
  unfolding notes_with elements_of tabulate
  opened_beside =
      let few = within_both 1 1024 returns known_open.returns_fit_lem in
      record {
        parts = parts;
        is = opened_parts;
        sized = record {
          reads = open_facts.reads;
          totals_long = length-replicate (σ.width * published_in cs) 0;
          ids_long = length-replicate (4 * returns) 0;
          returns_fit_lem = omega (arith, few.1);
          sheet_fits = omega (arith, limited.bytes_most, limited.entries_most);
          decided_few = omega arith;
          entered_few = omega arith;
          least_few = (within_both 1 returns least known_open.least_fits_lem).1;
        };
        opened_as_lem = record { servers_are = refl; own_is = refl; returns_are = refl; least_is = refl };
        tells = record {
          decided_is = refl;
          entered_is = refl;
          used_are = refl;
          unused_are = ap (λ (k : ℕ). replicate k 0) (sym (length-replicate (4 * returns) 0));
          totals_are = totals_none;
          totals_below =
              ap (all_below σ.modulus) zeros_again
              ∙ below_of_all σ.modulus _ (all_zeros σ.modulus (positive σ facts) (published_in cs));
        };
        staged = refl;
        listed = none_listed σ o B.elements numbers_enough;
        room = omega (arith, few.0);
      }

-- In a pool: each table opens, and after its calls stands beside its ledger
module _ (σ : Setting) (facts : Facts σ) (𝓟 : Pool σ) (i : ℕ) (h : i < 𝓟.servers) where
  abbrev S : ℕ
  S = 𝓟.servers

  opened_at_lem : Opens σ (opened_at σ 𝓟 i) 𝓟.sheet
  opened_at_lem = open_facts σ facts S i 𝓟.sheet 𝓟.returns 𝓟.least (𝓟.buffers i) (𝓟.opens i h)

  begins : Beside σ (opened_at σ 𝓟 i) (table_at σ 𝓟 i) empty
  begins = opened_beside σ facts S i 𝓟.sheet 𝓟.returns 𝓟.least (𝓟.buffers i) (𝓟.opens i h)

  many : length (published_from 0 (columns σ 𝓟)) ≡ published_in (columns σ 𝓟)
  many = (limited σ facts S i 𝓟.sheet 𝓟.returns 𝓟.least (𝓟.buffers i) (𝓟.opens i h)).published_count

  -- whatever list of calls a table gets
  pub tables_answer : (cs : List Call) → All BytesIn cs
      → table_answers σ (table_at σ 𝓟 i) cs ≡ ledger_answers σ (opened_at σ 𝓟 i) empty cs
  tables_answer cs bytes =
      answers_same σ facts (opened_at σ 𝓟 i) 𝓟.sheet opened_at_lem many cs (table_at σ 𝓟 i) empty begins bytes

  -- 1. EACH TABLE HANDS BACK WHAT THE LEDGER TELLS
  pub tables_tell : table_answers σ (table_at σ 𝓟 i) (𝓟.calls i) ≡ answers_at σ 𝓟 i
  tables_tell = tables_answer (𝓟.calls i) (𝓟.call_bytes i h)

  pub table_after_lem : Beside σ (opened_at σ 𝓟 i) (run_table σ (table_at σ 𝓟 i) (𝓟.calls i)) (ledger_at σ 𝓟 i)
  table_after_lem =
      run_beside σ facts (opened_at σ 𝓟 i) 𝓟.sheet opened_at_lem many (𝓟.calls i) (table_at σ 𝓟 i) empty begins (𝓟.call_bytes i h)
