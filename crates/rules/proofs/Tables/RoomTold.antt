-- What a sheet comes to is what its circuit, its share messages and its opening come to. The circuit is read back as it was
-- written, so the reader's counts are those of its steps; opening refuses N only by its limits. Assumes nothing.
use mathlib.Core.Path.{◌≡◌, refl, ap, ◌∙◌}
use mathlib.Core.Bool.{true}
use mathlib.Core.List.{List, [], ◌∷◌}
use Prim.Native.Nat.{ℕ, ◌+◌, ◌*◌, ◌≤◌, ◌<◌}
use native.Mathlib.Omega.{arith}
use Rattle.algebra.specs.Lists.{sum_over}
use Rattle.records.specs.Outcome.{ok, or_else}
use Rattle.rules.specs.Settings.{Setting, Facts}
use Rattle.rules.specs.Columns.{Column, yes_no, choice, number, top, point, entries_of}
use Rattle.rules.specs.Columns.{entries_in, fault_in, list_in, read_sheet, sheet_fault}
use Rattle.rules.specs.Columns.{columns_of, servers_fault, own_fault, least_fits, most_returns, within, totals_fit}
use Rattle.rules.specs.Circuit.{Step, wires_of, constants_of, adds_of, scales_of, gates_of, wires_in, circuit_of}
use Rattle.rules.specs.Circuit.{constants_in, adds_in, scales_in, gates_in}
use Rattle.rules.specs.CircuitReader.{step_wires, step_gates, step_tests, circuit_fault, count_in, sheet_circuit}
use Rattle.rules.specs.Making.{share_length}
use Rattle.rules.specs.Server.{open_fault}
use Rattle.rules.specs.Table.{open_room, open_refusal}
use Rattle.rules.specs.Sizes.{sizes_of, greatest_up_to, ToldFromSheet, RoomTold}
use Rattle.rules.proofs.Circuits.Limits.{within_both, within_is}
use Rattle.rules.proofs.Circuits.Counts.{circuit_counts}
use Rattle.rules.proofs.Circuits.Size.{circuit_size_is}
use Rattle.rules.proofs.Circuits.ReadBack as back
use Rattle.rules.proofs.Circuits.Refusals.{sheet_read}
use Rattle.rules.proofs.Histories.MessageBytes.{length_message}
use Rattle.rules.proofs.Histories.Opening.{opening}
use Rattle.rules.proofs.Tables.Greatest.{fits_largest, largest_fits, greatest_most, greatest_reached, fewer_fit}

-- kinds 1 to 5 make a wire each
pub column_wires : (c : Column) → wires_of c ≡ constants_of c + entries_of c + adds_of c + scales_of c + gates_of c
unfolding wires_of entries_of constants_of adds_of scales_of gates_of
column_wires yes_no = refl
column_wires (choice n) = omega arith
column_wires (number n) = omega arith
column_wires (top n) = omega arith
column_wires (point n) = omega arith

wires_by_kind : (cs : List Column) → wires_in cs ≡ constants_in cs + entries_in cs + adds_in cs + scales_in cs + gates_in cs
unfolding wires_in entries_in constants_in adds_in scales_in gates_in
wires_by_kind [] = refl
wires_by_kind (c ∷ cs) = omega (arith, column_wires c, wires_by_kind cs)

module _ (σ : Setting) (facts : Facts σ) (sheet : List ℕ) (no_fault_lem : sheet_fault sheet ≡ 0) where
  abbrev cs : List Column
  cs = columns_of sheet

  is_read : read_sheet sheet ≡ ok cs
  is_read = sheet_read sheet no_fault_lem

  some : 0 < σ.modulus
  some = omega (arith, facts.large)

  circuit_sound : circuit_fault σ (entries_in cs) (sheet_circuit σ sheet) ≡ 0
  unfolding circuit_fault fault_in sheet_circuit
  circuit_sound = rw (back.circuit_is_read σ facts sheet cs is_read) refl

  counted : (f : Step → ℕ) → count_in f σ (entries_in cs) (sheet_circuit σ sheet) ≡ sum_over f (circuit_of σ cs)
  unfolding count_in list_in sheet_circuit
  counted f = rw (back.circuit_is_read σ facts sheet cs is_read) refl

  -- ---- opening
  module _ (servers own returns least room records numbers : ℕ) (S-fits : servers_fault servers ≡ 0)
      (own_fits : own_fault servers own ≡ 0) (enough : open_room σ sheet returns room records numbers ≡ true) where
    opens_few : open_refusal σ servers own sheet returns least room records numbers ≡ 0
        → (1 ≤ least) × (least ≤ returns) × (returns ≤ greatest_up_to σ cs most_returns)
    opens_few e =
        let o = opening σ servers own sheet returns least room records numbers e in
        let n = within_both 1 most_returns returns o.returns_fit_lem in
        let q = within_both 1 returns least o.least_fits_lem in
        (q.0, q.1, greatest_reached σ some cs most_returns returns n.1 (fits_largest σ some returns cs o.totals_fit_lem))

    few_opens : (1 ≤ least) × (least ≤ returns) × (returns ≤ greatest_up_to σ cs most_returns)
        → open_refusal σ servers own sheet returns least room records numbers ≡ 0
    unfolding open_refusal open_fault or_else
    few_opens h =
        let l = greatest_most σ some cs most_returns in
        let n : within 1 most_returns returns ≡ true = within_is 1 most_returns returns (omega (arith, h.0, h.1)) (omega (arith, h.2)) in
        let q : least_fits returns least ≡ true = within_is 1 returns least h.0 h.1 in
        let t : totals_fit σ returns cs ≡ true = largest_fits σ some returns cs (fewer_fit σ some cs most_returns returns h.2) in
        rw (S-fits, own_fits, no_fault_lem, n, q, t, enough) refl

  told_from_sheet : ToldFromSheet σ sheet
  unfolding sizes_of share_length sheet_circuit
  told_from_sheet = record {
    circuit_is_read = circuit_sound;
    wires_are = counted step_wires ∙ omega (arith, (circuit_counts σ cs).wires_are, wires_by_kind cs);
    multiplications_are = counted step_gates ∙ (circuit_counts σ cs).gates_are;
    tests_are = counted step_tests ∙ (circuit_counts σ cs).tests_are;
    circuit_bytes_are = circuit_size_is σ cs;
    share_bytes_are = λ id server xs e. length_message σ 33 id server xs ∙ ap (λ n. 6 + σ.width * n) e;
    greatest_most = greatest_most σ some cs most_returns;
    greatest_opens =
        λ S own N Q room records numbers a b c.
        (opens_few S own N Q room records numbers a b c, few_opens S own N Q room records numbers a b c);
  }

pub room_told : (σ : Setting) → Facts σ → RoomTold σ
room_told σ facts sheet no_fault_lem = told_from_sheet σ facts sheet no_fault_lem
