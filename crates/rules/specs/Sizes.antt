-- Room told from the sheet: what a sheet comes to, from its bytes alone.
-- Assumes nothing.
use Rattle.std.specs.Prelude.{◌≡◌, ◌↔◌, true, cond, List, [], ◌∷◌, ℕ, zero, suc, ◌+◌, ◌*◌, ◌≤◌, length}
use Rattle.rules.specs.Settings.{Setting}
use Rattle.rules.specs.Columns.{Column, entries_of, entries_in, published_in, sheet_fault, columns_of, totals_fit, most_returns}
use Rattle.rules.specs.Columns.{servers_fault, own_fault}
use Rattle.rules.specs.Circuit.{Step, constants_of, adds_of, scales_of, gates_of, tests_of}
use Rattle.rules.specs.Circuit.{constants_in, adds_in, scales_in, gates_in, tests_in}
use Rattle.rules.specs.CircuitReader.{body_lengths, step_wires, step_gates, step_tests, circuit_fault, count_in, sheet_circuit}
use Rattle.rules.specs.Judging.{share_size}
use Rattle.rules.specs.Making.{share_message, share_length}
use Rattle.rules.specs.Table.{open_room, open_refusal}

-- "the greatest N that opens": the greatest of 1 to n with which no total can reach p, 0 for none
unfoldable pub greatest_up_to : Setting → List Column → ℕ → ℕ
greatest_up_to σ cs zero = 0
greatest_up_to σ cs (suc n) = cond (totals_fit σ (suc n) cs) (suc n) (greatest_up_to σ cs n)

-- "Give entries, published entries, wires, multiplications, tests, circuit bytes, share message bytes, and the greatest N
-- that opens", and the number of columns
pub record Sizes : Type 0 where
  pub columns : ℕ
  pub entries : ℕ
  pub published : ℕ
  pub wires : ℕ
  pub multiplications : ℕ
  pub tests : ℕ
  pub circuit_bytes : ℕ
  pub share_bytes : ℕ
  pub greatest_returns : ℕ

-- "These are the very numbers of the circuit that would be built": wires, multiplications and tests are those that the
-- reader of circuits counts in the bytes of the sheet's circuit
unfoldable pub sizes_of : Setting → List ℕ → Sizes
sizes_of σ sheet =
    let cs = columns_of sheet in
    let counted : (Step → ℕ) → ℕ = λ f. count_in f σ (entries_in cs) (sheet_circuit σ sheet) in
    record {
      columns = length cs;
      entries = entries_in cs;
      published = published_in cs;
      wires = counted step_wires;
      multiplications = counted step_gates;
      tests = counted step_tests;
      circuit_bytes = length (sheet_circuit σ sheet);
      share_bytes = share_length σ cs;
      greatest_returns = greatest_up_to σ cs most_returns;
    }

-- "found without building it": how many steps of kinds 1 to 6 there are, each times one more than its kind's body length
unfoldable pub size_by_kind : List ℕ → List ℕ → ℕ
size_by_kind [] ns = 0
size_by_kind (l ∷ ls) [] = 0
size_by_kind (l ∷ ls) (n ∷ ns) = n * suc l + size_by_kind ls ns

-- the steps of one column, and those of a sheet's circuit, which starts with a constant
abbrev pub column_kinds : Column → List ℕ
column_kinds c = constants_of c ∷ entries_of c ∷ adds_of c ∷ scales_of c ∷ gates_of c ∷ tests_of c ∷ []

abbrev pub circuit_kinds : List Column → List ℕ
circuit_kinds cs = suc (constants_in cs) ∷ entries_in cs ∷ adds_in cs ∷ scales_in cs ∷ gates_in cs ∷ tests_in cs ∷ []

unfoldable pub column_size : Setting → Column → ℕ
column_size σ c = size_by_kind (body_lengths σ) (column_kinds c)

unfoldable pub circuit_size : Setting → List Column → ℕ
circuit_size σ cs = size_by_kind (body_lengths σ) (circuit_kinds cs)

-- What is promised of a sheet that is read
pub record ToldFromSheet (σ : Setting) (sheet : List ℕ) : Type 0 where
  -- its circuit is read, over its entries, with its numbers of multiplications and tests; kinds 1 to 5 make a wire each
  pub circuit_is_read : circuit_fault σ (entries_in (columns_of sheet)) (sheet_circuit σ sheet) ≡ 0
  pub wires_are : (sizes_of σ sheet).wires
      ≡ 1 + (constants_in (columns_of sheet) + entries_in (columns_of sheet) + adds_in (columns_of sheet) + scales_in (columns_of sheet)
      + gates_in (columns_of sheet))
  pub multiplications_are : (sizes_of σ sheet).multiplications ≡ gates_in (columns_of sheet)
  pub tests_are : (sizes_of σ sheet).tests ≡ tests_in (columns_of sheet)
  -- its bytes, counted by the table of body lengths
  pub circuit_bytes_are : (sizes_of σ sheet).circuit_bytes ≡ circuit_size σ (columns_of sheet)
  -- each share message has so many bytes
  pub share_bytes_are : (id server : ℕ) (xs : List ℕ) → length xs ≡ share_size (columns_of sheet)
      → length (share_message σ id server xs) ≡ (sizes_of σ sheet).share_bytes
  -- N opens exactly from 1 to the greatest, which is at most 1,024, with Q from 1 to N, where S, the own number and the room are in
  -- order
  pub greatest_most : (sizes_of σ sheet).greatest_returns ≤ most_returns
  pub greatest_opens : (servers own returns least room records numbers : ℕ) → servers_fault servers ≡ 0 → own_fault servers own ≡ 0
      → open_room σ sheet returns room records numbers ≡ true
      → (open_refusal σ servers own sheet returns least room records numbers ≡ 0)
      ↔ ((1 ≤ least) × (least ≤ returns) × (returns ≤ (sizes_of σ sheet).greatest_returns))

abbrev pub RoomTold : Setting → Type 0
RoomTold σ = (sheet : List ℕ) → sheet_fault sheet ≡ 0 → ToldFromSheet σ sheet
