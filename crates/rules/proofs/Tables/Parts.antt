-- The bytes of a table as their pieces, one behind another. Reading them at the places of the layout gives the pieces back,
-- since each has the length that the layout says. Assumes nothing.
use mathlib.Core.Path.{◌≡◌, refl, sym, ap, ◌∙◌}
use mathlib.Core.List.{List, ◌∷◌, ◌++◌, append_assoc}
use Prim.Native.Nat.{ℕ, ◌+◌, ◌*◌, ◌≤◌, ◌<◌}
use native.Mathlib.Omega.{arith}
use lib.ListN.{length, take, drop, length-append, length-drop}
use lib.Seq.{take_at, take-append-le, drop-append-le, drop-append-add}
use Rattle.words.specs.Bytes.{bytes_of, part}
use Rattle.words.proofs.Numbers.{value_bytes_lem}
use Rattle.words.proofs.Splice.{part_of_drop}
use Rattle.records.specs.Outcome.{ok}
use Rattle.rules.specs.Settings.{Setting}
use Rattle.rules.specs.Columns.{Column, read_sheet, columns_of, list_in, published_in}
use Rattle.rules.specs.Table.{header_length, totals_place, ids_place}
use Rattle.rules.specs.Table.{returns_in, decided_in, entered_in, least_in, sheet_size, sheet_in, columns_in}

pub record Parts : Type 0 where
  pub stage : ℕ
  pub servers : ℕ
  pub own : ℕ
  pub returns : ℕ
  pub decided : ℕ
  pub entered : ℕ
  pub least : ℕ
  pub sheet : List ℕ
  pub totals : List ℕ
  pub ids : List ℕ
  pub rest : List ℕ

-- the bytes before the sheet
abbrev pub header : Setting → Parts → List ℕ
header σ g =
    σ.table_byte
    ∷ g.stage
    ∷ g.servers
    ∷ g.own
    ∷ (bytes_of 2 g.returns
    ++ (bytes_of 2 g.decided ++ (bytes_of 2 g.entered ++ (bytes_of 2 g.least ++ bytes_of 2 (length g.sheet)))))

abbrev pub body : Parts → List ℕ
body g = g.sheet ++ (g.totals ++ (g.ids ++ g.rest))

unfoldable pub assemble : Setting → Parts → List ℕ
assemble σ g = header σ g ++ body g

-- the parts have the lengths of the layout, and the counts fit their bytes
pub record SizedAs (σ : Setting) (cs : List Column) (sheet : List ℕ) (returns decided entered least : ℕ)
    (totals ids : List ℕ) : Type 0 where
  pub reads : read_sheet sheet ≡ ok cs
  pub totals_long : length totals ≡ σ.width * published_in cs
  pub ids_long : length ids ≡ 4 * returns
  pub returns_fit_lem : returns < 65536
  pub sheet_fits : length sheet < 65536
  pub decided_few : decided ≤ returns
  pub entered_few : entered ≤ decided
  pub least_few : least ≤ returns

abbrev pub Sized : Setting → List Column → Parts → Type 0
Sized σ cs g = SizedAs σ cs g.sheet g.returns g.decided g.entered g.least g.totals g.ids

-- a part within a list, by its place
pub part_within : (a x b : List ℕ) (i n : ℕ) → i + n ≤ length x → part (length a + i) n (a ++ (x ++ b)) ≡ part i n x
part_within a x b i n h =
    ap (take n) (drop-append-add a (x ++ b) i ∙ drop-append-le i x b (omega arith))
    ∙ take-append-le n (drop i x) b (rw length-drop (omega arith))

module _ (σ : Setting) (cs : List Column) (g : Parts) (z : Sized σ cs g) where
  abbrev T : List ℕ
  T = assemble σ g

  pub columns_are : columns_of g.sheet ≡ cs
  unfolding list_in
  columns_are = ap list_in z.reads

  pub size_is : sheet_size σ T ≡ length g.sheet
  unfolding assemble bytes_of
  size_is = value_bytes_lem 2 (length g.sheet) z.sheet_fits

  pub returns_are : returns_in σ T ≡ g.returns
  unfolding assemble bytes_of
  returns_are = value_bytes_lem 2 g.returns z.returns_fit_lem

  pub decided_are : decided_in σ T ≡ g.decided
  unfolding assemble bytes_of
  decided_are = value_bytes_lem 2 g.decided (omega (arith, z.decided_few, z.returns_fit_lem))

  pub entered_are : entered_in σ T ≡ g.entered
  unfolding assemble bytes_of
  entered_are = value_bytes_lem 2 g.entered (omega (arith, z.decided_few, z.returns_fit_lem, z.entered_few))

  pub least_is : least_in σ T ≡ g.least
  unfolding assemble bytes_of
  least_is = value_bytes_lem 2 g.least (omega (arith, z.least_few, z.returns_fit_lem))

  -- behind the header
  pub body_is : drop header_length T ≡ body g
  unfolding assemble bytes_of
  body_is = refl

  part_body : (i n : ℕ) → part (header_length + i) n T ≡ part i n (body g)
  part_body i n = sym (part_of_drop i n header_length T) ∙ ap (part i n) body_is

  pub sheet_is : sheet_in σ T ≡ g.sheet
  sheet_is = ap (λ (k : ℕ). part header_length k T) size_is ∙ part_body 0 (length g.sheet) ∙ take_at g.sheet _ _ refl

  pub columns_in_lem : columns_in σ T ≡ cs
  columns_in_lem = ap columns_of sheet_is ∙ columns_are

  -- a place of the layout, with what the header says put in
  pub placed : {X : Type 0} (f : ℕ → List Column → ℕ → X)
      → f (sheet_size σ T) (columns_in σ T) (returns_in σ T) ≡ f (length g.sheet) cs g.returns
  placed f = λ i. f (size_is i) (columns_in_lem i) (returns_are i)

  pub part_totals : (i n : ℕ) → i + n ≤ length g.totals
      → part (totals_place σ (length g.sheet) cs g.returns + i) n T ≡ part i n g.totals
  unfolding totals_place
  part_totals i n h =
      ap (λ (k : ℕ). part k n T) (let e : header_length + length g.sheet + i ≡ header_length + (length g.sheet + i) = omega arith in e)
      ∙ part_body (length g.sheet + i) n
      ∙ part_within g.sheet g.totals (g.ids ++ g.rest) i n h

  -- where the ids begin, behind the header
  pub ids_at_lem : length (g.sheet ++ g.totals) ≡ length g.sheet + σ.width * published_in cs
  ids_at_lem = length-append g.sheet g.totals ∙ ap (length g.sheet +◌) z.totals_long

  pub ids_body : body g ≡ (g.sheet ++ g.totals) ++ (g.ids ++ g.rest)
  ids_body = sym (append_assoc g.sheet g.totals (g.ids ++ g.rest))

  pub part_ids : (i n : ℕ) → i + n ≤ length g.ids
      → part (ids_place σ (length g.sheet) cs g.returns + i) n T ≡ part i n g.ids
  unfolding ids_place
  part_ids i n h =
      let e : header_length + length g.sheet + σ.width * published_in cs + i ≡ header_length + (length (g.sheet ++ g.totals) + i)
      = omega (arith, ids_at_lem) in
      ap (λ (k : ℕ). part k n T) e
      ∙ part_body (length (g.sheet ++ g.totals) + i) n
      ∙ ap (part (length (g.sheet ++ g.totals) + i) n) ids_body
      ∙ part_within (g.sheet ++ g.totals) g.ids g.rest i n h
