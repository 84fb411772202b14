-- Opening: the refusals in their order, each where those before it do not hold, and the room that the table takes where none
-- does. What the answer tells is what the writing asks for, and a refusal leaves what is lent.
-- Assumes nothing.
use mathlib.Core.Path.{◌≡◌, refl, sym, ◌∙◌}
use mathlib.Core.Bool.{Bool, true, false, ◌&&◌}
use mathlib.Core.List.{List}
use Prim.Native.Nat.{ℕ, zero, suc, ◌+◌, ◌*◌, ◌≤◌, ◌<◌}
use native.Mathlib.Omega.{arith}
use borrow.Author.Tests.{lt-ltb, le-ltb, ne_eqb, leb-true, ltb-true}
use lib.Dec.{leb, eqb}
use lib.ListN.{length, replicate}
use Rattle.std.specs.Prelude.{Result, Ok}
use Rattle.algebra.proofs.Members.{and_left, and_right}
use Rattle.words.specs.Bytes.{splice}
use Rattle.records.specs.Outcome.{Outcome, ok, refused, or_else}
use Rattle.records.specs.Refusals.{outcome_of}
use Rattle.records.specs.Answers.{answered, only_if}
use Rattle.records.specs.declared.Refusal.{Refusal}
use Rattle.records.proofs.Outcome.{or_none, or_first, or_zero}
use Rattle.rules.specs.Settings.{document01}
use Rattle.rules.specs.Columns.{within, check, servers_fault, sheet_fault, columns_of, returns_fit, returns_fault, least_fits, least_fault, totals_fault}
use Rattle.rules.specs.Judging.{share_size}
use Rattle.rules.specs.Server.{open_fault}
use Rattle.rules.specs.WaitingList.{run_size}
use Rattle.rules.specs.Table.{table_length, open_room, open_refusal, open_length}
use Rattle.rules.proofs.Circuits.Limits.{within_both}
use Rattle.rules.proofs.Circuits.Refusals.{sheet_fault_lem, sheet_limits_lem}
use Rattle.rules.proofs.Histories.Checks.{check_passed}
use Rattle.rules.proofs.Histories.Opening.{Opening, opening}
use Rattle.columns.specs.Counting.{counts_of}
use Rattle.columns.specs.declared.Counts.{Counts}
use Rattle.sheet.specs.Reading.{reading_of}
use Rattle.sheet.proofs.Answers.{reading_counts}
use Rattle.limits.specs.Sheets.{size_of}
use Rattle.layout.specs.Places.{length_at}
use Rattle.opening.specs.Calls.{refusal_of, Opens}
use Rattle.opening.specs.Fresh.{size_for, room_by, room_for, fresh_bytes, Roomy}
use Rattle.opening.specs.declared.Size.{Size}
use Rattle.opening.proofs.FreshTable.{open_bytes_lem}

-- ---- what the counts of a sheet that is read keep to
pub record Counted (s : List ℕ) (k : Counts) : Type 0 where
  pub no_fault_lem : sheet_fault s ≡ 0
  pub says : k ≡ counts_of (columns_of s)
  pub sheet_most : length s ≤ 426
  pub entries_most : k.entries ≤ 256
  pub published_most : k.published ≤ 256
  pub gates_most : k.gates ≤ 256

pub counted : (s : List ℕ) (k : Counts) → reading_of s ≡ ok k → Counted s k
counted s k e =
    let r = reading_counts s k e in
    let f = sheet_fault_lem s (columns_of s) r.0 in
    let l = sheet_limits_lem s f.0 in
    rw r.1
    (record {
      no_fault_lem = f.0;
      says = refl;
      sheet_most = omega (arith, l.bytes_most, l.entries_most);
      entries_most = l.entries_most;
      published_most = omega (arith, l.published_most, l.entries_most);
      gates_most = omega (arith, l.gates_most, l.entries_most);
    })

-- the room as the code works it out
pub size_is : (s : List ℕ) (k : Counts) (returns : ℕ) → Counted s k → (bytes place : ℕ)
    → bytes ≡ length_at (length s) k.published returns → place ≡ size_of k.entries k.gates + 2
    → ◌≡◌ {A = Size} (record { bytes = bytes; numbers = place * 8 }) (size_for s returns)
unfolding open_length table_length share_size
size_is s k returns c bytes place eb ep = rw (eb, ep, c.says) refl

-- ---- the check of N
module _ (s : List ℕ) (returns : ℕ) where
  abbrev pub returns_or_totals : ℕ
  returns_or_totals = or_else (returns_fault returns) (totals_fault document01 returns (columns_of s))

  pub returns_most : 0 ≡ returns_or_totals → returns ≤ 1024
  returns_most fits =
      let z = or_zero (returns_fault returns) (totals_fault document01 returns (columns_of s)) (sym fits) in
      (within_both 1 1024 returns (check_passed (within 1 1024 returns) 1 z.0)).1

-- ---- the refusals in their order
module _ (servers own : ℕ) (s : List ℕ) (returns least bytes records numbers : ℕ) where
  abbrev refusal : ℕ
  refusal = open_refusal document01 servers own s returns least bytes records numbers

  abbrev pub open_answer : Outcome Size
  open_answer = room_by refusal (size_for s returns)

  refused_by_lem : (n : ℕ) → refusal ≡ n → (n ≡ 0 → ⊥) → refused n ≡ open_answer
  unfolding room_by
  refused_by_lem n e z = rw (e, ne_eqb n 0 z)

  pub servers_refused : (n : ℕ) → n ≡ servers_fault servers → (n ≡ 0 → ⊥) → refused n ≡ open_answer
  unfolding open_refusal open_fault
  servers_refused n e z = refused_by_lem n (rw (← e, or_first n _ z) (or_first n _ z)) z

  module _ (fit : 0 ≡ servers_fault servers) where
    pub own_outside : servers ≤ own → refused 2 ≡ open_answer
    unfolding open_refusal open_fault or_else
    own_outside h = refused_by_lem 2 (rw (← fit, le-ltb own servers h)) (λ z. omega arith)

  module _ (fit : 0 ≡ servers_fault servers) (one : own < servers) where
    placed : refusal
        ≡ or_else
        (or_else (sheet_fault s)
        (or_else (returns_fault returns) (or_else (least_fault returns least) (totals_fault document01 returns (columns_of s)))))
        (check (open_room document01 s returns bytes records numbers) 14)
    unfolding open_refusal open_fault or_else
    placed = rw (← fit, lt-ltb own servers one)

    pub sheet_refused : (n : ℕ) → sheet_fault s ≡ n → (n ≡ 0 → ⊥) → refused n ≡ open_answer
    sheet_refused n e z = refused_by_lem n (rw (placed, e, or_first n _ z) (or_first n _ z)) z

    -- of a sheet that is read: Q out of its range is refused 2, as an N out of its limits is
    pub least_refused : sheet_fault s ≡ 0 → least_fits returns least ≡ false → refused 2 ≡ open_answer
    unfolding or_else
    least_refused read f = refused_by_lem 2 (rw (placed, read, f) (go (returns_fit returns))) (λ z. omega arith)
      where
        go : (b : Bool)
            → or_else (or_else (check b 2) 2) (check (open_room document01 s returns bytes records numbers) 14) ≡ 2
        go true = refl
        go false = refl

    -- where Q is within it; x is what the check of N says
    module _ (read : sheet_fault s ≡ 0) (within-range : least_fits returns least ≡ true) (x : ℕ) (e : x ≡ returns_or_totals s returns) where
      checked : refusal ≡ or_else x (check (open_room document01 s returns bytes records numbers) 14)
      unfolding or_else
      checked = rw (placed, read, within-range, e) refl

      pub returns_refused : (x ≡ 0 → ⊥) → refused x ≡ open_answer
      returns_refused z = refused_by_lem x (checked ∙ or_first x _ z) z

      module _ (fits : x ≡ 0) where
        room_decides : refusal ≡ check (room_for (size_for s returns) bytes records numbers) 14
        unfolding room_for open_room
        room_decides = checked ∙ rw fits (or_none _)

        pub room_short : room_for (size_for s returns) bytes records numbers ≡ false → refused 14 ≡ open_answer
        room_short f = refused_by_lem 14 (room_decides ∙ rw f) (λ z. omega arith)

        pub room_enough : room_for (size_for s returns) bytes records numbers ≡ true → ok (size_for s returns) ≡ open_answer
        unfolding room_by
        room_enough f = rw (room_decides, f)

-- ---- what an answer tells
room_for_lem : (r : ℕ) (n m : Size) → room_by r n ≡ ok m → (r ≡ 0) × (m ≡ n)
unfolding room_by
room_for_lem zero n m e = (refl, cc)
room_for_lem (suc r) n m e =
    let f = rw (ne_eqb (suc r) 0 (λ z. omega arith)) at e in
    let z : ◌≡◌ {A = ℕ} 0 1 = cc in
    absurd (omega arith)

room_refused : (r : ℕ) (n : Size) (m : ℕ) → room_by r n ≡ refused m → (r ≡ m) × (m ≡ 0 → ⊥)
unfolding room_by
room_refused zero n m e = let z : ◌≡◌ {A = ℕ} 0 1 = cc in absurd (omega arith)
room_refused (suc r) n m e =
    let f = rw (ne_eqb (suc r) 0 (λ z. omega arith)) at e in
    let q : suc r ≡ m = cc in
    (q, λ z. omega arith)

-- ---- the call
module _ (servers own : ℕ) (s : List ℕ) (returns least : ℕ) (T : List ℕ) (records : ℕ) (E : List ℕ) where
  abbrev refusing : ℕ
  refusing = refusal_of servers own s returns least T records E

  pub open_refused : (m : ℕ) → refused m ≡ open_answer servers own s returns least (length T) records (length E)
      → (r : Result ℕ Refusal) → outcome_of r ≡ refused m → Opens servers own s returns least T records E r T E
  unfolding answered only_if
  open_refused m e r o =
      let q = room_refused refusing _ m (sym e) in
      let f = ne_eqb m 0 q.1 in
      record { answer_is = o ∙ rw (q.0, f) refl; table_is = rw (q.0, f); numbers_are = rw (q.0, f) }

  -- where the check measures the room m
  module _ (m : Size) (e : ok m ≡ open_answer servers own s returns least (length T) records (length E)) where
    none_refused : (refusing ≡ 0) × (m ≡ size_for s returns)
    none_refused = room_for_lem refusing _ m (sym e)

    known_open : Opening document01 servers own s returns least (length T) records (length E)
    known_open = opening document01 servers own s returns least (length T) records (length E) none_refused.0

    pub open_done : Opens servers own s returns least T records E (Ok m.bytes)
        (splice T 0 (fresh_bytes servers own s returns least m.bytes)) (splice E 0 (replicate m.numbers 0))
    unfolding answered only_if
    open_done =
        let d = none_refused in
        rw d.1
        (record {
          answer_is = rw d.0 refl;
          table_is = rw (d.0, open_bytes_lem servers own s returns least);
          numbers_are = rw d.0;
        })

    pub servers_fit_lem : (servers ≤ 8) × (own < servers)
    servers_fit_lem = (
      (within_both 2 8 servers known_open.servers_fit_lem).1,
      ltb-true own servers known_open.own_fits,
    )

    -- the parts that are lent have room
    enough : (open_length document01 s returns ≤ length T) × (run_size (columns_of s) ≤ length E)
    unfolding open_room
    enough =
        let bytes = leb (open_length document01 s returns) (length T) in
        let eight = eqb records 8 in
        let numbers = leb (run_size (columns_of s)) (length E) in
        let rest = and_right bytes (eight && numbers) known_open.enough in
        (leb-true _ _ (and_left bytes (eight && numbers) known_open.enough), leb-true _ _ (and_right eight numbers rest))

    pub open_roomy : Roomy s m.bytes T
    unfolding open_length table_length
    open_roomy =
        let l = sheet_limits_lem s known_open.no_fault_lem in
        rw none_refused.1
        (record {
          sheet_most = omega (arith, l.bytes_most, l.entries_most);
          sheet_fits = omega arith;
          within = enough.0;
        })

    pub numbers_fit : 0 + m.numbers ≤ length E
    numbers_fit = let h = enough.1 in rw none_refused.1 (omega arith)
