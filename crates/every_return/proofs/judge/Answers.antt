-- `every_return::judge` meets its contract: each answer is that of the first check that fails (`Answers`). Assumes nothing.
use mathlib.Core.Path.{◌≡◌, sym, ap, ap₂, ◌∙◌}
use mathlib.Core.List.{List}
use lib.ListN.{length}
use Prim.Native.Nat.{ℕ, ◌*◌}
use native.Mathlib.Omega.{arith}
use Rattle.records.specs.Outcome.{Outcome, ok}
use Rattle.records.proofs.Refusals.{outcome_passed}
use Rattle.rules.specs.Columns.{read_sheet, columns_of}
use Rattle.rules.specs.EveryReturn.{lists_in, every_return_length}
use Rattle.rules.proofs.Circuits.Limits.{limits}
use Rattle.columns.specs.declared.Counts.{Counts}
use Rattle.sheet.specs.Reading.{reading_of}
use Rattle.sheet.proofs.Answers.{reading_refused, reading_counts}
use Rattle.every_return.specs.declared.Lists.{Lists}
use Rattle.every_return.proofs.Products.{count_is, count_large}
use Rattle.every_return.proofs.Answers.{refused_sheet, refused_many, refused_room, not_refused, bytes_few}
use Rattle.every_return.proofs.Answers.{answer_refused, answer_done}
use Rattle.every_return.proofs.judge.Goals as goal

-- an answer by its numbers
same_lists : {a a' b b' w w' : ℕ} → a ≡ a' → b ≡ b' → w ≡ w'
    → ◌≡◌ {A = Outcome Lists} (ok (record { columns = a; lists = b; written = w })) (ok (record { columns = a'; lists = b'; written = w' }))
same_lists p q r = rw (p, q, r)

-- what the reader tells of the columns
told : (s : List ℕ) (k : Counts) → ok k ≡ reading_of s → (read_sheet s ≡ ok (columns_of s)) × (k.columns ≡ length (columns_of s))
told s k e = let t = reading_counts s k (sym e) in (t.0, ap (λ (x : Counts). x.columns) t.1)

-- and the length of the lists
bytes_are : (s : List ℕ) (columns lists : ℕ) → columns ≡ length (columns_of s) → lists ≡ lists_in (columns_of s)
    → 4 * columns * lists ≡ every_return_length s
unfolding every_return_length
bytes_are s columns lists e f = ap₂ (λ (a b : ℕ). 4 * a * b) e f

pub returns-in_err-columns : goal.returns-in_err-columns
returns-in_err-columns c =
    let t = reading_refused _ _ (sym c.in_err-columns.ensures) in
    outcome_passed _ _ c.from_residual.ensures.1 ∙ sym (answer_refused _ _ _ (refused_sheet _ _ _ t.0 t.1) t.1)

pub count_lists-requires : goal.count_lists-requires
count_lists-requires c = (told c.args.s.now _ c.in_ok-columns.ensures).0

pub returns-in_err-lists : goal.returns-in_err-lists
returns-in_err-lists c =
    let l = count_large _ _ c.in_err-lists.ensures in
    outcome_passed _ _ c.from_residual-in_err-lists.ensures.1
    ∙ sym (answer_refused _ _ _ (refused_many _ _ (told c.args.s.now _ c.in_ok-columns.ensures).0 l.1 ∙ sym l.0) (λ z. omega (arith, l.0)))

pub overflow_mul-written : goal.overflow_mul-written
overflow_mul-written c =
    let t = told c.args.s.now _ c.in_ok-columns.ensures in
    let m = limits _ _ t.0 in
    omega (arith, t.1, m.columns_most, m.entries_most)

pub overflow_mul-written-2 : goal.overflow_mul-written-2
overflow_mul-written-2 c =
    let t = told c.args.s.now _ c.in_ok-columns.ensures in
    let l = count_is _ _ c.in_ok-lists.ensures in
    let few = bytes_few _ t.0 c.in_ok-lists.lists (omega arith) in
    omega (arith, ap (λ (n : ℕ). 4 * n * c.in_ok-lists.lists) t.1, few)

pub returns-then-room-written : goal.returns-then-room-written
returns-then-room-written c =
    let t = told c.args.s.now _ c.in_ok-columns.ensures in
    let l = count_is _ _ c.in_ok-lists.ensures in
    let b = bytes_are c.args.s.now _ _ t.1 l.0 in
    sym (answer_refused _ _ 14 (refused_room _ _ t.0 l.1 (rw b at c.if-room-written.true)) (λ z. omega arith))

pub returns : goal.returns
returns c =
    let t = told c.args.s.now _ c.in_ok-columns.ensures in
    let l = count_is _ _ c.in_ok-lists.ensures in
    let b = bytes_are c.args.s.now _ _ t.1 l.0 in
    same_lists t.1 l.0 b ∙ sym (answer_done _ _ (not_refused _ _ t.0 l.1 (rw b at c.if-room-written.false)))
