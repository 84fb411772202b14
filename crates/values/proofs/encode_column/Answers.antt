-- `values::encode_column` meets its contract: each kind's entries are a table, which fills the buffer. Assumes nothing.
use mathlib.Core.Path.{◌≡◌, refl, sym, ap, ◌∙◌}
use mathlib.Core.List.{List, [], ◌∷◌}
use Prim.Native.Nat.{ℕ, ◌-◌}
use native.Mathlib.Omega.{arith}
use lib.ListN.{length, set}
use Rattle.algebra.specs.Lists.{tabulate}
use Rattle.rules.specs.Columns.{yes_no, choice, entries_of}
use Rattle.rules.specs.Values.{encoded}
use Rattle.values.proofs.Encodings.{number_entries}
use Rattle.values.proofs.Parts.{bits}
use Rattle.values.proofs.encode_column.Goals as goal

yes_no_entry : (d : List ℕ) (v : ℕ) → length d ≡ 1 → set d 0 v ≡ tabulate (encoded yes_no v) 1
unfolding encoded tabulate
yes_no_entry [] v h = absurd (omega arith)
yes_no_entry (x ∷ []) v h = refl
yes_no_entry (x ∷ (y ∷ d)) v h = absurd (omega arith)

pub bounds-out-0 : goal.bounds-out-0
unfolding entries_of
bounds-out-0 c = let one = (rw c.in-YesNo.is at c.requires).0 in omega arith

pub write_number-requires : goal.write_number-requires
unfolding entries_of
write_number-requires c = let some = (rw c.in-Number.is at c.requires).0 in omega arith

pub returns-in-YesNo : goal.returns-in-YesNo
unfolding entries_of
returns-in-YesNo c = rw c.in-YesNo.is (yes_no_entry c.args.out.now c.args.v (rw c.in-YesNo.is at c.requires).0)

pub returns-in-Choice : goal.returns-in-Choice
unfolding entries_of
returns-in-Choice c =
    rw c.in-Choice.is
    (c.write_choice.ensures ∙ ap (λ (k : ℕ). tabulate (encoded (choice k) c.args.v) k) (rw c.in-Choice.is at c.requires).0)

pub returns-in-Number : goal.returns-in-Number
unfolding entries_of
returns-in-Number c =
    let n = c.in-Number.field-0 in
    let size = (rw c.in-Number.is at c.requires).0 in
    let behind : length c.args.out.now - 1 ≡ n = omega arith in
    rw c.in-Number.is (c.write_number.ensures ∙ ap (λ (k : ℕ). c.args.v ∷ bits c.args.v k) behind ∙ sym (number_entries n c.args.v))
