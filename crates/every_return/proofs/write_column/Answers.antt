-- `every_return::write_column` meets its contract. The loop's invariant: the first k values of the column are put
-- (`column_put`), and the count says the next one (`Counted`). Assumes nothing.
use mathlib.Core.Path.{◌≡◌, refl, sym, ap, ap₂, ◌∙◌}
use mathlib.Core.List.{List}
use Prim.Native.Nat.{ℕ, ◌+◌, ◌*◌, ◌/◌, ◌%◌, ◌≤◌}
use native.Mathlib.Nat.{mul-le-mul_left}
use native.Mathlib.Numerals.{add-one}
use native.Mathlib.Omega.{arith}
use lib.ListN.{length}
use Rattle.words.specs.Bytes.{bytes_of, splice}
use Rattle.every_return.specs.Listing.{column_put}
use Rattle.every_return.proofs.Counting.{count_start, count_next, count_value}
use Rattle.every_return.proofs.write_column.Goals as goal
use Rattle.every_return.proofs.write_column.Goals.{In-loop-k}

pub loop-k-init : goal.loop-k-init
unfolding column_put
loop-k-init c = (refl, count_start _ _ c.requires.2 c.requires.3)

within : (c : In-loop-k) → c.args.size * c.loop-k.k + c.args.place + 4 ≤ length c.args.out.now
within c =
    omega (arith, c.requires.0, c.requires.1, mul-le-mul_left {m = c.loop-k.k + 1} {n = c.args.lists} c.args.size (omega arith))

pub overflow_mul-size : goal.overflow_mul-size
overflow_mul-size c = omega (arith, within (goal.at.overflow_mul-size c).In-loop-k, c.well_formed)

pub overflow_add-size : goal.overflow_add-size
overflow_add-size c = omega (arith, within (goal.at.overflow_add-size c).In-loop-k, c.well_formed)

pub write_u32-requires : goal.write_u32-requires
write_u32-requires c = omega (arith, within (goal.at.write_u32-requires c).In-loop-k)

pub next_count-count-requires : goal.next_count-count-requires
next_count-count-requires c = c.loop-k.invariant.1.value_low

pub loop-k-preserved : goal.loop-k-preserved
unfolding column_put
loop-k-preserved c =
    let a = c.args in
    let k = c.loop-k.k in
    let digit : ℕ → ℕ = λ n. n / a.behind % a.values in
    let counted = c.loop-k.invariant.1 in
    let next = count_next _ _ k _ counted in
    let put = c.write_u32.ensures
    ∙ ap₂ (λ (x : List ℕ) (v : ℕ). splice x (a.size * k + a.place) (bytes_of 4 v)) c.loop-k.invariant.0 (count_value _ _ k _ counted)
    ∙ ap (column_put digit a.size a.place a.out.now) (sym (add-one k)) in
    (put, rw c.next_count-count.ensures next)

pub returns : goal.returns
returns c =
    let a = c.args in
    let same : c.loop-k.k ≡ a.lists = omega arith in
    c.loop-k.invariant.0 ∙ ap (column_put (λ n. n / a.behind % a.values) a.size a.place a.out.now) same
