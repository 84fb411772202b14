-- `snip::judging::judge` meets its contract: with the weights that it makes. Assumes nothing.
use mathlib.Core.Path.{◌≡◌, sym, ◌∙◌}
use Prim.Native.Nat.{ℕ, suc, ◌+◌, ◌<◌, ◌≤◌}
use native.Mathlib.Numerals.{add-one}
use native.Mathlib.Omega.{arith}
use lib.Seq.{length-take-le}
use Rattle.snip.proofs.Numbers.{weights_to}
use Rattle.snip.proofs.ShareRoom.{room}
use Rattle.snip.proofs.judging.judge.Goals as goal

-- one point more than multiplications, and than twice as many
few : {m : ℕ} → m ≤ 256 → m + 1 ≤ 257
few h = omega arith

more : {m : ℕ} → m ≤ 256 → m + (m + 1) ≤ 513
more h = omega arith

points : {a m : ℕ} → a ≡ m + 1 → m ≤ 256 → (0 < a) × (a ≤ 513)
points e h = (omega arith, omega arith)

twice_points : {a m : ℕ} → a ≡ m + (m + 1) → m ≤ 256 → (0 < a) × (a ≤ 513)
twice_points e h = (omega arith, omega arith)

pub overflow_add-points : goal.overflow_add-points
overflow_add-points c = omega (arith, (room c.requires).gates_few)

pub overflow_add-twice : goal.overflow_add-twice
overflow_add-twice c = omega (arith, (room c.requires).gates_few)

pub slice_bounds-first-end : goal.slice_bounds-first-end
slice_bounds-first-end c = few (room c.requires).gates_few

pub slice_bounds-single-end : goal.slice_bounds-single-end
slice_bounds-single-end c = sym (length-take-le _ _ (few (room c.requires).gates_few))

pub slice_bounds-second-end : goal.slice_bounds-second-end
slice_bounds-second-end c = more (room c.requires).gates_few

pub slice_bounds-double-end : goal.slice_bounds-double-end
slice_bounds-double-end c = sym (length-take-le _ _ (more (room c.requires).gates_few))

pub fill_two-requires : goal.fill_two-requires
fill_two-requires c =
    let g = (room c.requires).gates_few in
    record { first_nonzero = points (length-take-le _ _ (few g)) g; second_nonzero = twice_points (length-take-le _ _ (more g)) g }

pub judge_with-requires-clause-single_value : goal.judge_with-requires-clause-single_value
judge_with-requires-clause-single_value c =
    let g = (room c.requires).gates_few in
    c.fill_two.ensures.first_after ∙ weights_to (length-take-le _ _ (few g) ∙ add-one c.args.shape.gates)

pub judge_with-requires-clause-double_value : goal.judge_with-requires-clause-double_value
judge_with-requires-clause-double_value c =
    let g = (room c.requires).gates_few in
    let m = c.args.shape.gates in
    let e : m + (m + 1) ≡ suc (m + m) = omega arith in
    c.fill_two.ensures.second_after ∙ weights_to (length-take-le _ _ (more g) ∙ e)
