-- `rounds::named::numbers_at` meets its contract: the place lies within the run (`run_fits`), and what is cut out is that part of
-- it (`span`). Assumes nothing.
use Prim.Native.Nat.{◌*◌}
use native.Mathlib.Omega.{arith}
use Rattle.steps.proofs.Parts.{span}
use Rattle.layout.specs.Places.{place_size_of}
use Rattle.rounds.proofs.Holding.{run_fits}
use Rattle.rounds.proofs.named.numbers_at.Goals as goal

pub overflow_mul-start : goal.overflow_mul-start
overflow_mul-start c =
    let f = run_fits c.args.numbers.now c.args.k c.args.at c.requires _ c.place_size-size.ensures in
    omega (arith, f)

pub overflow_add-end : goal.overflow_add-end
overflow_add-end c =
    let f = run_fits c.args.numbers.now c.args.k c.args.at c.requires _ c.place_size-size.ensures in
    omega (arith, f)

pub offset_bounds-numbers-start : goal.offset_bounds-numbers-start
offset_bounds-numbers-start c =
    let f = run_fits c.args.numbers.now c.args.k c.args.at c.requires _ c.place_size-size.ensures in
    omega (arith, f)

pub slice_bounds-result-end : goal.slice_bounds-result-end
slice_bounds-result-end c =
    let f = run_fits c.args.numbers.now c.args.k c.args.at c.requires _ c.place_size-size.ensures in
    omega (arith, f)

pub returns : goal.returns
returns c =
    let z = place_size_of c.args.k.entries c.args.k.gates in
    rw c.place_size-size.ensures (span (z * c.args.at) z c.args.numbers.now)
