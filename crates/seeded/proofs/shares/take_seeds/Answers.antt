-- `seeded::shares::take_seeds` meets its contract: what is lent to `subtract` are just the sums. Assumes nothing.
use mathlib.Core.Path.{sym, ap, ◌∙◌}
use Prim.Native.Nat.{ℕ}
use lib.ListN.{length}
use lib.Seq.{length-take-le}
use Rattle.seeded.specs.Pieces.{seed_sums}
use Rattle.seeded.proofs.Sums.{first_zeros, length_sums, sums_elements}
use Rattle.seeded.proofs.shares.take_seeds.Goals as goal

pub slice_bounds-sum-end : goal.slice_bounds-sum-end
slice_bounds-sum-end c = sym (length-take-le _ _ c.requires.2)

pub sum_seeds-requires : goal.sum_seeds-requires
sum_seeds-requires c =
    rw (length-take-le _ _ c.requires.2) (c.requires.0, c.requires.2, first_zeros (length c.args.w.now) 774 c.requires.2)

-- the sums are as many as the elements of w
pub subtract-requires : goal.subtract-requires
subtract-requires c =
    let a = c.args in
    let given = c.sum_seeds.ensures ∙ ap (λ (n : ℕ). seed_sums a.seeds.now a.id n a.others) (length-take-le _ _ c.requires.2) in
    rw given (c.requires.1, sums_elements _ _ _ _, length_sums _ _ _ _)

pub returns : goal.returns
returns c =
    let a = c.args in
    let given = c.sum_seeds.ensures ∙ ap (λ (n : ℕ). seed_sums a.seeds.now a.id n a.others) (length-take-le _ _ c.requires.2) in
    rw (c.subtract.ensures, given)
