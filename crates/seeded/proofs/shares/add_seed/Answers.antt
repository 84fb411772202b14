-- `seeded::shares::add_seed` meets its contract: what is lent to `add` are just the elements of the seed. Assumes nothing.
use mathlib.Core.Path.{sym, ap, ◌∙◌}
use native.Mathlib.Omega.{arith}
use lib.Seq.{length-take-le}
use Rattle.rules.specs.Settings.{document01}
use Rattle.rules.specs.Seeds.{seed_elements}
use Rattle.seeded.proofs.Sums.{length_given, given_elements}
use Rattle.seeded.proofs.shares.add_seed.Goals as goal

pub slice_bounds-x-end : goal.slice_bounds-x-end
slice_bounds-x-end c = sym (length-take-le _ _ c.requires.2)

pub fill_elements-requires : goal.fill_elements-requires
fill_elements-requires c =
    (c.requires.0, rw (length-take-le _ _ c.requires.2) (omega (arith, c.requires.2)))

-- the elements are as many as the sums
pub add-requires : goal.add-requires
add-requires c =
    let given = c.fill_elements.ensures ∙ ap (seed_elements document01 c.args.seed.now c.args.id) (length-take-le _ _ c.requires.2) in
    rw given (c.requires.1, given_elements _ _ _, length_given _ _ _)

pub returns : goal.returns
returns c =
    let given = c.fill_elements.ensures ∙ ap (seed_elements document01 c.args.seed.now c.args.id) (length-take-le _ _ c.requires.2) in
    rw (c.add.ensures, given)
