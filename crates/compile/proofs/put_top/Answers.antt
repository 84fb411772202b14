-- `compile::put_top` meets its contract: the entry, the bit checks, the entry times p - 1, the first sum, the second.
-- Assumes nothing.
use mathlib.Core.Path.{refl}
use native.Mathlib.Omega.{arith}
use borrow.Author.Rules.{rules}
use Rattle.rules.specs.Circuit.{step_bytes}
use Rattle.compile.proofs.Puts.{put_on, put_as}
use Rattle.compile.proofs.Columns.{top_is, top_size}
use Rattle.compile.proofs.put_top.Goals as goal

pub put_one-bits-requires : goal.put_one-bits-requires
put_one-bits-requires c =
    let z = top_size c.args.n c.args.b c.requires.2 in
    search rules

pub bit_checks-minus-requires : goal.bit_checks-minus-requires
bit_checks-minus-requires c =
    let z = top_size c.args.n c.args.b c.requires.2 in
    search rules

pub put_scale-sum-requires : goal.put_scale-sum-requires
put_scale-sum-requires c =
    let z = top_size c.args.n c.args.b c.requires.2 in
    search rules

pub bit_sum-rest-requires : goal.bit_sum-rest-requires
bit_sum-rest-requires c =
    let z = top_size c.args.n c.args.b c.requires.2 in
    search rules

pub put_rest-requires : goal.put_rest-requires
put_rest-requires c =
    let z = top_size c.args.n c.args.b c.requires.2 in
    search rules

pub returns : goal.returns
unfolding step_bytes
returns c =
    let x = c.args in
    put_as
    (put_on
    (put_on (put_on (put_on c.put_one-bits.ensures c.bit_checks-minus.ensures) c.put_scale-sum.ensures) c.bit_sum-rest.ensures)
    c.put_rest.ensures)
    _ _ _ (omega (arith, top_size x.n x.b c.requires.2))
    (top_is x.n x.e x.w x.b _ _ c.requires.2 refl refl) refl
