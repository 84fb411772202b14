-- `joining::write_totals` meets its contract. The loop's invariant: the first k totals are put there (`fill_turn`).
-- Assumes nothing.
use mathlib.Core.Path.{◌≡◌, refl}
use native.Mathlib.Omega.{arith}
use borrow.Author.Rules.{rules}
use Rattle.totals_message.specs.Totals.{total_at}
use Rattle.joining.specs.Calls.{totals_of}
use Rattle.joining.proofs.Filling.{fill_start, fill_turn}
use Rattle.joining.proofs.write_totals.Goals as goal

pub loop-k-init : goal.loop-k-init
loop-k-init c =
    let a = c.args in
    (fill_start (total_at a.servers a.published a.joined.now) a.out.now, refl)

pub totals_sum-total-requires : goal.totals_sum-total-requires
totals_sum-total-requires c = c.requires.summable c.loop-k.k c.loop-k-test.true

pub loop-k-preserved : goal.loop-k-preserved
loop-k-preserved c =
    let f = total_at c.args.servers c.args.published c.args.joined.now in
    (cc (fill_turn f c.args.out.now c.args.published c.loop-k.k c.requires.room c.loop-k-test.true), search rules)

pub returns : goal.returns
unfolding totals_of
returns c =
    let e : c.loop-k.k ≡ c.args.published = omega arith in
    cc
