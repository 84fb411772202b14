-- `client::shares::take_shares` meets its contract. The loop's invariant: the first e elements are server 0's. Assumes nothing.
use mathlib.Core.Path.{ap, ◌∙◌}
use lib.ListN.{length}
use Rattle.field.proofs.Below.{member_below}
use Rattle.whole.proofs.Changing.{none_changed, unchanged, one_changed, all_changed}
use Rattle.client.specs.Pieces.{rest_of, first_share}
use Rattle.client.proofs.shares.take_shares.Goals as goal

pub loop-e-init : goal.loop-e-init
loop-e-init c = none_changed _ _

pub rest_of-requires : goal.rest_of-requires
rest_of-requires c =
    let l = c.loop-e in
    let there = unchanged _ l.invariant in
    (c.requires.0, c.loop-e-test.true, rw there (member_below c.args.w.now l.e c.requires.1))

pub loop-e-preserved : goal.loop-e-preserved
loop-e-preserved c =
    let a = c.args in
    let l = c.loop-e in
    let there = unchanged _ l.invariant in
    one_changed _ l.invariant _ c.loop-e-test.true (c.rest_of.ensures ∙ ap (rest_of a.random.now a.others (length a.w.now) l.e) there)

pub returns : goal.returns
unfolding first_share
returns c = all_changed _ c.loop-e.invariant c.loop-e-test.false
