-- `snip::judging::tau_of` meets its contract: an inner product of powers and tests. Assumes nothing.
use mathlib.Core.Path.{sym, ap, ◌∙◌}
use native.Mathlib.Omega.{arith}
use lib.ListN.{length}
use lib.Seq.{length-take-le}
use Rattle.algebra.specs.Lists.{tabulate}
use Rattle.algebra.specs.Sums.{power}
use Rattle.field.specs.Residues.{residues}
use Rattle.snip.proofs.Folding.{inner_folded}
use Rattle.snip.proofs.judging.tau_of.Goals as goal

pub slice_bounds-values-end : goal.slice_bounds-values-end
slice_bounds-values-end c = sym (length-take-le _ _ c.requires.tests_value.1)

pub slice_bounds-powers-end : goal.slice_bounds-powers-end
slice_bounds-powers-end c = sym (length-take-le _ _ c.requires.tests_value.1)

pub fill_tests-requires : goal.fill_tests-requires
fill_tests-requires c =
    let t = c.requires.tests_value in
    record { entries = c.requires.entries; out_len = (length-take-le _ _ t.1 ∙ t.0, t.2) }

pub inner-requires : goal.inner-requires
inner-requires c =
    let n = length-take-le _ _ c.requires.tests_value.1 in
    let v = c.fill_tests.auto.out ∙ n in
    let p = c.powers.auto.out ∙ length-take-le _ _ c.requires.tests_value.1 in
    (p ∙ sym v, omega (arith, p, c.requires.tests_value.1))

pub returns : goal.returns
returns c =
    let t = c.fill_tests in
    let q = c.powers in
    let v = t.auto.out ∙ length-take-le _ _ c.requires.tests_value.1 in
    let p = q.auto.out ∙ length-take-le _ _ c.requires.tests_value.1 in
    c.inner.ensures
    ∙ inner_folded q.new.out _ t.new.out c.args.s
    (q.ensures ∙ ap (tabulate (power residues c.args.s)) (sym q.auto.out))
    t.ensures (p ∙ sym (ap length (sym t.ensures) ∙ v))
