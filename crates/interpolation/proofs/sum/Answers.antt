-- `interpolation::sum`: a turn adds two terms, and one that is left over comes last.
use Rattle.std.proofs.Common.{◌≡◌, arith, suc, sym, ap, ap₂, ◌∙◌, subst, length}
use Rattle.std.proofs.Math.Dec.{lit<}
use Rattle.interpolation.specs.Fractions.{Element, plus_of, sum_of}
use Rattle.interpolation.proofs.Adding.{sum_element, none, one_more_lem, two_more}
use Rattle.interpolation.proofs.sum.Goals as goal

pub loop-i-init : goal.loop-i-init
loop-i-init c =
    let a = c.args in
    record {
      within = omega arith;
      element = record { over_below = lit< tt; under_below = lit< tt };
      is = none a.y.now a.weights.now a.s a.r;
    }

pub loop-i-preserved : goal.loop-i-preserved
loop-i-preserved c =
    let l = c.loop-i in
    let v = c.args in
    let a = c.term-a.ensures in
    let b = c.term-b.ensures in
    record {
      within = omega arith;
      element = sum_element _ _ c.plus-done.ensures;
      is =
          c.plus-done.ensures
          ∙ ap₂ plus_of l.invariant.is (c.plus.ensures ∙ ap₂ plus_of a.0 b.0)
          ∙ two_more v.y.now v.weights.now v.s v.r l.i (omega (arith, c.requires.4)) (rw (sym l.invariant.is) l.invariant.element)
          (subst Element a.0 a.1)
          (subst Element b.0 b.1);
    }

pub returns-then-i-n : goal.returns-then-i-n
returns-then-i-n c =
    let l = c.loop-i in
    let v = c.args in
    let last : suc l.i ≡ length v.y.now = omega arith in (
      c.plus-then-i-n.ensures
          ∙ ap₂ plus_of l.invariant.is c.term.ensures.0
          ∙ one_more_lem v.y.now v.weights.now v.s v.r l.i (omega (arith, c.requires.4))
          ∙ ap (sum_of v.y.now v.weights.now v.s v.r) last,
      sum_element _ _ c.plus-then-i-n.ensures,
    )
