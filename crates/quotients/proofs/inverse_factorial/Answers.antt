-- `quotients::inverse_factorial`: four inverses more, and one more.
use Rattle.std.proofs.Common.{arith, refl, ap, ap₂, ◌∙◌, ◌≡◌, ◌+◌, ◌*◌, ◌/◌, suc}
use Rattle.std.proofs.Math.Dec.{lit<}
use Rattle.std.proofs.Math.Nat.{mod-lt}
use Rattle.quotients.specs.Factorials.{inverse_factorial}
use Rattle.quotients.proofs.Products.{times, over_none, over_low, over_next, over_four}
use Rattle.quotients.proofs.Fours.{four_is, four_low, rest_is, rest_low}
use Rattle.quotients.proofs.inverse_factorial.Goals as goal

pub loop-a-init : goal.loop-a-init
loop-a-init c = over_none

pub mul-requires : goal.mul-requires
mul-requires c =
    let a = c.args in
    let cut = c.as_chunks.ensures in
    let low = four_low a.inverses.now c.requires.0 a.n c.requires.1 cut.front cut.front_len c.loop-a.a-index in
    (low 0 (omega arith) (omega arith), low 1 (omega arith) (omega arith))

pub mul-requires-in-loop-a : goal.mul-requires-in-loop-a
mul-requires-in-loop-a c =
    let a = c.args in
    let cut = c.as_chunks.ensures in
    let low = four_low a.inverses.now c.requires.0 a.n c.requires.1 cut.front cut.front_len c.loop-a.a-index in
    (low 2 (omega arith) (omega arith), low 3 (omega arith) (omega arith))

pub mul-acc-requires : goal.mul-acc-requires
mul-acc-requires c =
    let l = c.loop-a in
    (over_low (l.a-index * 4) l.invariant, rw c.mul-in-loop-a-2.ensures (mod-lt _ (lit< tt)))

pub loop-a-preserved : goal.loop-a-preserved
loop-a-preserved c =
    let a = c.args in
    let l = c.loop-a in
    let cut = c.as_chunks.ensures in
    let is = four_is a.inverses.now c.requires.0 a.n c.requires.1 cut.front cut.front_len l.a-index in
    let at = l.a-index * 4 in
    let further : at + 4 ≡ (l.a-index + 1) * 4 = omega arith in
    c.mul-acc.ensures
    ∙ ap₂ times l.invariant
    (c.mul-in-loop-a-2.ensures
    ∙ ap₂ times
    (c.mul.ensures ∙ ap₂ times (is 0 (omega arith) (omega arith)) (is 1 (omega arith) (omega arith)))
    (c.mul-in-loop-a.ensures ∙ ap₂ times (is 2 (omega arith) (omega arith)) (is 3 (omega arith) (omega arith))))
    ∙ over_four at
    ∙ ap inverse_factorial further

pub mul-acc-requires-in-loop-inverse : goal.mul-acc-requires-in-loop-inverse
mul-acc-requires-in-loop-inverse c =
    let a = c.args in
    let l = c.loop-inverse in
    let cut = c.as_chunks.ensures in (
      over_low (a.n / 4 * 4 + l.inverse-index) l.invariant,
      rest_low a.inverses.now c.requires.0 a.n c.requires.1 cut.back cut.back_len l.inverse-index (omega arith),
    )

pub loop-inverse-preserved : goal.loop-inverse-preserved
loop-inverse-preserved c =
    let a = c.args in
    let l = c.loop-inverse in
    let cut = c.as_chunks.ensures in
    let done = a.n / 4 * 4 + l.inverse-index in
    let is = rest_is a.inverses.now c.requires.0 a.n c.requires.1 cut.back cut.back_len l.inverse-index (omega arith) in
    let further : suc done ≡ a.n / 4 * 4 + (l.inverse-index + 1) = omega arith in
    c.mul-acc-in-loop-inverse.ensures ∙ ap₂ times l.invariant is ∙ over_next done (suc done) refl ∙ ap inverse_factorial further
