-- `slots::copied`: eight records are read as they are, another list as eight broken ones. Assumes nothing.
use Rattle.std.proofs.Common.{◌≡◌, sym, ◌∙◌, subst, length}
use Rattle.std.specs.Array.{IsWholeChunk}
use Rattle.std.specs.Result.{MatchResult}
use Rattle.slots.proofs.Eight.{eight_is, eight_broken}
use Rattle.slots.proofs.copied.Goals as goal

pub returns-then-slots-eq8 : goal.returns-then-slots-eq8
returns-then-slots-eq8 c =
    let whole =
    subst (λ r. MatchResult r (λ y. IsWholeChunk c.args.slots.now y 8) (λ _. length c.args.slots.now ≡ 8 → ⊥))
    c.unwrap.ensures c.try_from.ensures.1 in
    whole.same ∙ sym (eight_is c.args.slots.now c.if-slots-eq8.true)

pub returns : goal.returns
returns c = sym (eight_broken c.args.slots.now c.if-slots-eq8.false)
