-- `client::shares::write_others` meets its contract. The loop's invariant: the messages of the first j other servers stand
-- behind that of server 0 (`others_next`); the measure is what is left of the servers. Assumes nothing.
use mathlib.Core.Path.{◌≡◌, refl, ap, ◌∙◌}
use Prim.Native.Nat.{ℕ}
use native.Mathlib.Omega.{arith}
use Rattle.words.specs.Bytes.{splice}
use Rattle.client.specs.Pieces.{message_bytes, other_messages}
use Rattle.client.proofs.Writing.{others_none, other_asks, others_next}
use borrow.Author.Rules.{rules}
use Rattle.client.proofs.shares.write_others.Goals as goal

pub loop-j-init : goal.loop-j-init
loop-j-init c =
    let a = c.args in
    (search rules, others_none a.out.now a.random.now a.size a.id, refl)

pub write_other-requires : goal.write_other-requires
write_other-requires c =
    let l = c.loop-j in
    other_asks c.requires.0 c.args.out.now c.requires.1 l.j c.loop-j-test.true l.out l.invariant.2

pub loop-j-preserved : goal.loop-j-preserved
loop-j-preserved c =
    let l = c.loop-j in (
      search rules,
      c.write_other.ensures
          ∙ others_next c.requires.0 c.args.out.now c.requires.1 l.j c.loop-j-test.true c.args.id l.out l.invariant.1,
      search rules,
    )

pub returns : goal.returns
returns c =
    let a = c.args in
    let l = c.loop-j in
    let e : l.j ≡ a.others = omega arith in
    l.invariant.1
    ∙ ap (λ (n : ℕ). splice a.out.now (message_bytes a.size) (other_messages a.random.now a.size a.id n)) e
