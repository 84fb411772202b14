-- `seeded::messages::write_seeds` meets its contract. The loop's invariant: the messages of the first j other servers stand from
-- `first` (`seeds_next`); the measure is what is left of the servers. Assumes nothing.
use mathlib.Core.Path.{◌≡◌, refl, ap, ◌∙◌}
use Prim.Native.Nat.{ℕ}
use native.Mathlib.Omega.{arith}
use Rattle.words.specs.Bytes.{splice}
use Rattle.seeded.specs.Pieces.{seed_messages}
use Rattle.seeded.proofs.Writing.{seeds_none, seed_asks, seeds_next}
use borrow.Author.Rules.{rules}
use Rattle.seeded.proofs.messages.write_seeds.Goals as goal

pub loop-j-init : goal.loop-j-init
loop-j-init c =
    let a = c.args in
    (search rules, seeds_none a.out.now a.seeds.now a.first a.id, refl)

pub write_seed-requires : goal.write_seed-requires
write_seed-requires c =
    let l = c.loop-j in
    seed_asks c.requires.0 c.args.out.now c.args.first c.requires.1 c.requires.2 l.j c.loop-j-test.true l.out
    l.invariant.2

pub loop-j-preserved : goal.loop-j-preserved
loop-j-preserved c =
    let l = c.loop-j in (
      search rules,
      c.write_seed.ensures
          ∙ seeds_next c.requires.0 c.args.out.now c.args.first c.requires.1 c.requires.2 l.j c.loop-j-test.true c.args.id
          l.out l.invariant.1,
      search rules,
    )

pub returns : goal.returns
returns c =
    let a = c.args in
    let l = c.loop-j in
    let e : l.j ≡ a.others = omega arith in
    l.invariant.1 ∙ ap (λ (n : ℕ). splice a.out.now a.first (seed_messages a.seeds.now a.id n)) e
