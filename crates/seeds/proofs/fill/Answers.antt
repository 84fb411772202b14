-- `seeds::fill`: one more block is put there (`turn`), and at the end all are. Assumes nothing.
use Rattle.std.proofs.Common.{◌≡◌, ◌*◌, min, length, refl, ◌∙◌, arith}
use lib.Seq.{set-set}
use Rattle.algebra.proofs.Tables.{fill_none, fill_all}
use Rattle.seeds.specs.Filling.{streamed}
use Rattle.seeds.proofs.Filling.{turn, blocks_left, blocks_done}
use Rattle.seeds.proofs.fill.Goals as goal

pub loop-count-init : goal.loop-count-init
loop-count-init c =
    let z : min (length c.args.out.now) 0 ≡ 0 = omega arith in
    ((λ v. refl), rw z (fill_none (streamed c.args.s.now) c.args.out.now))

pub loop-count-preserved : goal.loop-count-preserved
loop-count-preserved c =
    let n = length c.args.out.now in
    let k = c.loop-count.count in (
      (λ v. set-set c.loop-count.s 12 k v ∙ c.loop-count.invariant.0 v),
      turn n k c.min-end.result (blocks_left n k _ c.div_ceil-count-end.ensures c.loop-count-test.true) c.min-end.ensures
          c.args.s.now c.loop-count.s c.args.out.now c.loop-count.out c.fill_block.new.out (omega arith)
          c.loop-count.invariant.0 c.loop-count.invariant.1 c.fill_block.ensures,
    )

pub returns : goal.returns
returns c =
    let n = length c.args.out.now in
    let z : min n (16 * c.loop-count.count) ≡ n = blocks_done n _ _ c.div_ceil-count-end.ensures c.loop-count-test.false in
    fill_all (streamed c.args.s.now) c.args.out.now c.loop-count.out n (omega arith) (omega arith)
    (rw z at c.loop-count.invariant.1)
