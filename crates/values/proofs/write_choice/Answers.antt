-- `values::write_choice`: one more option is written (`fill_next`), and at the end all are. Assumes nothing.
use mathlib.Core.Bool.{Bool, true, false, cond}
use Rattle.std.proofs.Common.{◌≡◌, refl, ◌∙◌, length, arith}
use Rattle.std.specs.Int.{from_bool}
use Rattle.algebra.proofs.Tables.{fill_none, fill_next, fill_all}
use Rattle.rules.specs.Columns.{choice}
use Rattle.rules.specs.Values.{encoded}
use Rattle.values.proofs.write_choice.Goals as goal

-- a test as a number
one_if : (b : Bool) → from_bool b ≡ cond b 1 0
one_if true = refl
one_if false = refl

pub loop-i-init : goal.loop-i-init
loop-i-init c = fill_none _ c.args.out.now

pub loop-i-preserved : goal.loop-i-preserved
unfolding encoded
loop-i-preserved c =
    fill_next (encoded (choice (length c.args.out.now)) c.args.v) c.args.out.now c.loop-i.out c.loop-i.i _ (omega arith)
    c.loop-i.invariant (c.from.ensures ∙ one_if _)

pub returns : goal.returns
returns c = fill_all _ c.args.out.now c.loop-i.out c.loop-i.i (omega arith) (omega arith) c.loop-i.invariant
