-- `round_message::write_one` meets its contract: r and s make the message of d and e longer (`element_written`). Assumes nothing.
use mathlib.Core.Path.{refl}
use mathlib.Core.List.{[], ◌∷◌}
use native.Mathlib.Omega.{arith}
use Rattle.round_message.proofs.Writing.{element_written}
use Rattle.round_message.proofs.write_one.Goals as goal

pub returns : goal.returns
returns c =
    let a = c.args in
    rw (
      c.write_u32-2.ensures,
      c.write_u32.ensures,
      c.write_pair.ensures,
      element_written 34 a.id a.server a.out.now (a.d ∷ a.e ∷ []) a.r 14 refl (omega (arith, c.requires)),
      element_written 34 a.id a.server a.out.now (a.d ∷ a.e ∷ a.r ∷ []) a.s 18 refl (omega (arith, c.requires)),
    )
    refl
