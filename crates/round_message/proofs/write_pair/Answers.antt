-- `round_message::write_pair` meets its contract: the header is a message of no elements (`message_none`), and each element makes it
-- longer (`element_written`). Assumes nothing.
use mathlib.Core.Path.{refl}
use mathlib.Core.List.{[], ◌∷◌}
use native.Mathlib.Omega.{arith}
use Rattle.round_message.specs.Rounds.{code_of}
use Rattle.round_message.proofs.Writing.{message_none, element_written}
use Rattle.round_message.proofs.write_pair.Goals as goal

pub returns : goal.returns
returns c =
    let a = c.args in
    let kind = code_of a.round in
    rw (
      c.write_u32-2.ensures,
      c.write_u32.ensures,
      c.write_header.ensures,
      c.code.ensures,
      message_none kind a.id a.server,
      element_written kind a.id a.server a.out.now [] a.x 6 refl (omega (arith, c.requires)),
      element_written kind a.id a.server a.out.now (a.x ∷ []) a.y 10 refl (omega (arith, c.requires)),
    )
    refl
