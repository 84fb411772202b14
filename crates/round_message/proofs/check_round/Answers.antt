-- `round_message::check_round` meets its contract: its tests are those of the definition (`round_fault_lem`). Assumes nothing.
use native.Mathlib.Omega.{arith}
use Rattle.std.proofs.lemmas.Grind.{common_steps}
use Rattle.round_message.specs.Rounds.{code_of}
use Rattle.round_message.proofs.Rounds.{whole_few, round_fault_lem}
use Rattle.round_message.proofs.check_round.Goals as goal

pub overflow_mul-length : goal.overflow_mul-length
overflow_mul-length c =
    omega (arith, whole_few (code_of c.args.round) _ c.length.ensures c.args.servers c.requires.few)

pub all_sound-requires : goal.all_sound-requires
all_sound-requires c =
    record { few = c.requires.few; long = rw c.length.ensures at c.if-joined-length.true }

pub returns-then-all_sound : goal.returns-then-all_sound
returns-then-all_sound c =
    let a = c.args in
    rw (round_fault_lem a.servers (code_of a.round) a.id a.own a.mine.now a.joined.now) (grind (arith, common_steps))

pub returns-else-joined-length : goal.returns-else-joined-length
returns-else-joined-length c =
    let a = c.args in
    rw (round_fault_lem a.servers (code_of a.round) a.id a.own a.mine.now a.joined.now) (grind (arith, common_steps))
