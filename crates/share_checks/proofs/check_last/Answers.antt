-- `share_checks::check_last` meets its contract: the ids decided, those that wait, the pair and the room are tested in turn
-- (`last_used` and so on). Assumes nothing.
use mathlib.Core.Path.{sym, ◌∙◌}
use Rattle.share_checks.proofs.Faults.{last_used, last_waits, last_pair, last_short, last_none}
use Rattle.share_checks.proofs.check_last.Goals as goal
use Rattle.share_checks.proofs.check_last.Goals.{then-has_id-via-then-has_id, then-has_id-via-else-has_id+then-is_some}

pub returns-then-has_id : goal.returns-then-has_id
returns-then-has_id c =
    let a = c.args in
    elim c.then-has_id.branch [
      | then-has_id-via-then-has_id w ↦
          last_used a.t.now a.k a.list a.m.now a.r a.s a.room _ _ c.ids_place-start.ensures c.id_of-id.ensures _ c.has_id.ensures
          w.if-has_id.true
      | then-has_id-via-else-has_id+then-is_some w ↦
          last_waits a.t.now a.k a.list a.m.now a.r a.s a.room _ _ c.ids_place-start.ensures c.id_of-id.ensures _ c.has_id.ensures
          w.if-has_id.false _ w.place_of.ensures.place w.place_of.ensures.within (sym w.is_some.ensures ∙ w.if-is_some.true)
    ]

pub returns-then-not-pair_sound : goal.returns-then-not-pair_sound
returns-then-not-pair_sound c =
    let a = c.args in
    last_pair a.t.now a.k a.list a.m.now a.r a.s a.room _ _ c.ids_place-start.ensures c.id_of-id.ensures _ c.has_id.ensures
    c.if-has_id.false _ c.place_of.ensures.place c.place_of.ensures.within (sym c.is_some.ensures ∙ c.if-is_some.false)
    _ c.pair_sound.ensures c.if-not-pair_sound.true

pub returns-then-room-lt-LENGTH_ONE : goal.returns-then-room-lt-LENGTH_ONE
returns-then-room-lt-LENGTH_ONE c =
    let a = c.args in
    last_short a.t.now a.k a.list a.m.now a.r a.s a.room _ _ c.ids_place-start.ensures c.id_of-id.ensures _ c.has_id.ensures
    c.if-has_id.false _ c.place_of.ensures.place c.place_of.ensures.within (sym c.is_some.ensures ∙ c.if-is_some.false)
    _ c.pair_sound.ensures c.if-not-pair_sound.false c.if-room-lt-LENGTH_ONE.true

pub returns : goal.returns
returns c =
    let a = c.args in
    last_none a.t.now a.k a.list a.m.now a.r a.s a.room _ _ c.ids_place-start.ensures c.id_of-id.ensures _ c.has_id.ensures
    c.if-has_id.false _ c.place_of.ensures.place c.place_of.ensures.within (sym c.is_some.ensures ∙ c.if-is_some.false)
    _ c.pair_sound.ensures c.if-not-pair_sound.false c.if-room-lt-LENGTH_ONE.false
