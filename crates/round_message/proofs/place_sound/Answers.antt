-- `round_message::place_sound` meets its contract. The place lies within the joined messages (`place_within`), and the tests are
-- those of the definition (`place_tests`). Assumes nothing.
use mathlib.Core.Path.{◌≡◌}
use mathlib.Core.Bool.{◌&&◌}
use mathlib.Core.List.{List}
use Prim.Native.Nat.{ℕ, ◌+◌, ◌-◌, ◌*◌, ◌≤◌}
use native.Mathlib.Omega.{arith}
use lib.ListN.{length, get_or, take, drop}
use Rattle.std.proofs.lemmas.Grind.{common_steps}
use Rattle.words.proofs.Splice.{length_part}
use Rattle.rules.specs.Settings.{document01}
use Rattle.rules.specs.Messages.{round_length, round_sound, still_missing, own_kept, place_sound}
use Rattle.steps.proofs.Parts.{span}
use Rattle.round_message.specs.Rounds.{code_of, InPlace}
use Rattle.round_message.proofs.Rounds.{size_least, place_within, place_tests}
use Rattle.round_message.proofs.place_sound.Goals as goal
use Rattle.round_message.proofs.place_sound.Goals.{After-length-size}

-- the part that is handed on, and the tests of it
module _ (kind size i : ℕ) (joined : List ℕ) (e : size ≡ round_length document01 kind) (p : InPlace kind i joined) where
  abbrev taken : List ℕ
  taken = take (size * i + size - size * i) (drop (size * i) joined)

  part_long : round_length document01 35 ≤ length taken
  part_long =
      rw (span (size * i) size joined, length_part (size * i) size joined (place_within kind size e i joined p))
      (size_least kind size e)

  tests_are : (servers id own : ℕ) (mine : List ℕ) → place_sound document01 servers kind id own mine joined i
      ≡ (round_sound document01 servers kind id taken
      && (still_missing document01 kind joined (get_or joined (size * i + 5) 0) i && own_kept own mine taken))
  tests_are servers id own mine = rw e (place_tests servers kind id own mine joined i)

-- the place, and the part
within : (c : After-length-size) → c.length-size.result * c.args.i + c.length-size.result ≤ length c.args.joined.now
within c = place_within (code_of c.args.round) _ c.length-size.ensures c.args.i c.args.joined.now c.requires

pub overflow_mul-start : goal.overflow_mul-start
overflow_mul-start c = omega (arith, within (goal.at.overflow_mul-start c).After-length-size)

pub overflow_add-start : goal.overflow_add-start
overflow_add-start c = omega (arith, within (goal.at.overflow_add-start c).After-length-size)

pub returns-then-still_missing : goal.returns-then-still_missing
returns-then-still_missing c = let a = c.args in
    rw (tests_are (code_of a.round) _ a.i a.joined.now c.length-size.ensures c.requires a.servers a.id a.own a.mine.now)
    (grind (arith, common_steps))

pub returns-else-still_missing : goal.returns-else-still_missing
returns-else-still_missing c = let a = c.args in
    rw (tests_are (code_of a.round) _ a.i a.joined.now c.length-size.ensures c.requires a.servers a.id a.own a.mine.now)
    (grind (arith, common_steps))
