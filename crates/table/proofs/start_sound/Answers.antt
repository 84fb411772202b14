-- `table::start_sound` meets its contract: a table that is too short breaks a fact of the start (`not_started`), and the other tests
-- are the definition's (`start_is`). Assumes nothing.
use mathlib.Core.Path.{◌≡◌, refl, ◌∙◌}
use mathlib.Core.Bool.{◌&&◌}
use native.Mathlib.Omega.{arith}
use borrow.Author.Tests.{eq-eqb, ne_eqb}
use lib.Dec.{eqb, ltb, leb}
use lib.ListN.{get_or}
use Rattle.std.proofs.Common.{rules}
use Rattle.words.specs.Bytes.{value_of, part}
use Rattle.rules.specs.Columns.{within, least_fits}
use Rattle.table.proofs.Header.{not_started, start_is}
use Rattle.table.proofs.start_sound.Goals as goal
use Rattle.table.proofs.start_sound.Goals.{Joined-contains-2}
use Rattle.table.proofs.start_sound.Goals.{then-t-eq-TABLE, else-t-eq-TABLE, then-t-le-CLOSED, else-t-le-CLOSED, then-contains, else-contains}
use Rattle.table.proofs.start_sound.Goals.{then-t, else-t, then-contains-2, else-contains-2}

pub returns-then-t-lt-HEADER-clause-sound : goal.returns-then-t-lt-HEADER-clause-sound
returns-then-t-lt-HEADER-clause-sound c = not_started _ (λ f. omega arith)

-- all but the last test
but_last : (c : Joined-contains-2)
    → c.if-contains-2.value
    ≡ ((((eqb (get_or c.args.t.now 0 0) 3 && leb (get_or c.args.t.now 1 0) 1) && within 2 8 (get_or c.args.t.now 2 0))
    && ltb (get_or c.args.t.now 3 0) (get_or c.args.t.now 2 0))
    && within 1 1024 (value_of (part 4 2 c.args.t.now)))
    && least_fits (value_of (part 4 2 c.args.t.now)) (value_of (part 10 2 c.args.t.now))
but_last c =
    let T = c.args.t.now in
    let first : c.if-t-eq-TABLE.value ≡ eqb (get_or T 0 0) 3 && leb (get_or T 1 0) 1
    = elim c.if-t-eq-TABLE.branch [
      | then-t-eq-TABLE w ↦ rw (w.value-is, eq-eqb (get_or T 0 0) 3 w.if-t-eq-TABLE.true) refl
      | else-t-eq-TABLE w ↦ rw (w.value-is, ne_eqb (get_or T 0 0) 3 w.if-t-eq-TABLE.false) refl
    ] in
    let servers : c.if-t-le-CLOSED.value ≡ c.if-t-eq-TABLE.value && within 2 8 (get_or T 2 0)
    = elim c.if-t-le-CLOSED.branch [
      | then-t-le-CLOSED w ↦ rw (w.value-is, w.if-t-le-CLOSED.true) (search rules)
      | else-t-le-CLOSED w ↦ rw (w.value-is, w.if-t-le-CLOSED.false) refl
    ] in
    let own : c.if-contains.value ≡ c.if-t-le-CLOSED.value && ltb (get_or T 3 0) (get_or T 2 0)
    = elim c.if-contains.branch [
      | then-contains w ↦ rw (w.value-is, w.if-contains.true) refl
      | else-contains w ↦ rw (w.value-is, w.if-contains.false) refl
    ] in
    let returns : c.if-t.value ≡ c.if-contains.value && within 1 1024 (value_of (part 4 2 T))
    = elim c.if-t.branch [
      | then-t w ↦ rw (w.value-is, w.if-t.true) (search rules)
      | else-t w ↦ rw (w.value-is, w.if-t.false) refl
    ] in
    let least : c.if-contains-2.value ≡ c.if-t.value && least_fits (value_of (part 4 2 T)) (value_of (part 10 2 T))
    = elim c.if-contains-2.branch [
      | then-contains-2 w ↦
          rw (w.value-is, w.if-contains-2.true) (rw (c.read_u16-returns.ensures, w.read_u16.ensures) at w.least_sound.ensures)
      | else-contains-2 w ↦ rw (w.value-is, w.if-contains-2.false) refl
    ] in
    rw (least, returns, own, servers, first) refl

pub returns-then-least_sound-clause-sound : goal.returns-then-least_sound-clause-sound
returns-then-least_sound-clause-sound c =
    let T = c.args.t.now in
    let e = start_is T c.if-contains-2.value c.if-t-lt-HEADER.false (but_last (goal.at.returns-then-least_sound-clause-sound c).Joined-contains-2) in
    rw c.read_u16-then-least_sound.ensures (rw c.if-least_sound.true at e)

pub returns-else-least_sound-clause-sound : goal.returns-else-least_sound-clause-sound
returns-else-least_sound-clause-sound c =
    let T = c.args.t.now in
    let e = start_is T c.if-contains-2.value c.if-t-lt-HEADER.false (but_last (goal.at.returns-else-least_sound-clause-sound c).Joined-contains-2) in
    c.if-least_sound.false ∙ rw c.if-least_sound.false at e
