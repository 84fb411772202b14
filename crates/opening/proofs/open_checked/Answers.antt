-- `opening::open_checked` meets its contract: each test in its turn gives the refusal that is told there, and where none does
-- the counts of the sheet give the room that the table takes. Assumes nothing.
use mathlib.Core.Path.{refl, sym, ap, ◌∙◌}
use Prim.Native.Nat.{ℕ, ◌+◌}
use native.Mathlib.Omega.{arith}
use Rattle.records.proofs.Refusals.{number_nonzero, outcome_passed}
use Rattle.rules.proofs.Circuits.Refusals.{sheet_read}
use Rattle.sheet.proofs.Answers.{reading_refused}
use Rattle.opening.proofs.Opening.{Counted, counted, size_is, returns_most, servers_refused, own_outside}
use Rattle.opening.proofs.Opening.{sheet_refused, least_refused, returns_refused, room_short, room_enough}
use Rattle.opening.proofs.open_checked.Goals as goal
use Rattle.opening.proofs.open_checked.Goals.{In_ok-counts}

-- what the counts of the sheet that is read keep to
seen : (c : In_ok-counts) → Counted c.args.sheet.now c.in_ok-counts.counts
seen c = counted c.args.sheet.now c.in_ok-counts.counts (sym c.in_ok-counts.ensures)

pub returns-in_err-check_servers : goal.returns-in_err-check_servers
returns-in_err-check_servers c =
    let a = c.args in
    outcome_passed _ _ c.from_residual.ensures.1
    ∙ servers_refused a.servers a.own a.sheet.now a.returns a.least a.room a.records a.numbers _ c.in_err-check_servers.ensures
    (number_nonzero c.in_err-check_servers.field-0.0)

pub returns-then-servers-own : goal.returns-then-servers-own
returns-then-servers-own c =
    let a = c.args in
    own_outside a.servers a.own a.sheet.now a.returns a.least a.room a.records a.numbers c.in_ok-check_servers.ensures
    c.if-servers-own.true

pub returns-in_err-counts : goal.returns-in_err-counts
returns-in_err-counts c =
    let a = c.args in
    let r = reading_refused a.sheet.now _ (sym c.in_err-counts.ensures) in
    outcome_passed _ _ c.from_residual-in_err-counts.ensures.1
    ∙ sheet_refused a.servers a.own a.sheet.now a.returns a.least a.room a.records a.numbers c.in_ok-check_servers.ensures
    c.if-servers-own.false _ r.0 r.1

pub returns-then-not-least_sound : goal.returns-then-not-least_sound
returns-then-not-least_sound c =
    let a = c.args in
    least_refused a.servers a.own a.sheet.now a.returns a.least a.room a.records a.numbers c.in_ok-check_servers.ensures
    c.if-servers-own.false (seen (goal.at.returns-then-not-least_sound c).In_ok-counts).no_fault_lem
    (sym c.least_sound.ensures ∙ c.if-not-least_sound.true)

pub check_returns-requires : goal.check_returns-requires
check_returns-requires c = sheet_read c.args.sheet.now (seen (goal.at.check_returns-requires c).In_ok-counts).no_fault_lem

pub returns-in_err-check_returns : goal.returns-in_err-check_returns
returns-in_err-check_returns c =
    let a = c.args in
    outcome_passed _ _ c.from_residual-in_err-check_returns.ensures.1
    ∙ returns_refused a.servers a.own a.sheet.now a.returns a.least a.room a.records a.numbers c.in_ok-check_servers.ensures
    c.if-servers-own.false (seen (goal.at.returns-in_err-check_returns c).In_ok-counts).no_fault_lem
    (sym c.least_sound.ensures ∙ c.if-not-least_sound.false) _ c.in_err-check_returns.ensures
    (number_nonzero c.in_err-check_returns.field-0.0)

pub share_size-place-requires : goal.share_size-place-requires
share_size-place-requires c =
    let k = seen (goal.at.share_size-place-requires c).In_ok-counts in (k.entries_most, k.gates_most)

pub overflow_add-place : goal.overflow_add-place
overflow_add-place c =
    let k = seen (goal.at.overflow_add-place c).In_ok-counts in
    omega (arith, k.entries_most, k.gates_most, c.share_size-place.ensures)

pub table_length-requires : goal.table_length-requires
table_length-requires c =
    let k = seen (goal.at.table_length-requires c).In_ok-counts in
    let few = returns_most c.args.sheet.now c.args.returns c.in_ok-check_returns.ensures in
    record { sheet_most = k.sheet_most; published_most = k.published_most; returns_most = few }

pub overflow_mul-size : goal.overflow_mul-size
overflow_mul-size c =
    let k = seen (goal.at.overflow_mul-size c).In_ok-counts in
    omega (arith, k.entries_most, k.gates_most, c.share_size-place.ensures)

pub returns-then-not-has_room : goal.returns-then-not-has_room
returns-then-not-has_room c =
    let a = c.args in
    let k = seen (goal.at.returns-then-not-has_room c).In_ok-counts in
    let sized = size_is a.sheet.now _ a.returns k _ _ c.table_length.ensures (ap (λ (n : ℕ). n + 2) c.share_size-place.ensures) in
    room_short a.servers a.own a.sheet.now a.returns a.least a.room a.records a.numbers c.in_ok-check_servers.ensures
    c.if-servers-own.false k.no_fault_lem (sym c.least_sound.ensures ∙ c.if-not-least_sound.false) 0
    c.in_ok-check_returns.ensures refl (sym (rw sized at c.has_room.ensures) ∙ c.if-not-has_room.true)

pub returns : goal.returns
returns c =
    let a = c.args in
    let k = seen (goal.at.returns c).In_ok-counts in
    let sized = size_is a.sheet.now _ a.returns k _ _ c.table_length.ensures (ap (λ (n : ℕ). n + 2) c.share_size-place.ensures) in
    rw sized
    (room_enough a.servers a.own a.sheet.now a.returns a.least a.room a.records a.numbers c.in_ok-check_servers.ensures
    c.if-servers-own.false k.no_fault_lem (sym c.least_sound.ensures ∙ c.if-not-least_sound.false) 0
    c.in_ok-check_returns.ensures refl (sym (rw sized at c.has_room.ensures) ∙ c.if-not-has_room.false))
