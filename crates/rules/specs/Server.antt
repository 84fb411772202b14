-- Document 01, "Judging" and "Who can cause which refusal", and document 02, eight returns waiting, small pools stay shut, same
-- challenge and verdict first: the rules of one server, as functions of what it knows. A table says what a server knows (Table),
-- and so does the ledger (Ledger).
-- Assumes nothing.
use Rattle.std.specs.Prelude.{Bool, false, not, ◌||◌, List, [], ◌∷◌, ◌++◌, map, ℕ, ◌+◌, ◌*◌, eqb, ltb, leb, length, get_or}
use Rattle.std.proofs.Math.Option.{Option, some, none}
use Rattle.algebra.specs.Modulo.{modulo}
use Rattle.words.specs.Bytes.{bytes_of, bytes_of_all}
use Rattle.records.specs.Outcome.{or_else}
use Rattle.rules.specs.Settings.{Setting}
use Rattle.rules.specs.Columns.{Column, check, published_in, published_from, columns_of, sheet_fault}
use Rattle.rules.specs.Columns.{servers_fault, own_fault, returns_fault, least_fault, totals_fault}
use Rattle.rules.specs.Judging.{first_only, a_of, b_of, c_of, h_at, d_of, e_of, sigma_from, tau_of, allowed_pair}
use Rattle.rules.specs.Making.{message}
use Rattle.rules.specs.Messages.{id_in, header_fault, elements_fault, round_length, round_fault, challenge_fault, first_sum, second_sum}
use Rattle.rules.specs.Keyed.{find}

-- "A server's table opens with S, its own number, a sheet and N." "A table now opens with a least count Q."
pub record Opened : Type 0 where
  pub servers : ℕ
  pub own : ℕ
  pub columns : List Column
  pub returns : ℕ
  pub least : ℕ

-- A return that waits: its id, its pair, in the first wait d_i and e_i, afterwards the sums d and e; r × h_i(r), tau_i and the
-- elements of the share
pub record Waiting : Type 0 where
  pub id : ℕ
  pub r : ℕ
  pub s : ℕ
  pub d : ℕ
  pub e : ℕ
  pub rh : ℕ
  pub tau : ℕ
  pub elements : List ℕ

-- the return with the sums d and e
abbrev pub with_sums : Waiting → ℕ → ℕ → Waiting
with_sums w d e = record { id = w.id; r = w.r; s = w.s; d = d; e = e; rh = w.rh; tau = w.tau; elements = w.elements }

-- "A table now holds up to eight unfinished returns, each with its own stage": it awaits round one or round two; "An accepted return
-- then waits until it is entered or dropped"
pub data Wait : Type 0 where
  awaitsOne awaits_two awaitsEntry : Waiting → Wait

abbrev pub held : Wait → Waiting
held (awaitsOne w) = w
held (awaits_two w) = w
held (awaitsEntry w) = w

abbrev pub held_id : Wait → ℕ
held_id w = (held w).id

-- the most returns that wait
abbrev pub most_waiting : ℕ
most_waiting = 8

-- the table takes calls, and these returns wait; or it "is closed (takes nothing)"
pub data Stage : Type 0 where
  takes : List Wait → Stage
  closed : Stage

-- What a server knows: what it was opened with, its stage, the ids decided, the number entered and the totals. "The accepted count is
-- of entered returns"
pub record ServerState : Type 0 where
  pub opened : Opened
  pub stage : Stage
  pub used : List ℕ
  pub entered : ℕ
  pub totals : List ℕ

-- whether x is among the members
unfoldable pub is_member : ℕ → List ℕ → Bool
is_member x [] = false
is_member x (y ∷ ys) = eqb y x || is_member x ys

-- Opening: "S and own number, sheet, N, 4, 14"; Q is "checked after N". The 14, which asks for room for the table's three parts, is
-- in `Table.open_refusal`
unfoldable pub open_fault : Setting → ℕ → ℕ → List ℕ → ℕ → ℕ → ℕ
open_fault σ servers own sheet returns least =
    or_else (servers_fault servers)
    (or_else (own_fault servers own)
    (or_else (sheet_fault sheet)
    (or_else (returns_fault returns)
    (or_else (least_fault returns least) (totals_fault σ returns (columns_of sheet))))))

module _ (σ : Setting) (o : Opened) where
  -- what server `own` works out from a share that it takes
  unfoldable pub waiting_of : ℕ → List ℕ → ℕ → ℕ → Waiting
  waiting_of id xs r s =
      let O = modulo σ.modulus in
      let x : ℕ → ℕ = λ k. get_or xs k 0 in
      let k = first_only O o.own in
      record {
        id = id;
        r = r;
        s = s;
        d = d_of O σ o.columns k x r;
        e = e_of O σ o.columns k x r;
        rh = O.◌⊗◌ r (h_at O σ o.columns x r);
        tau = tau_of O σ o.columns k x s;
        elements = xs;
      }

  -- sigma_i, with the sums d and e
  unfoldable pub sigma_in : Waiting → ℕ
  sigma_in w =
      let O = modulo σ.modulus in
      let x : ℕ → ℕ = λ k. get_or w.elements k 0 in
      let cs = o.columns in
      sigma_from O (first_only O o.own) w.d w.e (a_of O σ cs x) (b_of O σ cs x) (c_of O σ cs x) w.rh

  -- the messages that the server writes in the two rounds. "Round-one messages now carry r and s after e_i"
  unfoldable pub message_one : Waiting → List ℕ
  message_one w = message σ 34 w.id o.own (w.d ∷ w.e ∷ w.r ∷ w.s ∷ [])

  unfoldable pub message_two : Waiting → List ℕ
  message_two w = message σ 35 w.id o.own (sigma_in w ∷ w.tau ∷ [])

  -- the return after round one: with the sums of the joined messages
  unfoldable pub summed : Waiting → List ℕ → Waiting
  summed w joined = with_sums w (first_sum σ 34 o.servers joined) (second_sum σ 34 o.servers joined)

  -- the shares of the published entries
  unfoldable pub published_shares : List ℕ → List ℕ
  published_shares xs = map (λ e. get_or xs e 0) (published_from 0 o.columns)

  -- "Closing writes byte 36, server, accepted count (4 bytes), published totals."
  unfoldable pub totals_message : ℕ → List ℕ → List ℕ
  totals_message count totals = σ.totals_byte ∷ o.own ∷ bytes_of 4 count ++ bytes_of_all σ.width totals

  unfoldable pub totals_length : ℕ
  totals_length = 6 + σ.width * published_in o.columns

-- "11: a call the stage does not allow": what a check says where the call is allowed, 11 elsewhere. Of a table that is not
-- closed, by the returns that wait; of a return, by the one that waits under the id that a call names
unfoldable pub while_open : Stage → (List Wait → ℕ) → ℕ
while_open (takes ws) f = f ws
while_open closed f = 11

unfoldable pub while_one : Option Wait → (Waiting → ℕ) → ℕ
while_one none f = 11
while_one (some (awaitsOne w)) f = f w
while_one (some (awaits_two w)) f = 11
while_one (some (awaitsEntry w)) f = 11

unfoldable pub while_two : Option Wait → (Waiting → ℕ) → ℕ
while_two none f = 11
while_two (some (awaitsOne w)) f = 11
while_two (some (awaits_two w)) f = f w
while_two (some (awaitsEntry w)) f = 11

unfoldable pub while_entry : Option Wait → ℕ
while_entry none = 11
while_entry (some (awaitsOne w)) = 11
while_entry (some (awaits_two w)) = 11
while_entry (some (awaitsEntry w)) = 0

unfoldable pub while_waiting : Option Wait → ℕ
while_waiting none = 11
while_waiting (some w) = 0

-- The refusals of each call, 0 for none, in the order told. A share with its pair and the room of the output buffer: "11, 13,
-- 7, 8, 10, 9, 14". "Decided and waiting together never exceed N, and 13 is given when they reach it .. An id that waits is
-- refused 10; a ninth return .. is refused 11."
unfoldable pub share_refusal : Setting → ServerState → List ℕ → ℕ → ℕ → ℕ → ℕ
share_refusal σ k m r s room =
    while_open k.stage
    (λ ws. or_else (check (ltb (length ws) most_waiting) 11)
    (or_else (check (ltb (length k.used + length ws) k.opened.returns) 13)
    (or_else (header_fault σ k.opened.columns k.opened.own m)
    (or_else (elements_fault σ k.opened.columns m)
    (or_else (check (not (is_member (id_in m) (k.used ++ map held_id ws))) 10)
    (or_else (check (allowed_pair σ k.opened.columns r s) 9) (check (leb (round_length σ 34) room) 14)))))))

-- "Round one: 11, 12, 14." "challenges that differ among round-one messages without a fault of 12 are refused 16, right after it."
-- "Both rounds and drop name an id .. an id not waiting .. is refused 11." The message that is written is of round two
unfoldable pub one_refusal : Setting → ServerState → ℕ → List ℕ → ℕ → ℕ
one_refusal σ k id joined room =
    let o = k.opened in
    while_open k.stage
    (λ ws. while_one (find held_id id ws)
    (λ w. or_else (round_fault σ o.servers 34 w.id o.own (message_one σ o w) joined)
    (or_else (challenge_fault σ o.servers joined) (check (leb (round_length σ 35) room) 14))))

-- "Round two, which writes no message: 11, 12."
unfoldable pub two_refusal : Setting → ServerState → ℕ → List ℕ → ℕ
two_refusal σ k id joined =
    let o = k.opened in
    while_open k.stage
    (λ ws. while_two (find held_id id ws) (λ w. round_fault σ o.servers 35 w.id o.own (message_two σ o w) joined))

-- "Entering a return that has no accepted verdict .. is refused 11."
unfoldable pub enter_refusal : ServerState → ℕ → ℕ
enter_refusal k id = while_open k.stage (λ ws. while_entry (find held_id id ws))

-- "Drop: 11." "Dropping is allowed while a return waits", also for its entry: "An accepted return then waits until it is entered or
-- dropped"
unfoldable pub drop_refusal : ServerState → ℕ → ℕ
drop_refusal k id = while_open k.stage (λ ws. while_waiting (find held_id id ws))

-- "Close: 11, 14." ".. or a close while any waits is refused 11", "closing while one waits for entry" too. "Closing with fewer than Q
-- accepted gives no totals .. too few accepted is refused 15, between 11 and 14", where "accepted now reads entered"
unfoldable pub close_refusal : Setting → ServerState → ℕ → ℕ
close_refusal σ k room =
    while_open k.stage
    (λ ws. or_else (check (eqb (length ws) 0) 11)
    (or_else (check (leb k.opened.least k.entered) 15) (check (leb (totals_length σ k.opened) room) 14)))
