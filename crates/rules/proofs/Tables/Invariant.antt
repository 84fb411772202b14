-- A table beside a ledger: its bytes and its records say what the ledger tells, the returns that wait in another order. Then the
-- table is within the limits, and what it knows is what the ledger tells but for that order. Assumes nothing.
use mathlib.Core.Path.{◌≡◌, ap, ◌∙◌}
use mathlib.Core.Bool.{true}
use mathlib.Core.List.{List}
use Prim.Native.Nat.{ℕ, ◌+◌, ◌*◌, ◌≤◌}
use native.Mathlib.Omega.{arith}
use lib.Dec.{ltb}
use lib.ListN.{length, take, drop, replicate}
use Rattle.words.specs.Bytes.{elements_of, all_below}
use Rattle.records.specs.Outcome.{ok}
use Rattle.rules.specs.Settings.{Setting}
use Rattle.rules.specs.Columns.{within, least_fits, read_sheet, totals_fit}
use Rattle.rules.specs.Server.{Opened, Stage, ServerState}
use Rattle.rules.specs.WaitingList.{waiting_count, waits_in}
use Rattle.rules.specs.Table.{Lent, stage_open, stage_closed, opened_in, table_state, table_fault}
use Rattle.rules.specs.Ledger.{Progress, is_open, is_closed, waiting, Decided, Ledger, is_entered, notes_with, ids_of, notes_of}
use Rattle.rules.specs.Ledger.{ledger_totals}
use Rattle.rules.proofs.Tables.Parts.{Parts, Sized, assemble}
use Rattle.rules.proofs.Tables.State.{stage_at, known_at, opened_is, known_is}
use Rattle.rules.proofs.Tables.Sound.{Limited, no_table_fault}
use Rattle.rules.proofs.Tables.Listed.{Listed, as_many, listed_sound}

-- what opening without refusal gives
pub record Opens (σ : Setting) (o : Opened) (sheet : List ℕ) : Type 0 where
  pub reads : read_sheet sheet ≡ ok o.columns
  pub servers_fit_lem : within 2 8 o.servers ≡ true
  pub own_fits : ltb o.own o.servers ≡ true
  pub returns_fit_lem : within 1 1024 o.returns ≡ true
  pub least_fits_lem : least_fits o.returns o.least ≡ true
  pub totals_fit_lem : totals_fit σ o.returns o.columns ≡ true

-- the stage byte of a table
abbrev pub stage_of : Progress → ℕ
stage_of (is_open ws) = stage_open
stage_of is_closed = stage_closed

module _ (σ : Setting) (o : Opened) where
  -- the header says what the table was opened with
  pub record OpenedAs (servers own returns least : ℕ) : Type 0 where
    pub servers_are : servers ≡ o.servers
    pub own_is : own ≡ o.own
    pub returns_are : returns ≡ o.returns
    pub least_is : least ≡ o.least

  -- the counts, ids and totals are those of the decided returns
  pub record Tells (ds : List Decided) (decided entered : ℕ) (totals ids : List ℕ) : Type 0 where
    pub decided_is : decided ≡ length ds
    pub entered_is : entered ≡ length (notes_with is_entered ds)
    pub used_are : elements_of 4 (take (4 * decided) ids) ≡ ids_of (notes_of ds)
    pub unused_are : drop (4 * decided) ids ≡ drop (4 * decided) (replicate (length ids) 0)
    pub totals_are : elements_of σ.width totals ≡ ledger_totals σ o (notes_with is_entered ds)
    pub totals_below : all_below σ.modulus (elements_of σ.width totals) ≡ true

  pub record Beside (T : Lent) (l : Ledger) : Type 0 where
    pub parts : Parts
    pub is : T.bytes ≡ assemble σ parts
    pub sized : Sized σ o.columns parts
    pub opened_as_lem : OpenedAs parts.servers parts.own parts.returns parts.least
    pub tells : Tells l.decided parts.decided parts.entered parts.totals parts.ids
    pub staged : parts.stage ≡ stage_of l.progress
    pub listed : Listed σ o (waiting l.progress) T.slots T.elements
    pub room : length l.decided + length (waiting l.progress) ≤ o.returns

  -- what the ledger tells, with the returns that wait
  abbrev pub told_with : Ledger → Stage → ServerState
  told_with l t = record {
    opened = o;
    stage = t;
    used = ids_of (notes_of l.decided);
    entered = length (notes_with is_entered l.decided);
    totals = ledger_totals σ o (notes_with is_entered l.decided);
  }

  module _ (T : Lent) (l : Ledger) (b : Beside T l) where
    abbrev with : List ℕ → Lent
    with t = record { bytes = t; slots = T.slots; elements = T.elements }

    pub opened_same : opened_in σ T.bytes ≡ o
    opened_same =
        ap (opened_in σ) b.is ∙ opened_is σ o.columns b.parts b.sized
        ∙ λ i. record {
          servers = b.opened_as_lem.servers_are i;
          own = b.opened_as_lem.own_is i;
          columns = o.columns;
          returns = b.opened_as_lem.returns_are i;
          least = b.opened_as_lem.least_is i;
        }

    -- the table knows what the ledger tells
    pub beside_known : table_state σ T ≡ told_with l (stage_at (stage_of l.progress) (waits_in o.columns T.slots T.elements))
    unfolding known_at
    beside_known =
        ap (λ (t : List ℕ). table_state σ (with t)) b.is
        ∙ known_is σ o.columns b.parts b.sized T.slots T.elements
        ∙ λ i. record {
          opened =
              let h = b.opened_as_lem in
              record {
                servers = h.servers_are i;
                own = h.own_is i;
                columns = o.columns;
                returns = h.returns_are i;
                least = h.least_is i;
              };
          stage = stage_at (b.staged i) (waits_in o.columns T.slots T.elements);
          used = b.tells.used_are i;
          entered = b.tells.entered_is i;
          totals = b.tells.totals_are i;
        }

    stage_most : (q : Progress) → stage_of q ≤ stage_closed
    stage_most (is_open ws) = omega arith
    stage_most is_closed = omega arith

    -- and is within the limits
    module _ (sheet : List ℕ) (open_facts : Opens σ o sheet) where
      limited : Limited σ o.columns b.parts (waiting_count T.slots)
      limited = record {
        servers_fit_lem = rw b.opened_as_lem.servers_are open_facts.servers_fit_lem;
        own_fits = rw (b.opened_as_lem.own_is, b.opened_as_lem.servers_are) open_facts.own_fits;
        returns_fit_lem = rw b.opened_as_lem.returns_are open_facts.returns_fit_lem;
        least_fits_lem = rw (b.opened_as_lem.returns_are, b.opened_as_lem.least_is) open_facts.least_fits_lem;
        totals_fit_lem = rw b.opened_as_lem.returns_are open_facts.totals_fit_lem;
        stage_fits = omega (arith, b.staged, stage_most l.progress);
        decided_fit = omega (
          arith,
          as_many σ o (waiting l.progress) T.slots T.elements b.listed,
          b.tells.decided_is,
          b.opened_as_lem.returns_are,
          b.room,
        );
        totals_below = b.tells.totals_below;
      }

      pub beside_sound : table_fault σ T ≡ 0
      beside_sound =
          ap (λ (t : List ℕ). table_fault σ (with t)) b.is
          ∙ no_table_fault σ o.columns b.parts b.sized T.slots T.elements limited
          (listed_sound σ o (waiting l.progress) T.slots T.elements b.listed)
