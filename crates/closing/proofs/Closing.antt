-- A close: refused where the table is unsound or closed, a return waits, too few are entered, or the buffer is too short; else
-- the closing message is written and the stage stored. The totals of a table are whole elements, so the bytes of what they say are
-- those that stand there. Assumes that the members of the table are bytes, where it is said.
use mathlib.Core.Path.{◌≡◌, refl, sym, ap, ◌∙◌}
use mathlib.Core.Bool.{true, false}
use mathlib.Core.List.{List, [], ◌∷◌}
use Prim.Native.Nat.{ℕ, ◌+◌, ◌*◌, ◌≤◌, ◌<◌}
use native.Mathlib.Omega.{arith}
use borrow.Author.Tests.{le-leb, lt-leb, eq-eqb, ne_eqb}
use lib.Dec.{lit<, eqb, leb}
use lib.ListN.{length, set}
use Rattle.algebra.specs.Lists.{All}
use Rattle.words.specs.Bytes.{part, splice, bytes_of_all, elements_of}
use Rattle.words.proofs.Splice.{length_part}
use Rattle.words.proofs.Elements.{bytes_elements}
use Rattle.words.proofs.Below.{all_take, all_drop}
use Rattle.words.proofs.Loops.{sets_splice}
use Rattle.std.specs.Prelude.{Result, Ok, Err}
use Rattle.records.specs.Outcome.{refused, or_else}
use Rattle.records.specs.Refusals.{outcome_of}
use Rattle.records.specs.Answers.{answered, only_if}
use Rattle.records.specs.declared.Refusal.{Refusal}
use Rattle.records.specs.declared.Refusal.TheVariants as why
use Rattle.records.proofs.Outcome.{or_first}
use Rattle.totals_message.specs.Totals.{totals_header}
use Rattle.rules.specs.Settings.{document01}
use Rattle.rules.specs.Columns.{check}
use Rattle.rules.specs.Server.{while_open, close_refusal, totals_length, totals_message}
use Rattle.rules.specs.WaitingList.{waiting_count}
use Rattle.rules.specs.Table.{Lent, entered_in, least_in, opened_in, stage_in, table_state, totals_place, close_refused, close_table, close_bytes}
use Rattle.layout.specs.Places.{totals_at}
use Rattle.layout.specs.Numbers.{table_of}
use Rattle.layout.specs.Writing.{closing_bytes, Closable}
use Rattle.layout.specs.declared.Table.{Table}
use Rattle.waiting.specs.Changes.{lent}
use Rattle.waiting.proofs.Changes.{kept, renewed}
use Rattle.table.specs.Reading.{found_in, Sound}
use Rattle.table.proofs.Answers.{unsound, not_refused}
use Rattle.table.proofs.Stages.{while_open_lem, once_closed, waits_count}
use Rattle.closing.specs.Calls.{Closes}

-- ---- the closing message is rules'
module _ (T : Lent) where
  abbrev bytes : List ℕ
  bytes = T.bytes

  abbrev totals_part : List ℕ
  totals_part = part (totals_at (table_of bytes).sheet) (4 * (table_of bytes).published) bytes

  module _ (long : totals_at (table_of bytes).sheet + 4 * (table_of bytes).published ≤ length bytes)
      (each : All (λ b. b < 256) bytes) where
    totals_same : bytes_of_all 4 (elements_of 4 totals_part) ≡ totals_part
    totals_same =
        let at = totals_at (table_of bytes).sheet in
        let n = 4 * (table_of bytes).published in
        bytes_elements 4 (lit< tt) (table_of bytes).published totals_part (length_part at n bytes long)
        (all_take (λ b. b < 256) n (all_drop (λ b. b < 256) at each))

    message_same : close_bytes document01 T ≡ closing_bytes (table_of bytes) bytes
    unfolding close_bytes closing_bytes totals_message totals_header totals_place table_of
    message_same = rw totals_same

  length_same : totals_length document01 (opened_in document01 bytes) ≡ 6 + 4 * (table_of bytes).published
  unfolding totals_length table_of
  length_same = refl

-- ---- the call
module _ (T : Lent) (out : List ℕ) where
  refuses : (n : ℕ) → close_refused document01 T (length out) ≡ n → (n ≡ 0 → ⊥) → (r : Result ℕ Refusal) → outcome_of r ≡ refused n
      → Closes T out r T.bytes out
  unfolding answered only_if
  refuses n e z r o =
      let f = ne_eqb n 0 z in
      record {
        answer_is = o ∙ rw (e, f) refl;
        out_is = rw (e, f);
        table_is = sym (kept (close_refused document01 T (length out)) (close_table document01 T) T n e z);
      }

  pub close_unsound : (n : ℕ) → found_in T ≡ refused n → (r : Result ℕ Refusal) → outcome_of r ≡ refused n → Closes T out r T.bytes out
  unfolding close_refused
  close_unsound n e r o = let u = unsound T n e in refuses n (rw u.0 (or_first n _ u.1)) u.1 r o

  -- where the table is sound
  module _ (k : Table) (s : Sound T k) where
    published_is : totals_length document01 (opened_in document01 T.bytes) ≡ 6 + 4 * k.published
    published_is = rw s.says (length_same T)

    abbrev checks : ℕ → ℕ
    checks n =
        or_else (check (eqb n 0) 11)
        (or_else (check (leb (least_in document01 T.bytes) (entered_in document01 T.bytes)) 15)
        (check (leb (totals_length document01 (opened_in document01 T.bytes)) (length out)) 14))

    counts_are : (k.least ≡ least_in document01 T.bytes) × (k.entered ≡ entered_in document01 T.bytes)
    unfolding table_of
    counts_are = rw s.says (refl, refl)

    refusal_is : close_refused document01 T (length out) ≡ while_open (stage_in document01 T) (λ ws. checks (length ws))
    unfolding close_refused close_refusal table_state or_else
    refusal_is = rw (not_refused T k s)

    pub close_closed : k.closed ≡ true → Closes T out (Err why.Stage) T.bytes out
    close_closed e = refuses 11 (refusal_is ∙ once_closed T k s _ e) (λ z. omega arith) (Err why.Stage) refl

    pub close_closes : 6 + 4 * k.published ≤ length out → Closable T.bytes k (length out)
    close_closes l = record { limited = s.limited; totals_long = omega (arith, s.long); enough = l }

    -- n returns wait
    module _ (is_open_lem : k.closed ≡ false) (n : ℕ) (e : n ≡ waiting_count T.slots) where
      open_is : close_refused document01 T (length out) ≡ checks n
      open_is = refusal_is ∙ while_open_lem T k s (λ ws. checks (length ws)) is_open_lem ∙ ap checks (waits_count T k s ∙ sym e)

      pub close_waits : (n ≡ 0 → ⊥) → Closes T out (Err why.Stage) T.bytes out
      unfolding or_else
      close_waits z = refuses 11 (open_is ∙ rw (ne_eqb n 0 z)) (λ z. omega arith) (Err why.Stage) refl

      pub close_few : n ≡ 0 → k.entered < k.least → Closes T out (Err why.Few) T.bytes out
      unfolding or_else
      close_few none few =
          let less : leb (least_in document01 T.bytes) (entered_in document01 T.bytes) ≡ false =
          lt-leb (least_in document01 T.bytes) (entered_in document01 T.bytes) (omega (arith, counts_are.0, counts_are.1)) in
          refuses 15 (open_is ∙ rw (eq-eqb n 0 none, less)) (λ z. omega arith) (Err why.Few) refl

      module _ (none : n ≡ 0) (enough : k.least ≤ k.entered) where
        room_is : close_refused document01 T (length out) ≡ check (leb (6 + 4 * k.published) (length out)) 14
        unfolding or_else
        room_is =
            let reached : leb (least_in document01 T.bytes) (entered_in document01 T.bytes) ≡ true =
            le-leb (least_in document01 T.bytes) (entered_in document01 T.bytes) (omega (arith, counts_are.0, counts_are.1)) in
            open_is ∙ rw (eq-eqb n 0 none, reached, published_is)

        pub close_narrow : length out < 6 + 4 * k.published → Closes T out (Err why.Room) T.bytes out
        close_narrow l = refuses 14 (room_is ∙ rw (lt-leb (6 + 4 * k.published) (length out) l)) (λ z. omega arith) (Err why.Room) refl

        message_is : All (λ b. b < 256) T.bytes → close_bytes document01 T ≡ closing_bytes k T.bytes
        message_is each =
            let l : totals_at k.sheet + 4 * k.published ≤ length T.bytes = omega (arith, s.long) in
            rw s.says (message_same T (rw s.says at l) each)

        pub close_done : 6 + 4 * k.published ≤ length out → All (λ b. b < 256) T.bytes
            → Closes T out (Ok (6 + 4 * k.published)) (set T.bytes 1 1) (splice out 0 (closing_bytes k T.bytes))
        unfolding answered only_if close_table
        close_done l each =
            let r : close_refused document01 T (length out) ≡ 0 = room_is ∙ rw (le-leb (6 + 4 * k.published) (length out) l) in
            record {
              answer_is = rw (r, published_is) refl;
              out_is = rw (r, message_is each);
              table_is =
                  ap (λ t. lent t T.slots T.elements) (sets_splice T.bytes 1 (1 ∷ []) (omega (arith, s.long)))
                  ∙ sym (renewed (close_refused document01 T (length out)) (close_table document01 T) T r);
            }
