-- A share that is taken: its record, the numbers of its place and the round message are those of what was worked out. What
-- judging gives is what rules note, by unfolding both, and the elements with two numbers behind them are one run (`grow`).
-- Assumes nothing.
use mathlib.Core.Path.{◌≡◌, refl, sym, ap, ◌∙◌}
use mathlib.Core.List.{List, [], ◌∷◌, ◌++◌}
use Prim.Native.Nat.{ℕ, ◌+◌, ◌-◌, ◌*◌}
use native.Mathlib.Omega.{arith}
use lib.ListN.{length, take, drop}
use Rattle.words.specs.Bytes.{splice}
use Rattle.words.proofs.Loops.{grow}
use Rattle.slots.specs.declared.Slot.{Slot}
use Rattle.slots.specs.declared.Change.{Change}
use Rattle.rules.specs.Settings.{document01}
use Rattle.rules.specs.Judging.{share_size}
use Rattle.rules.specs.Making.{message}
use Rattle.rules.specs.Messages.{id_in, share_in}
use Rattle.rules.specs.Server.{waiting_of, message_one}
use Rattle.rules.specs.WaitingList.{stage_one, free_place, slot_of, numbers_of, put_numbers}
use Rattle.rules.specs.Table.{Lent, columns_at, share_taken, share_bytes}
use Rattle.share_message.specs.Shares.{share_at}
use Rattle.share_message.proofs.Shares.{share_is}
use Rattle.snip.specs.Judged.{judged_of}
use Rattle.snip.specs.declared.judging.Judged.{Judged}
use Rattle.limits.specs.Sheets.{size_of}
use Rattle.layout.specs.Places.{place_size_of}
use Rattle.layout.specs.Numbers.{table_of}
use Rattle.layout.specs.declared.Table.{Table}
use Rattle.waiting.specs.Changes.{records_at}
use Rattle.shares.specs.Taking.{Takable, Takes}
use Rattle.shares.proofs.Working.{Place, within, brought_long, place_reads}

-- the record of the return, and the numbers of its place, with what was worked out
abbrev pub slot_with : ℕ → ℕ → ℕ → Judged → Slot
slot_with id r s j = record { id = id; stage = 1; r = r; s = s; d = j.d; e = j.e }

abbrev numbers_with : List ℕ → Judged → List ℕ
numbers_with xs j = xs ++ (j.rh ∷ j.tau ∷ [])

-- the message of round one
abbrev message_with : ℕ → ℕ → ℕ → ℕ → Judged → List ℕ
message_with id own r s j = message document01 34 id own (j.d ∷ j.e ∷ r ∷ s ∷ [])

-- what rules write, by the numbers of code
module _ (T : Lent) (m : List ℕ) (r s : ℕ) where
  -- the elements that the message brings
  abbrev brought : List ℕ
  brought = share_in document01 (columns_at document01 T) m

  abbrev noted : Table → Judged
  noted k = judged_of (columns_at document01 T) k.own brought r s

  abbrev k₀ : Table
  k₀ = table_of T.bytes

  record_at : slot_with (id_in m) r s (noted k₀) ≡ slot_of stage_one (share_taken document01 T m r s)
  unfolding waiting_of table_of
  record_at = refl

  numbers_at_lem : splice T.elements (place_size_of k₀.entries k₀.gates * free_place T.slots)
      (numbers_with brought (noted k₀))
      ≡ put_numbers (columns_at document01 T) T.elements (free_place T.slots)
      (numbers_of (share_taken document01 T m r s))
  unfolding waiting_of table_of share_size
  numbers_at_lem = refl

  message_at_lem : message_with (id_in m) k₀.own r s (noted k₀) ≡ share_bytes document01 T m r s
  unfolding share_bytes message_one waiting_of table_of
  message_at_lem = refl

-- what the code writes: es are the numbers once the elements are read, es' at the end
module _ (T : Lent) (k : Table) (m x : List ℕ) (r s : ℕ) (h : Takable T k m x r s) {i z n : ℕ} (q : Place T k i z n)
    (id : ℕ) (ei : id ≡ id_in m) (es : List ℕ) (e : es ≡ splice T.elements (z * i) (share_at n m)) (j : Judged)
    (ej : j ≡ judged_of (columns_at document01 T) k.own (take (z * i + n - z * i) (drop (z * i) es)) r s) where
  brought_is : share_at (size_of k.entries k.gates) m ≡ brought T m r s
  unfolding table_of share_size
  brought_is = rw h.table.says (sym (share_is (columns_at document01 T) m))

  judged_is : j ≡ noted T m r s k
  judged_is = rw (place_reads T k m x r s h q es e, brought_is) at ej

  record_written : records_at i (slot_with id r s j)
      ≡ records_at (free_place T.slots) (slot_of stage_one (share_taken document01 T m r s))
  record_written =
      rw (q.record_is, ei, judged_is, h.table.says) (ap (records_at (free_place T.slots)) (record_at T m r s))

  numbers_written : splice es (z * i + n) (j.rh ∷ j.tau ∷ [])
      ≡ put_numbers (columns_at document01 T) T.elements (free_place T.slots)
      (numbers_of (share_taken document01 T m r s))
  numbers_written =
      let l : length (share_at n m) ≡ n = brought_long T k m x r s h q in
      ap (λ (u : List ℕ). splice u (z * i + n) (j.rh ∷ j.tau ∷ [])) e
      ∙ grow T.elements (z * i) (share_at n m) (j.rh ∷ j.tau ∷ []) n l (omega (arith, within T k m x r s h q))
      ∙ rw (q.place_is, q.record_is, q.size_is, brought_is, judged_is, h.table.says) (numbers_at_lem T m r s)

  message_written : message_with id k.own r s j ≡ share_bytes document01 T m r s
  message_written = rw (ei, judged_is, h.table.says) (message_at_lem T m r s)

  pub taken : (out es' out' : List ℕ) (c : Change) → es' ≡ splice es (z * i + n) (j.rh ∷ j.tau ∷ [])
      → out' ≡ splice out 0 (message_with id k.own r s j) → c ≡ records_at i (slot_with id r s j)
      → Takes T m r s out c es' out'
  taken out es' out' c a b d = record {
    record_is = d ∙ record_written;
    numbers_is = a ∙ numbers_written;
    out_is = b ∙ ap (splice out 0) message_written;
  }
