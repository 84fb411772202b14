-- The refusal of a share by a sound table is the first of the code's checks: the stage stands first (`open_first`), the ids
-- decided and the returns that wait are as many as the counts say, an id is among them where it is decided or has a record
-- (`taken_is`), and the rest is rules' order. Assumes nothing.
use mathlib.Core.Path.{◌≡◌, refl, sym, ap, ◌∙◌}
use mathlib.Core.Bool.{Bool, true, false, not, cond, ◌||◌}
use mathlib.Core.List.{List, [], ◌∷◌, ◌++◌, map}
use Prim.Native.Nat.{ℕ, ◌+◌, ◌*◌, ◌/◌, ◌≤◌}
use native.Mathlib.Nat.{mul-div_right}
use native.Mathlib.Omega.{arith}
use lib.Dec.{eqb, ltb, lit<}
use lib.ListN.{length}
use Rattle.words.specs.Bytes.{part, elements_of}
use Rattle.words.proofs.Splice.{length_part}
use Rattle.words.proofs.Elements.{length_elements}
use Rattle.records.specs.Outcome.{or_else}
use Rattle.records.proofs.Outcome.{or_none, or_first, or_assoc, or_zero}
use Rattle.slots.specs.declared.Slot.{Slot}
use Rattle.rules.specs.Settings.{document01}
use Rattle.rules.specs.Judging.{share_size, allowed_pair}
use Rattle.rules.specs.Server.{Wait, takes, closed, held_id, is_member, while_open, share_refusal}
use Rattle.rules.specs.WaitingList.{place_of, waiting_count, waits_in}
use Rattle.rules.specs.Table.{stage_byte, ids_in, decided_in, stage_in, table_state, columns_in, own_in, ids_place}
use Rattle.rules.specs.Messages.{id_in, elements_fault}
use Rattle.rules.proofs.Waiting.Records.{count_waits, member_place}
use Rattle.share_message.specs.Shares.{header_fault_at}
use Rattle.share_message.proofs.Shares.{header_fault_lem, share_is, header_long}
use Rattle.limits.specs.Sheets.{size_of, pair_sound}
use Rattle.layout.specs.Places.{ids_at}
use Rattle.layout.specs.Numbers.{table_of}
use Rattle.layout.specs.declared.Table.{Table}
use Rattle.waiting.specs.Changes.{lent}
use Rattle.share_checks.specs.Checks.{start_fault, message_fault, is_taken, last_fault, Standing, Fitting}

-- the stage and the first two checks, then the others
open_first : (b : Bool) (ws : List Wait) (f : List Wait → ℕ) → while_open (cond b (takes ws) closed) f ≡ cond b (f ws) 11
unfolding while_open
open_first true ws f = refl
open_first false ws f = refl

two_first : (b : Bool) (x y z : ℕ) → cond b (or_else x (or_else y z)) 11 ≡ or_else (cond (not b) 11 (or_else x y)) z
unfolding or_else
two_first true x y z = sym (or_assoc x y z)
two_first false x y z = refl

-- n ids from place a
ids_counted : (T : List ℕ) (a n : ℕ) → a + 4 * n ≤ length T → length (elements_of 4 (part a (4 * n) T)) ≡ n
ids_counted T a n h =
    length_elements 4 (part a (4 * n) T) ∙ ap (λ (x : ℕ). x / 4) (length_part a (4 * n) T h) ∙ mul-div_right n (lit< tt)

-- a member of two lists
member_append : (x : ℕ) (xs ys : List ℕ) → is_member x (xs ++ ys) ≡ is_member x xs || is_member x ys
unfolding is_member
member_append x [] ys = refl
member_append x (y ∷ xs) ys = go (eqb y x) (member_append x xs ys)
  where
    go : (b : Bool) → is_member x (xs ++ ys) ≡ is_member x xs || is_member x ys
        → b || is_member x (xs ++ ys) ≡ (b || is_member x xs) || is_member x ys
    go true e = refl
    go false e = e

module _ (t : List ℕ) (list : List Slot) (m : List ℕ) (r s room : ℕ) where
  abbrev pub in_order : Table → ℕ
  in_order k =
      or_else (start_fault k (waiting_count list))
      (or_else (message_fault (size_of k.entries k.gates) k.own m) (last_fault t k list m r s room))

  -- whatever the numbers are
  module _ (es : List ℕ) where
    abbrev pub by_rules : ℕ
    by_rules = share_refusal document01 (table_state document01 (lent t list es)) m r s room

    abbrev waits : List Wait
    waits = waits_in (columns_in document01 t) list es

    taken_is : length list ≡ 8 → (id : ℕ)
        → is_member id (ids_in document01 t ++ map held_id waits) ≡ is_taken t (table_of t) list id
    unfolding is_taken table_of ids_place
    taken_is e id =
        member_append id (ids_in document01 t) (map held_id waits)
        ∙ ap (λ (b : Bool). is_member id (ids_in document01 t) || b)
        (member_place (columns_in document01 t) id list es ∙ ap (ltb (place_of id list)) e)

    refusal_at_lem : Standing t (table_of t) list → by_rules ≡ in_order (table_of t)
    unfolding share_refusal elements_fault table_state stage_in table_of start_fault message_fault last_fault ids_place allowed_pair pair_sound
        share_size
    refusal_at_lem h =
        let a = ids_at (table_of t).sheet (table_of t).published in
        let l : a + 4 * decided_in document01 t ≤ length t = omega (arith, h.long, h.decided_few) in
        let n : length (ids_in document01 t) ≡ decided_in document01 t = ids_counted t a (decided_in document01 t) l in
        open_first (eqb (stage_byte document01 t) 0) waits _
        ∙ two_first (eqb (stage_byte document01 t) 0) _ _ _
        ∙ rw (
          count_waits (columns_in document01 t) list es,
          n,
          header_fault_lem (columns_in document01 t) (own_in document01 t) m,
          share_is (columns_in document01 t) m,
          taken_is h.eight (id_in m),
          or_assoc,
        )

    pub refusal_in_order_lem : (k : Table) → Standing t k list → by_rules ≡ in_order k
    refusal_in_order_lem k h = rw h.says (refusal_at_lem (rw h.says at h))

  -- in the numbers of the code: w returns wait, a share has z elements
  module _ (k : Table) (h : Standing t k list) (w z : ℕ) (ew : w ≡ waiting_count list) (ez : z ≡ size_of k.entries k.gates) where
    pub in_turn_lem : (es : List ℕ)
        → or_else (start_fault k w) (or_else (message_fault z k.own m) (last_fault t k list m r s room)) ≡ by_rules es
    in_turn_lem es = sym (refusal_in_order_lem es k h ∙ rw (ew, ez))

    pub fitting : 0 ≡ message_fault z k.own m → Fitting t k list m
    unfolding message_fault
    fitting e =
        let f = or_zero (header_fault_at z k.own m) _ (sym e) in
        record { table = h; header = omega (arith, header_long z k.own m f.0) }
