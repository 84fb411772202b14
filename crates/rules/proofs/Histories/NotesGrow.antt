-- The shares that a ledger notes, decided or waiting: a move rearranges them, or adds one whose id is new. So their ids
-- all differ, they are at most N, and each is still noted at the end. Never more than eight wait. Assumes nothing.
use mathlib.Core.Path.{◌≡◌, refl, sym, ap, ap₂, ◌∙◌, subst}
use mathlib.Core.Logic.{inl, inr}
use mathlib.Core.Bool.{true}
use mathlib.Core.List.{List, [], ◌∷◌, ◌++◌, map, map-append, append_assoc}
use mathlib.Core.Option.{some}
use Prim.Native.Nat.{ℕ, suc, ◌+◌, ◌≤◌, ◌<◌}
use native.Mathlib.Omega.{arith}
use lib.ListN.{length, length-map, length-append}
use Rattle.algebra.specs.Lists.{All, In, Distinct, distinct[], distinct∷, Rearranged}
use Rattle.algebra.proofs.Members.{in_all}
use Rattle.algebra.proofs.Rearrangement.{rearranged_refl, rearranged_sym, rearranged_length}
use Rattle.rules.specs.Settings.{Setting}
use Rattle.rules.specs.Judging.{allowed_pair}
use Rattle.rules.specs.Keyed.{find, without, changed}
use Rattle.rules.specs.Server.{Opened, most_waiting}
use Rattle.rules.specs.Ledger.{Call, Answer, Note, Pending, waits_one, waitsTwo, waitsEntry, note_in, pending_id, waiting, Decided}
use Rattle.rules.specs.Ledger.{Ledger, empty, ids_of, notes_of, sums_noted, accept_noted}
use Rattle.rules.specs.Pools.{notes_in}
use Rattle.rules.proofs.Histories.Shuffled.{rearranged_in, rearranged_distinct, rearranged_before, rearranged_map, to_front}
use Rattle.rules.proofs.Histories.Keyed.{found_out, changed_keeps}
use Rattle.rules.proofs.Histories.Moves.{Moves, stays, notes, sums, accepts, decides, closes, History, over, next, sums_of}

module _ (σ : Setting) (o : Opened) where
  data Grows (ns ms : List Note) : Type 0 where
    same : Rearranged ns ms → Grows ns ms
    more : (n : Note) → Rearranged (n ∷ ns) ms → length ns < o.returns → (In n.id (ids_of ns) → ⊥)
        → n.id < 4294967296 → allowed_pair σ o.columns n.r n.s ≡ true → All (λ x. x < σ.modulus) n.elements
        → Grows ns ms

  pub keeps_note : (d e : ℕ) (p : Pending) → note_in (sums_noted σ o d e p) ≡ note_in p
  unfolding sums_noted
  keeps_note d e (waits_one n) = refl
  keeps_note d e (waitsTwo n x y) = refl
  keeps_note d e (waitsEntry n x y) = refl

  pub accept_keeps_note : (p : Pending) → note_in (accept_noted σ o p) ≡ note_in p
  unfolding accept_noted
  accept_keeps_note (waits_one n) = refl
  accept_keeps_note (waitsTwo n x y) = refl
  accept_keeps_note (waitsEntry n x y) = refl

  pub keeps_id : (joined : List ℕ) (p : Pending) → pending_id (sums_of σ o joined p) ≡ pending_id p
  keeps_id joined p = ap (λ (n : Note). n.id) (keeps_note _ _ p)

  pub accept_keeps_id : (p : Pending) → pending_id (accept_noted σ o p) ≡ pending_id p
  accept_keeps_id p = ap (λ (n : Note). n.id) (accept_keeps_note p)

  -- a return that is decided stays noted
  decided_same : (ws : List Pending) (ds : List Decided) (id : ℕ) (p : Pending) (k : Decided) → k.note ≡ note_in p
      → find pending_id id ws ≡ some p
      → Rearranged (notes_of ds ++ map note_in ws) (notes_of (ds ++ (k ∷ [])) ++ map note_in (without pending_id id ws))
  decided_same ws ds id p k e q =
      let rest : List Note = map note_in (without pending_id id ws) in
      let is : notes_of (ds ++ (k ∷ [])) ++ rest ≡ notes_of ds ++ (note_in p ∷ rest) =
      ap (λ (v : List Note). v ++ rest) (map-append (λ (v : Decided). v.note) ds (k ∷ []))
      ∙ append_assoc (notes_of ds) (k.note ∷ []) rest
      ∙ ap (λ (v : Note). notes_of ds ++ (v ∷ rest)) e in
      subst (Rearranged (notes_of ds ++ map note_in ws)) (sym is)
      (rearranged_before (notes_of ds) (rearranged_sym (rearranged_map note_in (found_out pending_id id ws p q))))

  -- a return that is changed too
  changed_same : (ws : List Pending) (ds : List Decided) (id : ℕ) (f : Pending → Pending) → ((p : Pending) → note_in (f p) ≡ note_in p)
      → Rearranged (notes_of ds ++ map note_in ws) (notes_of ds ++ map note_in (changed pending_id id f ws))
  changed_same ws ds id f keeps =
      subst (λ (v : List Note). Rearranged (notes_of ds ++ map note_in ws) (notes_of ds ++ v))
      (sym (changed_keeps pending_id id note_in f keeps ws)) (rearranged_refl _)

  grows : {l l' : Ledger} {c : Call} {a : Answer} {h : List (List ℕ)} → Moves σ o l c a h l' → Grows (notes_in l) (notes_in l')
  unfolding notes_in
  grows (stays l n) = same (rearranged_refl _)
  grows (notes ws ds n t) =
      let many : length (notes_of ds ++ map note_in ws) ≡ length ds + length ws =
      length-append (notes_of ds) (map note_in ws) ∙ ap₂ (λ (x y : ℕ). x + y) (length-map ds (λ k. k.note)) (length-map ws note_in) in
      more n (to_front n (notes_of ds) (map note_in ws)) (omega (arith, t.room)) t.unused t.id_fits t.pair t.below
  grows (sums ws ds id n joined q s) = same (changed_same ws ds id (sums_of σ o joined) (keeps_note _ _))
  grows (accepts ws ds id n x y joined q s z) = same (changed_same ws ds id (accept_noted σ o) accept_keeps_note)
  grows (decides ws ds id p d q s) = same (decided_same ws ds id p _ refl q)
  grows (closes ds q) = same (rearranged_refl _)

  -- what holds of the shares noted
  pub record Sound (ns : List Note) : Type 0 where
    pub apart : Distinct (ids_of ns)
    pub few : length ns ≤ o.returns
    pub ids_fit : (n : Note) → In n ns → n.id < 4294967296
    pub pairs : (n : Note) → In n ns → allowed_pair σ o.columns n.r n.s ≡ true
    pub below : (n : Note) → In n ns → All (λ x. x < σ.modulus) n.elements

  -- what holds of the first and of the others
  of_each : (P : Note → Type 0) (ns : List Note) (n : Note) → ((v : Note) → In v ns → P v) → P n
      → (v : Note) → In v (n ∷ ns) → P v
  of_each P ns n f p v (inl e) = subst P e p
  of_each P ns n f p v (inr k) = f v k

  sound_rearranged : {ns ms : List Note} → Rearranged ns ms → Sound ns → Sound ms
  sound_rearranged e s = record {
    apart = rearranged_distinct (rearranged_map (λ (n : Note). n.id) e) s.apart;
    few = subst (λ (k : ℕ). k ≤ o.returns) (rearranged_length e) s.few;
    ids_fit = λ n h. s.ids_fit n (rearranged_in n (rearranged_sym e) h);
    pairs = λ n h. s.pairs n (rearranged_in n (rearranged_sym e) h);
    below = λ n h. s.below n (rearranged_in n (rearranged_sym e) h);
  }

  sound_step : {ns ms : List Note} → Grows ns ms → Sound ns → Sound ms
  sound_step (same e) s = sound_rearranged e s
  sound_step {ns} (more n e l fresh fits pair low) s = sound_rearranged e (record {
    apart = distinct∷ (in_all (ids_of ns) (λ x h q. fresh (subst (λ (v : ℕ). In v (ids_of ns)) q h))) s.apart;
    few = omega arith;
    ids_fit = of_each (λ v. v.id < 4294967296) ns n s.ids_fit fits;
    pairs = of_each (λ v. allowed_pair σ o.columns v.r v.s ≡ true) ns n s.pairs pair;
    below = of_each (λ v. All (λ x. x < σ.modulus) v.elements) ns n s.below low;
  })

  keeps_step : {ns ms : List Note} → Grows ns ms → (n : Note) → In n ns → In n ms
  keeps_step (same e) n h = rearranged_in n e h
  keeps_step (more m e l fresh fits pair low) n h = rearranged_in n e (inr h)

  pub keeps_notes : {l l' : Ledger} {xs : List Answer} {hs : List (List ℕ)} → History σ o l xs hs l'
      → (n : Note) → In n (notes_in l) → In n (notes_in l')
  keeps_notes (over l) n h = h
  keeps_notes (next m r) n h = keeps_notes r n (keeps_step (grows m) n h)

  sound_on : {l l' : Ledger} {xs : List Answer} {hs : List (List ℕ)} → History σ o l xs hs l'
      → Sound (notes_in l) → Sound (notes_in l')
  sound_on (over l) s = s
  sound_on (next m r) s = sound_on r (sound_step (grows m) s)

  pub sound_notes : {l : Ledger} {xs : List Answer} {hs : List (List ℕ)} → History σ o empty xs hs l → Sound (notes_in l)
  unfolding notes_in
  sound_notes r = sound_on r (record {
    apart = distinct[];
    few = omega arith;
    ids_fit = λ n h. absurd h;
    pairs = λ n h. absurd h;
    below = λ n h. absurd h;
  })

  -- ---- never more than eight wait
  pub as_many : (ws : List Pending) (id : ℕ) (f : Pending → Pending) → ((p : Pending) → note_in (f p) ≡ note_in p)
      → length (changed pending_id id f ws) ≡ length ws
  as_many ws id f keeps =
      sym (length-map (changed pending_id id f ws) note_in)
      ∙ ap length (changed_keeps pending_id id note_in f keeps ws)
      ∙ length-map ws note_in

  eight_step : {l l' : Ledger} {c : Call} {a : Answer} {h : List (List ℕ)} → Moves σ o l c a h l'
      → length (waiting l.progress) ≤ most_waiting → length (waiting l'.progress) ≤ most_waiting
  eight_step (stays l n) e = e
  eight_step (notes ws ds n t) e = omega (arith, t.below_eight)
  eight_step (sums ws ds id n joined q s) e = omega (arith, as_many ws id (sums_of σ o joined) (keeps_note _ _))
  eight_step (accepts ws ds id n x y joined q s z) e = omega (arith, as_many ws id (accept_noted σ o) accept_keeps_note)
  eight_step (decides ws ds id p d q s) e =
      let many : suc (length (without pending_id id ws)) ≡ length ws = rearranged_length (found_out pending_id id ws p q) in
      omega arith
  eight_step (closes ds q) e = omega arith

  pub eight_on : {l l' : Ledger} {xs : List Answer} {hs : List (List ℕ)} → History σ o l xs hs l'
      → length (waiting l.progress) ≤ most_waiting → length (waiting l'.progress) ≤ most_waiting
  eight_on (over l) e = e
  eight_on (next m r) e = eight_on r (eight_step m e)
