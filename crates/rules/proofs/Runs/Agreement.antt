-- Where messages are unaltered, those that were handed in without refusal are a function of the shares noted: each was written by
-- the server that it names, for its round and id, ids differ, and each server is named once. So the sums, and the verdict, are the
-- same at every server that judges a return to the end. Assumes that messages are unaltered.
use mathlib.Core.Path.{◌≡◌, sym, ap, ap₂, ◌∙◌, subst}
use mathlib.Core.Bool.{Bool, ◌&&◌}
use mathlib.Core.List.{List, [], ◌∷◌}
use Prim.Native.Nat.{ℕ, ◌<◌}
use native.Mathlib.Omega.{arith}
use lib.Dec.{eqb}
use lib.ListN.{get_or}
use Rattle.algebra.specs.Lists.{In, Distinct, count_from}
use Rattle.algebra.specs.Modulo.{modulo}
use Rattle.algebra.specs.Sums.{sum}
use Rattle.algebra.proofs.Members.{of_map, in_count, count_in_lem}
use Rattle.algebra.proofs.Rearrangement.{rearranged_sym}
use Rattle.algebra.proofs.Sums.{sum_ext}
use Rattle.rules.specs.Settings.{Setting, Facts}
use Rattle.rules.specs.Messages.{kind_in, id_in, elements_in, place_in, server_at, element_sum, first_sum, second_sum, both_zero}
use Rattle.rules.specs.Server.{Opened, Waiting, waiting_of, sigma_in, message_one, message_two, with_sums}
use Rattle.rules.specs.Ledger.{Call, round_two, Note, Ledger, empty, ids_of, noted, second_answer, refusal_of, run_ledger}
use Rattle.rules.specs.Pools.{Pool, columns, opened_at, ledger_at, answers_at, note_under, call_messages, handed_in, notes_at}
use Rattle.rules.specs.Pools.{Unaltered, JudgedToEnd}
use Rattle.rules.proofs.Histories.JoinedRuns.{IsOf, Joined, JoinedOne, sum_order}
use Rattle.rules.proofs.Histories.Shuffled.{rearranged_in}
use Rattle.rules.proofs.Histories.Keyed.{under_in}
use Rattle.rules.proofs.Histories.Moves.{History, history}
use Rattle.rules.proofs.Histories.NotesGrow.{Sound, sound_notes}
use Rattle.rules.proofs.Histories.Origins.{Handed, handed_here, Origin, of_share, of_one, of_close, origin}
use Rattle.rules.proofs.Histories.Summing.{SummedOn, handed_at, two_taken}
use Rattle.rules.proofs.Histories.Judged.{verdict_taken}
use Rattle.rules.proofs.Histories.OwnMessages.{kind_one, id_one, elements_one, kind_two, id_two, elements_two}
use Rattle.rules.proofs.Histories.OwnMessages.{id_noted, kind_closing, pair_below, d_below, e_below, tau_below}

-- the share under an id is the one that was noted
pub note_under_in : (n : Note) (ns : List Note) → Distinct (ids_of ns) → In n ns → note_under n.id ns ≡ n
unfolding note_under
note_under_in n ns d h = under_in (λ (v : Note). v.id) _ n ns d h

module _ (σ : Setting) (𝓟 : Pool σ) where
  -- the share that server q noted under an id, and what it comes to in both rounds
  abbrev pub share_at : ℕ → ℕ → Note
  share_at id q = note_under id (notes_at σ 𝓟 q)

  abbrev pub first_at : ℕ → ℕ → Waiting
  first_at id q = noted σ (opened_at σ 𝓟 q) (share_at id q)

  abbrev pub d_all : ℕ → ℕ
  d_all id = sum (modulo σ.modulus) 𝓟.servers (λ q. (first_at id q).d)

  abbrev pub e_all : ℕ → ℕ
  e_all id = sum (modulo σ.modulus) 𝓟.servers (λ q. (first_at id q).e)

  abbrev pub second_at : ℕ → ℕ → Waiting
  second_at id q = with_sums (first_at id q) (d_all id) (e_all id)

  abbrev pub sigma_all : ℕ → ℕ
  sigma_all id = sum (modulo σ.modulus) 𝓟.servers (λ q. sigma_in σ (opened_at σ 𝓟 q) (second_at id q))

  abbrev pub tau_all : ℕ → ℕ
  tau_all id = sum (modulo σ.modulus) 𝓟.servers (λ q. (first_at id q).tau)

  -- the verdict that the shares noted under an id give
  abbrev pub verdict_all : ℕ → Bool
  verdict_all id = eqb (sigma_all id) 0 && eqb (tau_all id) 0

  -- server q took round one on an id
  abbrev pub Summed : ℕ → ℕ → Type 0
  Summed id q = SummedOn σ (opened_at σ 𝓟 q) (handed_in σ (opened_at σ 𝓟 q) empty (𝓟.calls q)) id

  -- server q noted a share under the id
  pub record Noted (id q : ℕ) : Type 0 where
    pub is_in : In (share_at id q) (notes_at σ 𝓟 q)
    pub has_id : (share_at id q).id ≡ id

  pub history_at : (i : ℕ) → i < 𝓟.servers
      → History σ (opened_at σ 𝓟 i) empty (answers_at σ 𝓟 i) (handed_in σ (opened_at σ 𝓟 i) empty (𝓟.calls i)) (ledger_at σ 𝓟 i)
  history_at i h = history σ (opened_at σ 𝓟 i) empty (𝓟.calls i) (𝓟.call_bytes i h)

  pub sound_at_lem : (i : ℕ) → i < 𝓟.servers → Sound σ (opened_at σ 𝓟 i) (notes_at σ 𝓟 i)
  sound_at_lem i h = sound_notes σ (opened_at σ 𝓟 i) (history_at i h)

  pub found : (id q : ℕ) → q < 𝓟.servers → (n : Note) → In n (notes_at σ 𝓟 q) → n.id ≡ id → share_at id q ≡ n
  found id q b n h e = subst (λ (v : ℕ). share_at v q ≡ n) e (note_under_in n (notes_at σ 𝓟 q) (sound_at_lem q b).apart h)

  is_noted : (id q : ℕ) → q < 𝓟.servers → (n : Note) → In n (notes_at σ 𝓟 q) → n.id ≡ id → Noted id q
  is_noted id q b n h e =
      let f : share_at id q ≡ n = found id q b n h e in
      record { is_in = subst (λ (v : Note). In v (notes_at σ 𝓟 q)) (sym f) h; has_id = ap (λ (v : Note). v.id) f ∙ e }

  module _ (facts : Facts σ) (𝓤 : Unaltered σ 𝓟) where
    abbrev pub HandedAt : ℕ → ℕ → List ℕ → Type 0
    HandedAt i = Handed σ (opened_at σ 𝓟 i) (handed_in σ (opened_at σ 𝓟 i) empty (𝓟.calls i))

    abbrev OriginAt : ℕ → List ℕ → Type 0
    OriginAt q m = Origin σ (opened_at σ 𝓟 q) (notes_at σ 𝓟 q) (handed_in σ (opened_at σ 𝓟 q) empty (𝓟.calls q)) m

    -- the message at a place was written by the server that it names
    origin_at : (i j : ℕ) → i < 𝓟.servers → j < 𝓟.servers → (kind : ℕ) (joined : List ℕ) → HandedAt i kind joined
        → server_at σ kind joined j < 𝓟.servers → OriginAt (server_at σ kind joined j) (place_in σ kind joined j)
    origin_at i j l b kind joined h c =
        let q = server_at σ kind joined j in
        origin σ (opened_at σ 𝓟 q) (history_at q c) (place_in σ kind joined j) (𝓤 i l (place_in σ kind joined j) (h j b))

    -- ---- round one
    -- the elements of server q's message under an id
    abbrev one_elements : ℕ → ℕ → List ℕ
    one_elements id q = (first_at id q).d ∷ (first_at id q).e ∷ (share_at id q).r ∷ (share_at id q).s ∷ []

    pub record First (m : List ℕ) (id q : ℕ) : Type 0 where
      pub says : elements_in σ m ≡ one_elements id q
      pub of : Noted id q

    first_says : (q : ℕ) → q < 𝓟.servers → (id : ℕ) → Noted id q
        → elements_in σ (message_one σ (opened_at σ 𝓟 q) (first_at id q)) ≡ one_elements id q
    unfolding waiting_of
    first_says q b id n =
        let o = opened_at σ 𝓟 q in
        let v : Note = share_at id q in
        let low = pair_below σ (columns σ 𝓟) v.r v.s ((sound_at_lem q b).pairs v n.is_in) in
        elements_one σ facts o (first_at id q) (d_below σ facts o v) (e_below σ facts o v) low.0 low.1

    first_of : (q : ℕ) → q < 𝓟.servers → (id : ℕ) (m : List ℕ) → IsOf 𝓟.servers 34 id m → OriginAt q m → First m id q
    first_of q b id m f (of_share n a e) =
        let o = opened_at σ 𝓟 q in
        let r : id_in (message_one σ o (noted σ o n)) ≡ (noted σ o n).id =
        id_one σ o (noted σ o n) (rw (id_noted σ o n) ((sound_at_lem q b).ids_fit n a)) in
        let same : n.id ≡ id = sym (id_noted σ o n) ∙ sym r ∙ ap id_in (sym e) ∙ f.id_is in
        let is : m ≡ message_one σ o (first_at id q) =
        e ∙ ap (λ (v : Note). message_one σ o (noted σ o v)) (sym (found id q b n a same)) in
        let here : Noted id q = is_noted id q b n a same in
        record { says = ap (elements_in σ) is ∙ first_says q b id here; of = here }
    first_of q b id m f (of_one n a k h s e) =
        let z : kind_in m ≡ 35 = ap kind_in e ∙ kind_two σ (opened_at σ 𝓟 q) _ in
        absurd (omega (arith, f.kind_is))
    first_of q b id m f (of_close l e) =
        let z : kind_in m ≡ σ.totals_byte = ap kind_in e ∙ kind_closing σ (opened_at σ 𝓟 q) l in
        absurd (omega (arith, f.kind_is, facts.apart))

    module _ (i : ℕ) (l : i < 𝓟.servers) (id : ℕ) (joined : List ℕ) (h : HandedAt i 34 joined)
        (s : Joined σ 𝓟.servers 34 id joined) where
      abbrev named : ℕ → ℕ
      named = server_at σ 34 joined

      pub place_one : (j : ℕ) → j < 𝓟.servers → First (place_in σ 34 joined j) id (named j)
      place_one j b =
          let c : named j < 𝓟.servers = (s.is_of_round j b).is_one in
          first_of (named j) c id (place_in σ 34 joined j) (s.is_of_round j b) (origin_at i j l b 34 joined h c)

      -- a sum over the places, by the servers that they name
      one_sum : (k : ℕ) → element_sum σ k 34 𝓟.servers joined
          ≡ sum (modulo σ.modulus) 𝓟.servers (λ q. get_or (one_elements id q) k 0)
      unfolding element_sum
      one_sum k =
          sum_ext (modulo σ.modulus) 𝓟.servers _ (λ j. get_or (one_elements id (named j)) k 0)
          (λ j b. ap (λ (v : List ℕ). get_or v k 0) (place_one j b).says)
          ∙ sum_order σ.modulus 𝓟.servers named (λ q. get_or (one_elements id q) k 0) s.each_once

    -- ---- round two
    -- server q took round one under the id, and this is what it wrote then
    record Second (m : List ℕ) (id q : ℕ) : Type 0 where
      says : elements_in σ m ≡ sigma_in σ (opened_at σ 𝓟 q) (second_at id q) ∷ (first_at id q).tau ∷ []
      of : Noted id q
      took : Summed id q

    second_of : (q : ℕ) → q < 𝓟.servers → (id : ℕ) (m : List ℕ) → IsOf 𝓟.servers 35 id m → OriginAt q m → Second m id q
    second_of q b id m f (of_share n a e) =
        let z : kind_in m ≡ 34 = ap kind_in e ∙ kind_one σ (opened_at σ 𝓟 q) _ in
        absurd (omega (arith, f.kind_is))
    second_of q b id m f (of_one n a k h s e) =
        let o = opened_at σ 𝓟 q in
        let w = with_sums (noted σ o n) (first_sum σ 34 𝓟.servers k) (second_sum σ 34 𝓟.servers k) in
        let r : id_in (second_answer σ o n k) ≡ w.id =
        id_two σ o w (rw (id_noted σ o n) ((sound_at_lem q b).ids_fit n a)) in
        let same : n.id ≡ id = sym (id_noted σ o n) ∙ sym r ∙ ap id_in (sym e) ∙ f.id_is in
        let s' : JoinedOne σ 𝓟.servers id k = subst (λ (v : ℕ). JoinedOne σ 𝓟.servers v k) same s in
        let is : m ≡ message_two σ o (second_at id q) =
        e
        ∙ ap₂ (λ (x y : ℕ). message_two σ o (with_sums (noted σ o n) x y)) (one_sum q b id k h s'.each 0) (one_sum q b id k h s'.each 1)
        ∙ ap (λ (v : Note). message_two σ o (with_sums (noted σ o v) (d_all id) (e_all id))) (sym (found id q b n a same)) in
        record {
          says = ap (elements_in σ) is ∙ elements_two σ facts o (second_at id q) (tau_below σ facts o (share_at id q));
          of = is_noted id q b n a same;
          took = record { joined = k; handed = h; sound = s' };
        }
    second_of q b id m f (of_close l e) =
        let z : kind_in m ≡ σ.totals_byte = ap kind_in e ∙ kind_closing σ (opened_at σ 𝓟 q) l in
        absurd (omega (arith, f.kind_is, facts.apart))

    module _ (i : ℕ) (l : i < 𝓟.servers) (id : ℕ) (joined : List ℕ) (h : HandedAt i 35 joined)
        (s : Joined σ 𝓟.servers 35 id joined) where
      abbrev named₂ : ℕ → ℕ
      named₂ = server_at σ 35 joined

      place_two : (j : ℕ) → j < 𝓟.servers → Second (place_in σ 35 joined j) id (named₂ j)
      place_two j b =
          let c : named₂ j < 𝓟.servers = (s.is_of_round j b).is_one in
          second_of (named₂ j) c id (place_in σ 35 joined j) (s.is_of_round j b) (origin_at i j l b 35 joined h c)

      abbrev two_elements : ℕ → List ℕ
      two_elements q = sigma_in σ (opened_at σ 𝓟 q) (second_at id q) ∷ (first_at id q).tau ∷ []

      two_sum : (k : ℕ) → element_sum σ k 35 𝓟.servers joined ≡ sum (modulo σ.modulus) 𝓟.servers (λ q. get_or (two_elements q) k 0)
      unfolding element_sum
      two_sum k =
          sum_ext (modulo σ.modulus) 𝓟.servers _ (λ j. get_or (two_elements (named₂ j)) k 0)
          (λ j b. ap (λ (v : List ℕ). get_or v k 0) (place_two j b).says)
          ∙ sum_order σ.modulus 𝓟.servers named₂ (λ q. get_or (two_elements q) k 0) s.each_once

      both_zero_lem : both_zero σ 𝓟.servers joined ≡ verdict_all id
      unfolding both_zero
      both_zero_lem = ap₂ (λ (x y : ℕ). eqb x 0 && eqb y 0) (two_sum 0) (two_sum 1)

      -- each server is named at some place
      pub second_at_lem : (q : ℕ) → q < 𝓟.servers → Noted id q × Summed id q
      second_at_lem q b =
          let place = of_map named₂ q (count_from 0 𝓟.servers)
          (rearranged_in q (rearranged_sym s.each_once) (count_in_lem 0 𝓟.servers q (omega arith) (omega arith))) in
          let within = in_count 0 𝓟.servers place.0 place.1 in
          let two = place_two place.0 (omega arith) in
          subst (λ (v : ℕ). Noted id v × Summed id v) place.2 (two.of, two.took)

    -- ---- a return judged to the end
    module _ (i : ℕ) (l : i < 𝓟.servers) (id : ℕ) (v : Bool) (k : JudgedToEnd σ 𝓟 i id v) where
      abbrev o : Opened
      o = opened_at σ 𝓟 i

      abbrev there : Ledger
      there = run_ledger σ o empty k.by.before

      abbrev two : Call
      two = round_two id k.joined

      taken : (refusal_of σ o there two ≡ 0) × (both_zero σ 𝓟.servers k.joined ≡ v)
      taken = verdict_taken σ o there id k.joined v k.by.answered

      handed : HandedAt i 35 k.joined
      unfolding call_messages
      handed j b =
          subst (λ (cs : List Call). In (place_in σ 35 k.joined j) (handed_in σ o empty cs)) (sym k.by.among)
          (handed_at σ o two empty k.by.before k.by.after taken.0 (place_in σ 35 k.joined j) (handed_here σ o 35 k.joined j b))

      sound : Joined σ 𝓟.servers 35 id k.joined
      sound = two_taken σ o id k.joined there.progress there.decided taken.0

      pub agreed : v ≡ verdict_all id
      agreed = sym taken.1 ∙ both_zero_lem i l id k.joined handed sound

      pub judged_everywhere : (q : ℕ) → q < 𝓟.servers → Noted id q × Summed id q
      judged_everywhere = second_at_lem i l id k.joined handed sound
