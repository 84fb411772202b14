-- Field 8 of demand 3: a return of sound shares handed to servers that have room is refused nowhere, and its verdict is that
-- of its pair: each check is met by what the messages were written with, and their order changes no sum. Other calls mixed in
-- change nothing, since each leaves the return as it waits. One that is accepted is entered when this is asked for. Assumes nothing.
use mathlib.Core.Path.{◌≡◌, refl, sym, ap, ap₂, ◌∙◌, subst}
use mathlib.Core.Bool.{Bool, true, cond}
use mathlib.Core.List.{List, [], ◌∷◌, ◌++◌, map, flatten}
use mathlib.Core.Option.{some}
use Prim.Native.Nat.{ℕ, ◌<◌}
use borrow.Author.Tests.{eq-eqb, le-leb}
use lib.Dec.{eqb}
use lib.ListN.{get_or}
use Rattle.algebra.specs.Lists.{all[], all∷, In, Rearranged}
use Rattle.algebra.specs.Ops.{Ops}
use Rattle.algebra.specs.Modulo.{modulo}
use Rattle.algebra.specs.Sums.{sum}
use Rattle.algebra.proofs.Rearrangement.{rearranged_refl}
use Rattle.records.specs.Outcome.{or_else}
use Rattle.rules.specs.Settings.{Setting, Facts}
use Rattle.rules.specs.Judging.{first_only, sigma_of, d_sum, e_sum, sigma_sum, tau_sum, lets_in}
use Rattle.rules.specs.Messages.{element_in, challenge_fault, element_sum, first_sum, second_sum, both_zero}
use Rattle.rules.specs.Keyed.{find, changed, those}
use Rattle.rules.specs.Server.{Opened, Waiting, waiting_of, with_sums, sigma_in, message_one, message_two, summed}
use Rattle.rules.specs.Server.{one_refusal, two_refusal, while_open, while_one, while_two}
use Rattle.rules.specs.Ledger.{Call, share, round_one, round_two, enter, Answer, wrote, judged, done, Note, Pending}
use Rattle.rules.specs.Ledger.{waits_one, waitsTwo, waitsEntry, accept_noted, rejected, decide_as}
use Rattle.rules.specs.Ledger.{note_in, pending_id, is_open, waiting, Decided, Ledger, ids_of, notes_of}
use Rattle.rules.specs.Ledger.{ledger_wait, ledger_stage, ledger_state, refusal_of, sums_noted, ledger_after, second_message, answer_of}
use Rattle.rules.specs.Ledger.{ledger_answers, ledger_says, ledger_step}
use Rattle.rules.specs.Mixing.{on, answers_to}
use Rattle.rules.specs.Pools.{Pool, columns, opened_at, ledger_at}
use Rattle.rules.specs.WholeRun.{first_wait, firsts, second_wait, seconds, both_rounds, Ready}
use Rattle.rules.proofs.Histories.Challenges.{alike}
use Rattle.rules.proofs.Histories.WrittenRuns.{Written, written}
use Rattle.rules.proofs.Histories.OwnMessages.{pair_below, sigma_below, d_below, e_below, tau_below}
use Rattle.rules.proofs.Histories.Keyed.{found_here, changed_found}
use Rattle.rules.proofs.Histories.Moves.{at, find_told, sums_of}
use Rattle.rules.proofs.Histories.NotesGrow.{keeps_id, accept_keeps_id}
use Rattle.rules.proofs.Runs.SoundShare.{notes_are, TakenShare, share_taken_lem}
use Rattle.rules.proofs.Runs.Refusing.{accepted_enter}
use Rattle.rules.proofs.Runs.Holding.{Holds, holds, none_on, all_on, first_on}

module _ (σ : Setting) (facts : Facts σ) (𝓟 : Pool σ) (id : ℕ) (messages shares : ℕ → List ℕ) (r s room roundRoom : ℕ)
    (ready : Ready σ 𝓟 id shares r s messages room roundRoom) where
  abbrev o : ℕ → Opened
  o i = opened_at σ 𝓟 i

  abbrev S : ℕ
  S = 𝓟.servers

  abbrev note : ℕ → Note
  note j = record { id = id; elements = shares j; r = r; s = s }

  abbrev wait : ℕ → Waiting
  wait j = first_wait σ 𝓟 id shares r s j

  abbrev wait₂ : ℕ → Waiting
  wait₂ j = second_wait σ 𝓟 id shares r s j

  -- the messages of both rounds, in server order, and the sums of the first
  abbrev ones₀ : List (List ℕ)
  ones₀ = firsts σ 𝓟 id shares r s

  abbrev twos₀ : List (List ℕ)
  twos₀ = seconds σ 𝓟 id shares r s

  abbrev d₀ : ℕ
  d₀ = first_sum σ 34 S (flatten ones₀)

  abbrev e₀ : ℕ
  e₀ = second_sum σ 34 S (flatten ones₀)

  -- the elements of server j's messages
  abbrev in_one : ℕ → List ℕ
  in_one j = (wait j).d ∷ (wait j).e ∷ r ∷ s ∷ []

  abbrev in_two : ℕ → List ℕ
  in_two j = sigma_in σ (o j) (wait₂ j) ∷ (wait j).tau ∷ []

  pair_is : (r < σ.modulus) × (s < σ.modulus)
  pair_is = pair_below σ (columns σ 𝓟) r s ready.pair

  -- in any order
  round_one_lem : (ms : List (List ℕ)) → Rearranged ms ones₀ → Written σ S 34 id in_one (flatten ms)
  unfolding message_one waiting_of
  round_one_lem =
      written σ facts S 34 id in_one ready.id_fits (λ j h. refl)
      (λ j h. all∷ (d_below σ facts (o j) (note j)) (all∷ (e_below σ facts (o j) (note j)) (all∷ pair_is.0 (all∷ pair_is.1 all[]))))

  round_two_lem : (ms : List (List ℕ)) → Rearranged ms twos₀ → Written σ S 35 id in_two (flatten ms)
  unfolding message_two waiting_of summed
  round_two_lem =
      written σ facts S 35 id in_two ready.id_fits (λ j h. refl)
      (λ j h. all∷ (sigma_below σ facts (o j) (wait₂ j)) (all∷ (tau_below σ facts (o j) (note j)) all[]))

  in_order_lem : Written σ S 34 id in_one (flatten ones₀)
  in_order_lem = round_one_lem ones₀ (rearranged_refl ones₀)

  -- ---- the verdict
  abbrev x : ℕ → ℕ → ℕ
  x j e = get_or (shares j) e 0

  abbrev O : Ops
  O = modulo σ.modulus

  d_is : d₀ ≡ d_sum O σ (columns σ 𝓟) S x r
  unfolding d_sum waiting_of
  d_is = in_order_lem.sums 0

  e_is : e₀ ≡ e_sum O σ (columns σ 𝓟) S x r
  unfolding e_sum waiting_of
  e_is = in_order_lem.sums 1

  -- ---- the share
  abbrev first : ℕ → Call
  first i = share (messages i) r s room

  begun : (i : ℕ) → i < S → TakenShare σ (o i) (ledger_at σ 𝓟 i) (first i) (note i)
  begun i l =
      let ds : List Decided = (ledger_at σ 𝓟 i).decided in
      let ws : List Pending = ready.waits i in
      let start : at (is_open ws) ds ≡ ledger_at σ 𝓟 i = λ t. record { progress = sym (ready.open_all i l) t; decided = ds } in
      let unused : In id (ids_of (notes_of ds ++ map note_in ws)) → ⊥ =
      λ h. ready.unused i l (subst (λ (v : List Note). In id (ids_of v)) (sym (notes_are (ledger_at σ 𝓟 i) ws (ready.open_all i l))) h) in
      subst (λ (v : Ledger). TakenShare σ (o i) v (first i) (note i)) start
      (share_taken_lem σ (o i) ws ds id (messages i) (shares i) r s room (ready.below_eight i l) (ready.fewer i l) unused
      ready.id_fits (ready.sound i l) ready.pair ready.enough)

  -- ---- both rounds, where the return waits
  module _ (ones twos : List (List ℕ)) (first-order : Rearranged ones ones₀) (second-order : Rearranged twos twos₀) where
    one_is : Written σ S 34 id in_one (flatten ones)
    one_is = round_one_lem ones first-order

    two_is : Written σ S 35 id in_two (flatten twos)
    two_is = round_two_lem twos second-order

    sigma_is : first_sum σ 35 S (flatten twos) ≡ sigma_sum O σ (columns σ 𝓟) S x r
    unfolding sigma_sum waiting_of summed sigma_in sigma_of
    sigma_is = two_is.sums 0 ∙ λ t. sum O S (λ j. sigma_of O σ (columns σ 𝓟) (first_only O j) (x j) r (d_is t) (e_is t))

    tau_is : second_sum σ 35 S (flatten twos) ≡ tau_sum O σ (columns σ 𝓟) S x s
    unfolding tau_sum waiting_of
    tau_is = two_is.sums 1

    verdict_is : both_zero σ S (flatten twos) ≡ lets_in σ (columns σ 𝓟) S x r s
    unfolding both_zero lets_in
    verdict_is = rw (ready.pair, sigma_is, tau_is)

    -- the sums are those in server order
    same_sum : (k : ℕ) → element_sum σ k 34 S (flatten ones) ≡ element_sum σ k 34 S (flatten ones₀)
    same_sum k = one_is.sums k ∙ sym (in_order_lem.sums k)

    -- one pair was written
    one_pair : challenge_fault σ S (flatten ones) ≡ 0
    one_pair =
        alike σ S id 0 _ (flatten ones) (one_is.in_order_lem 0)
        (λ i j l b. (element i l 2 ∙ sym (element j b 2), element i l 3 ∙ sym (element j b 3)))
      where
        element : (i : ℕ) → i < S → (k : ℕ) → element_in σ k ((one_is.in_order_lem 0).message i) ≡ get_or (in_one i) k 0
        element i l k = ap (λ (v : List ℕ). get_or v k 0) (one_is.reads 0 i l)

    abbrev one : Call
    one = round_one id (flatten ones) roundRoom

    abbrev two : Call
    two = round_two id (flatten twos)

    one_there : (i : ℕ) (l : i < S) (ws : List Pending) (ds : List Decided) → find pending_id id ws ≡ some (waits_one (note i))
        → refusal_of σ (o i) (at (is_open ws) ds) one ≡ 0
    unfolding refusal_of ledger_state ledger_stage one_refusal while_open while_one ledger_wait message_one waiting_of or_else
    one_there i l ws ds h =
        rw (find_told σ (o i) id ws, h, one_is.passes i l, one_pair, le-leb _ _ ready.enough_one)

    two_there : (i : ℕ) (l : i < S) (ws : List Pending) (ds : List Decided) → find pending_id id ws ≡ some (waitsTwo (note i) d₀ e₀)
        → refusal_of σ (o i) (at (is_open ws) ds) two ≡ 0
    unfolding refusal_of ledger_state ledger_stage two_refusal while_open while_two ledger_wait message_two waiting_of summed
    two_there i l ws ds h = rw (find_told σ (o i) id ws, h, two_is.passes i l)

    module _ (i : ℕ) (l : i < S) where
      named : on id (first i) ≡ true
      named = eq-eqb _ _ ((ready.sound i l).named ready.id_fits)

      abbrev first₂ : Pending
      first₂ = waitsTwo (note i) d₀ e₀

      -- the calls behind round two and their answers, where the return has its verdict
      record Rest (rest : List Call) (xs : List Answer) : Type 0 where
        later : (ws : List Pending) (ds : List Decided) → find pending_id id ws ≡ some first₂ → (cs : List Call) → those (on id) cs ≡ rest
            → answers_to σ (o i) id (ledger_after σ (o i) (at (is_open ws) ds) two) cs ≡ xs

      module _ (rest : List Call) (xs : List Answer) (then : Rest rest xs) where
        on_two : (v : Ledger) → Holds σ (o i) id first₂ v → (more : List Call) → those (on id) more ≡ two ∷ rest
            → answers_to σ (o i) id v more ≡ judged (both_zero σ S (flatten twos)) ∷ xs
        unfolding answer_of
        on_two =
            first_on σ (o i) id first₂ two (judged (both_zero σ S (flatten twos))) rest xs (two_there i l) (λ ws ds h. refl) then.later

        on_one : (v : Ledger) → Holds σ (o i) id (waits_one (note i)) v → (more : List Call) → those (on id) more ≡ one ∷ two ∷ rest
            → answers_to σ (o i) id v more ≡ wrote (message_two σ (o i) (wait₂ i)) ∷ judged (both_zero σ S (flatten twos)) ∷ xs
        unfolding answer_of second_message summed ledger_after sums_noted
        on_one =
            first_on σ (o i) id (waits_one (note i)) one (wrote (message_two σ (o i) (wait₂ i))) (two ∷ rest) _ (one_there i l)
            (λ ws ds h. rw h (ap₂ (λ (u v : ℕ). wrote (message_two σ (o i) (with_sums (wait i) u v))) (same_sum 0) (same_sum 1)))
            (λ ws ds h cs q. on_two _ (holds _ ds (changed_found pending_id id (sums_of σ (o i) (flatten ones))
            (keeps_id σ (o i) (flatten ones)) ws (waits_one (note i)) h
            ∙ ap₂ (λ (u v : ℕ). some (waitsTwo (note i) u v)) (same_sum 0) (same_sum 1))) cs q)

        -- with other calls mixed in once the share is taken
        whole_return : (more : List Call) → those (on id) more ≡ one ∷ two ∷ rest
            → answers_to σ (o i) id (ledger_at σ 𝓟 i) (share (messages i) r s room ∷ more)
            ≡ wrote (message_one σ (o i) (wait i)) ∷ wrote (message_two σ (o i) (wait₂ i)) ∷ judged (lets_in σ (columns σ 𝓟) S x r s) ∷ xs
        unfolding answers_to
        whole_return more q =
            let v : Ledger = ledger_at σ 𝓟 i in
            let after : ℕ → List Answer = λ f. answers_to σ (o i) id (ledger_step σ (o i) v (first i) f) more in
            let f : ℕ = refusal_of σ (o i) v (first i) in
            ap (λ (b : Bool). cond b (ledger_says σ (o i) v (first i) f ∷ after f) (after f)) named
            ∙ ap (λ (n : ℕ). ledger_says σ (o i) v (first i) n ∷ after n) (begun i l).passes
            ∙ ap₂ (λ (a : Answer) (u : Ledger). a ∷ answers_to σ (o i) id u more) (begun i l).writes (begun i l).leaves
            ∙ ap (λ (u : List Answer). wrote (message_one σ (o i) (wait i)) ∷ u)
            (on_one _ (holds _ _ (found_here pending_id id (waits_one (note i)) (waiting v.progress) refl)) more q
            ∙ ap (λ (b : Bool). wrote (message_two σ (o i) (wait₂ i)) ∷ judged b ∷ xs) verdict_is)

      -- nothing more is asked for, or the entry of a return that the pair lets in
      no_more : Rest [] []
      no_more = record { later = λ ws ds h cs q. none_on σ (o i) id _ cs q }

      entry_there : (v : Ledger) → Holds σ (o i) id (waitsEntry (note i) d₀ e₀) v → (more : List Call) → those (on id) more ≡ enter id ∷ []
          → answers_to σ (o i) id v more ≡ done ∷ []
      unfolding answer_of
      entry_there =
          first_on σ (o i) id (waitsEntry (note i) d₀ e₀) (enter id) done [] []
          (λ ws ds h. accepted_enter σ (o i) ws ds id (note i) d₀ e₀ h) (λ ws ds h. refl) (λ ws ds h cs q. none_on σ (o i) id _ cs q)

      entry : lets_in σ (columns σ 𝓟) S x r s ≡ true → Rest (enter id ∷ []) (done ∷ [])
      unfolding ledger_after accept_noted
      entry lets = record {
        later = λ ws ds h cs q. (
            let after : Bool → Ledger = λ b.
            cond b (at (is_open (changed pending_id id (accept_noted σ (o i)) ws)) ds) (decide_as σ (o i) id (find pending_id id ws) ws ds rejected) in
            subst (λ (b : Bool). answers_to σ (o i) id (after b) cs ≡ done ∷ []) (sym (verdict_is ∙ lets))
            (entry_there (after true)
            (holds _ ds (changed_found pending_id id (accept_noted σ (o i)) (accept_keeps_id σ (o i)) ws first₂ h)) cs q));
      }

      -- 8, with other calls mixed in
      pub handled_mixed : (more : List Call) → those (on id) more ≡ both_rounds id ones twos roundRoom
          → answers_to σ (o i) id (ledger_at σ 𝓟 i) (share (messages i) r s room ∷ more)
          ≡ wrote (message_one σ (o i) (wait i)) ∷ wrote (message_two σ (o i) (wait₂ i)) ∷ judged (lets_in σ (columns σ 𝓟) S x r s) ∷ []
      handled_mixed = whole_return [] [] no_more

      pub handled_entered : lets_in σ (columns σ 𝓟) S x r s ≡ true → (more : List Call)
          → those (on id) more ≡ both_rounds id ones twos roundRoom ++ (enter id ∷ [])
          → answers_to σ (o i) id (ledger_at σ 𝓟 i) (share (messages i) r s room ∷ more)
          ≡ wrote (message_one σ (o i) (wait i)) ∷ wrote (message_two σ (o i) (wait₂ i)) ∷ judged true ∷ done ∷ []
      handled_entered lets more q =
          whole_return (enter id ∷ []) (done ∷ []) (entry lets) more q
          ∙ ap (λ (b : Bool). wrote (message_one σ (o i) (wait i)) ∷ wrote (message_two σ (o i) (wait₂ i)) ∷ judged b ∷ done ∷ []) lets

      -- 8, and no other calls
      same : eqb id id ≡ true
      same = eq-eqb id id refl

      pub handled : ledger_answers σ (o i) (ledger_at σ 𝓟 i) (first i ∷ both_rounds id ones twos roundRoom)
          ≡ wrote (message_one σ (o i) (wait i)) ∷ wrote (message_two σ (o i) (wait₂ i)) ∷ judged (lets_in σ (columns σ 𝓟) S x r s) ∷ []
      unfolding those
      handled =
          let both : those (on id) (one ∷ two ∷ []) ≡ one ∷ two ∷ [] = rw same refl in
          sym (all_on σ (o i) id (ledger_at σ 𝓟 i) (first i ∷ one ∷ two ∷ []) (all∷ named (all∷ same (all∷ same all[]))))
          ∙ handled_mixed (one ∷ two ∷ []) both

      pub entered_alone : lets_in σ (columns σ 𝓟) S x r s ≡ true
          → ledger_answers σ (o i) (ledger_at σ 𝓟 i) (first i ∷ (both_rounds id ones twos roundRoom ++ (enter id ∷ [])))
          ≡ wrote (message_one σ (o i) (wait i)) ∷ wrote (message_two σ (o i) (wait₂ i)) ∷ judged true ∷ done ∷ []
      unfolding those
      entered_alone lets =
          let calls : List Call = one ∷ two ∷ enter id ∷ [] in
          let all : those (on id) calls ≡ calls = rw same refl in
          sym (all_on σ (o i) id (ledger_at σ 𝓟 i) (first i ∷ calls) (all∷ named (all∷ same (all∷ same (all∷ same all[])))))
          ∙ handled_entered lets calls all
