-- Laws of the reading of records, for a reader that goes by a position and for proofs over what was read. A good record
-- takes the reading on behind its body, any other ends it; so a run that is read is a run of good records, and what a
-- good record keeps holds of the result. Assumes nothing.
use mathlib.Core.Path.{◌≡◌, refl, ap, ◌∙◌}
use mathlib.Core.Bool.{Bool, true, false, cond}
use mathlib.Core.List.{List, [], ◌∷◌, ◌++◌}
use mathlib.Core.Option.{Option, none, some}
use Prim.Native.Nat.{ℕ, zero, suc, ◌+◌, ◌-◌, ◌≤◌, ◌<◌}
use native.Mathlib.Numerals.{add-one}
use native.Mathlib.Omega.{arith}
use borrow.Author.Tests.{le-leb, lt-leb, leb-true}
use lib.Dec.{leb}
use lib.ListN.{length, get_or, take, drop, length-drop, drop_of_length-le}
use lib.Seq.{drop-cons, drop-drop}
use Rattle.words.specs.Bytes.{part}
use Rattle.records.specs.Outcome.{Outcome, ok, refused}
use Rattle.records.specs.Records.{Format, and_on, one_record, read_from}

at_place : (s : List ℕ) (i : ℕ) → i < length s → drop i s ≡ get_or s i 0 ∷ drop (i + 1) s
at_place s i h = rw (add-one, drop-cons s i 0)

module _ {A : Type 0} (f : Format A) where
  -- the bytes that are passed over
  pub skip : (s : List ℕ) (j : ℕ) (done : List A) → read_from f s j done ≡ read_from f (drop j s) 0 done
  unfolding read_from
  skip [] zero done = refl
  skip [] (suc j) done = refl
  skip (b ∷ s) zero done = refl
  skip (b ∷ s) (suc j) done = skip s j done

  -- ---- one record in front
  module _ (k : ℕ) (s : List ℕ) (done : List A) where
    front_unknown : f.body_of k ≡ none → read_from f (k ∷ s) 0 done ≡ refused f.at_fault
    unfolding read_from
    front_unknown e = rw e

    module _ (n : ℕ) (known : f.body_of k ≡ some n) where
      front_cut : length s < n → read_from f (k ∷ s) 0 done ≡ refused f.at_fault
      unfolding read_from
      front_cut h = rw (known, lt-leb n (length s) h)

      front_refused : (m : ℕ) → n ≤ length s → f.judge done k (take n s) ≡ refused m → read_from f (k ∷ s) 0 done ≡ refused m
      unfolding read_from
      front_refused m h e = rw (known, le-leb n (length s) h, e)

      pub front_ok : (a : A) → n ≤ length s → f.judge done k (take n s) ≡ ok a
          → read_from f (k ∷ s) 0 done ≡ read_from f s n (done ++ (a ∷ []))
      unfolding read_from
      front_ok a h e = rw (known, le-leb n (length s) h, e)

  -- ---- a reader at place i, after the records `done`
  module _ (s : List ℕ) (i : ℕ) (done : List A) where
    pub at_end : length s ≤ i → read_from f (drop i s) 0 done ≡ ok done
    unfolding read_from
    at_end h = rw (drop_of_length-le s {i = i} h)

    pub unknown_kind : i < length s → f.body_of (get_or s i 0) ≡ none → read_from f (drop i s) 0 done ≡ refused f.at_fault
    unknown_kind h e = rw (at_place s i h) (front_unknown (get_or s i 0) (drop (i + 1) s) done e)

    module _ (n : ℕ) (h : i < length s) (known : f.body_of (get_or s i 0) ≡ some n) where
      pub cut_body : length s - (i + 1) < n → read_from f (drop i s) 0 done ≡ refused f.at_fault
      cut_body l =
          rw (at_place s i h) (front_cut (get_or s i 0) (drop (i + 1) s) done n known (rw length-drop l))

      pub judged_refused : (m : ℕ) → n ≤ length s - (i + 1) → f.judge done (get_or s i 0) (part (i + 1) n s) ≡ refused m
          → read_from f (drop i s) 0 done ≡ refused m
      judged_refused m l e =
          rw (at_place s i h) (front_refused (get_or s i 0) (drop (i + 1) s) done n known m (rw length-drop l) e)

      pub judged_ok : (a : A) → n ≤ length s - (i + 1) → f.judge done (get_or s i 0) (part (i + 1) n s) ≡ ok a
          → read_from f (drop i s) 0 done ≡ read_from f (drop (i + 1 + n) s) 0 (done ++ (a ∷ []))
      judged_ok a l e =
          rw (at_place s i h)
          (front_ok (get_or s i 0) (drop (i + 1) s) done n known a (rw length-drop l) e
          ∙ skip (drop (i + 1) s) n (done ++ (a ∷ []))
          ∙ ap (λ (t : List ℕ). read_from f t 0 (done ++ (a ∷ []))) (drop-drop n (i + 1) s))

  -- ---- what is known where the reading ends well
  -- the record in front was good
  pub record Good (k : ℕ) (s : List ℕ) (done xs : List A) : Type 0 where
    pub n : ℕ
    pub a : A
    pub known : f.body_of k ≡ some n
    pub whole : n ≤ length s
    pub judged : f.judge done k (take n s) ≡ ok a
    pub rest : read_from f s n (done ++ (a ∷ [])) ≡ ok xs

  not_ok : (m : ℕ) (xs : List A) → ◌≡◌ {A = Outcome (List A)} (refused m) (ok xs) → ⊥
  not_ok m xs h = let z : ◌≡◌ {A = ℕ} 0 1 = cc in omega arith

  module _ (k : ℕ) (s : List ℕ) (done xs : List A) where
    good_judged : (n : ℕ) → f.body_of k ≡ some n → n ≤ length s
        → (r : Outcome A) → f.judge done k (take n s) ≡ r → and_on r done (read_from f s n) ≡ ok xs → Good k s done xs
    good_judged n e l (ok a) q h = record { n = n; a = a; known = e; whole = l; judged = q; rest = h }
    good_judged n e l (refused m) q h = absurd (not_ok m xs h)

    good_whole : (n : ℕ) → f.body_of k ≡ some n → (b : Bool) → leb n (length s) ≡ b
        → cond b (and_on (f.judge done k (take n s)) done (read_from f s n)) (refused f.at_fault) ≡ ok xs → Good k s done xs
    good_whole n e true q h = good_judged n e (leb-true n (length s) q) (f.judge done k (take n s)) refl h
    good_whole n e false q h = absurd (not_ok f.at_fault xs h)

    good_known : (o : Option ℕ) → f.body_of k ≡ o → one_record f o done k s (read_from f s) ≡ ok xs → Good k s done xs
    good_known none e h = absurd (not_ok f.at_fault xs h)
    good_known (some n) e h = good_whole n e (leb n (length s)) refl h

    pub good : read_from f (k ∷ s) 0 done ≡ ok xs → Good k s done xs
    unfolding read_from
    good h = good_known (f.body_of k) refl h
