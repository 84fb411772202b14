-- Whole runs of records. A run that is read goes on into what follows it, and a run is read exactly where it is one good
-- record after another (`Says`); so what each good record keeps holds of the result. Assumes nothing.
use mathlib.Core.Path.{◌≡◌, refl, sym, ap, ◌∙◌}
use mathlib.Core.List.{List, [], ◌∷◌, ◌++◌, append_assoc, append-nil}
use mathlib.Core.Option.{some}
use Prim.Native.Nat.{ℕ, zero, suc, ◌≤◌}
use native.Mathlib.Omega.{arith}
use lib.ListN.{length, take, length-append}
use lib.Seq.{take-append-le, take-append_seam, drop-append_seam, length-take-le}
use Rattle.records.specs.Outcome.{ok}
use Rattle.records.specs.Records.{Format, read_from, read, Says, nothing, more}
use Rattle.records.proofs.Records.{skip, front_ok, good}

module _ {A : Type 0} (f : Format A) where
  append_past : (s t : List ℕ) (j : ℕ) (done xs : List A) → j ≤ length s → read_from f s j done ≡ ok xs
      → read_from f (s ++ t) j done ≡ read_from f t 0 xs
  unfolding read_from
  append_past [] t zero done xs l h = let e : done ≡ xs = cc in ap (read_from f t 0) e
  append_past [] t (suc j) done xs l h = absurd (omega arith)
  append_past (k ∷ s) t zero done xs l h =
      let g = good f k s done xs h in
      let w : g.n ≤ length (s ++ t) = rw length-append (omega (arith, g.whole)) in
      let b : take g.n (s ++ t) ≡ take g.n s = take-append-le g.n s t g.whole in
      front_ok f k (s ++ t) done g.n g.known g.a w (ap (f.judge done k) b ∙ g.judged)
      ∙ append_past s t g.n (done ++ (g.a ∷ [])) xs g.whole g.rest
  append_past (b ∷ s) t (suc j) done xs l h = append_past s t j done xs (omega arith) h

  -- a run that is read goes on into what follows it
  pub read_append : (s t : List ℕ) (done xs : List A) → read_from f s 0 done ≡ ok xs
      → read_from f (s ++ t) 0 done ≡ read_from f t 0 xs
  read_append s t done xs h = append_past s t 0 done xs (omega arith) h

  -- a good record in front of what follows
  pub read_record : (k : ℕ) (body : List ℕ) (a : A) (t : List ℕ) (done : List A)
      → f.body_of k ≡ some (length body) → f.judge done k body ≡ ok a
      → read_from f (k ∷ (body ++ t)) 0 done ≡ read_from f t 0 (done ++ (a ∷ []))
  read_record k body a t done e j =
      let w : length body ≤ length (body ++ t) = rw length-append (omega arith) in
      front_ok f k (body ++ t) done (length body) e a w (ap (f.judge done k) (take-append_seam body t) ∙ j)
      ∙ skip f (body ++ t) (length body) (done ++ (a ∷ []))
      ∙ ap (λ (l : List ℕ). read_from f l 0 (done ++ (a ∷ []))) (drop-append_seam body t)

  -- good records are read
  pub read_of_says : {s : List ℕ} {xs : List A} → Says f s xs → read f s ≡ ok xs
  unfolding read_from
  read_of_says nothing = refl
  read_of_says (more {s} {done} k body a w e j) =
      read_append s (k ∷ body) [] done (read_of_says w)
      ∙ ap (λ (l : List ℕ). read_from f (k ∷ l) 0 done) (sym (append-nil body))
      ∙ read_record k body a [] done e j

  says_past : (s : List ℕ) (j : ℕ) (p : List ℕ) (done xs : List A) → j ≤ length s → Says f (p ++ take j s) done
      → read_from f s j done ≡ ok xs → Says f (p ++ s) xs
  unfolding read_from
  says_past [] zero p done xs l w h = let e : done ≡ xs = cc in rw e at w
  says_past [] (suc j) p done xs l w h = absurd (omega arith)
  says_past (k ∷ s) zero p done xs l w h =
      let g = good f k s done xs h in
      let e : length (take g.n s) ≡ g.n = length-take-le g.n s g.whole in
      let v : Says f p done = rw append-nil at w in
      let u : Says f (p ++ (k ∷ take g.n s)) (done ++ (g.a ∷ []))
      = more k (take g.n s) g.a v (g.known ∙ ap some (sym e)) g.judged in
      rw (append_assoc p (k ∷ []) s)
      at (says_past s g.n (p ++ (k ∷ [])) (done ++ (g.a ∷ [])) xs g.whole (rw (append_assoc p (k ∷ []) (take g.n s)) u) g.rest)
  says_past (b ∷ s) (suc j) p done xs l w h =
      rw (append_assoc p (b ∷ []) s)
      at (says_past s j (p ++ (b ∷ [])) done xs (omega arith) (rw (append_assoc p (b ∷ []) (take j s)) w) h)

  -- what is read is good records
  pub says_of_read : (s : List ℕ) (xs : List A) → read f s ≡ ok xs → Says f s xs
  says_of_read s xs h = says_past s 0 [] [] xs (omega arith) nothing h

  -- what each good record keeps holds of the result
  module _
      (P : List A → Type 0) (base : P [])
      (step : (done : List A) (k : ℕ) (body : List ℕ) (a : A)
      → f.body_of k ≡ some (length body) → f.judge done k body ≡ ok a → P done → P (done ++ (a ∷ [])))
    where
      pub kept : {s : List ℕ} {xs : List A} → Says f s xs → P xs
      kept nothing = base
      kept (more {s} {done} k body a w e j) = step done k body a e j (kept w)

      pub kept_by_read : (s : List ℕ) (xs : List A) → read f s ≡ ok xs → P xs
      kept_by_read s xs h = kept (says_of_read s xs h)
