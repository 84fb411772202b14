-- A run of records, each a kind byte and a body whose length the kind fixes. The first record at fault stops the reading:
-- its kind is looked at and whether its body is cut, then what it says is judged, and so on to the end. Assumes nothing.
use Rattle.std.specs.Prelude.{◌≡◌, cond, List, [], ◌∷◌, ◌++◌, ℕ, zero, suc, leb, length, take}
use Rattle.std.proofs.Math.Option.{Option, none, some}
use Rattle.records.specs.Outcome.{Outcome, ok, refused}

pub record Format (A : Type 0) : Type 0 where
  -- the length of the body of a kind; none for an unknown kind
  pub body_of : ℕ → Option ℕ
  -- the refusal of an unknown kind and of a cut body
  pub at_fault : ℕ
  -- what a record says, from the records read before it, its kind and the bytes of its body
  pub judge : List A → ℕ → List ℕ → Outcome A

module _ {A : Type 0} where
  -- a record that is taken joins those before it, and the reading goes on
  abbrev pub and_on : Outcome A → List A → (List A → Outcome (List A)) → Outcome (List A)
  and_on (ok a) done rest = rest (done ++ (a ∷ []))
  and_on (refused m) done rest = refused m

module _ {A : Type 0} (f : Format A) where
  -- a record of kind k, with the bytes s behind its kind: kind and cut first, then what `judge` says
  abbrev pub one_record : Option ℕ → List A → ℕ → List ℕ → (ℕ → List A → Outcome (List A)) → Outcome (List A)
  one_record none done k s rest = refused f.at_fault
  one_record (some n) done k s rest =
      cond (leb n (length s)) (and_on (f.judge done k (take n s)) done (rest n)) (refused f.at_fault)

  -- reads on in s past its first j bytes, after the records `done`
  unfoldable pub read_from : List ℕ → ℕ → List A → Outcome (List A)
  read_from [] j done = ok done
  read_from (k ∷ s) zero done = one_record (f.body_of k) done k s (read_from s)
  read_from (b ∷ s) (suc j) done = read_from s j done

  -- the records of s, or the number of the first refusal
  abbrev pub read : List ℕ → Outcome (List A)
  read s = read_from s 0 []

  -- s is a run of good records, which say xs
  pub data Says : List ℕ → List A → Type 0 where
    nothing : Says [] []
    more : {s : List ℕ} {done : List A} (k : ℕ) (body : List ℕ) (a : A) → Says s done
        → f.body_of k ≡ some (length body) → f.judge done k body ≡ ok a → Says (s ++ (k ∷ body)) (done ++ (a ∷ []))
