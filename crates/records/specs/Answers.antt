-- The answer of a call that writes, and what it leaves, by the number of the refusal, 0 for none. A call that is done writes
-- its bytes from the start of the buffer and its numbers behind the pointers; one that is refused leaves all as it was.
-- Assumes nothing.
use Rattle.std.specs.Prelude.{◌≡◌, cond, List, ℕ, Result, Ok, Err, eqb}
use Rattle.words.specs.Bytes.{splice}
use Rattle.records.specs.Outcome.{Outcome, ok, refused}
use Rattle.records.specs.declared.Refusal.{Refusal}

-- the number of bytes written, or the refusal
unfoldable pub answered : ℕ → ℕ → Outcome ℕ
answered refusal written = cond (eqb refusal 0) (ok written) (refused refusal)

-- the new bytes, or where the call is refused those that were there
unfoldable pub only_if : ℕ → List ℕ → List ℕ → List ℕ
only_if refusal new old = cond (eqb refusal 0) new old

-- a number behind a pointer
unfoldable pub if_done : ℕ → ℕ → ℕ → ℕ
if_done refusal new old = cond (eqb refusal 0) new old

-- a call that writes these bytes, n of them, into the buffer out; what it leaves there and behind `written`
pub record Writes (refusal : ℕ) (bytes : List ℕ) (n : ℕ) (out : List ℕ) (written : ℕ) (r : ℕ) (out' : List ℕ) (written' : ℕ) : Type 0 where
  pub answer_is : r ≡ refusal
  pub out_is : out' ≡ only_if refusal (splice out 0 bytes) out
  pub written_is : written' ≡ if_done refusal n written

-- what an answer leaves behind `written`
abbrev pub length_of : Result ℕ Refusal → ℕ → ℕ
length_of (Ok n) written = n
length_of (Err r) written = written
