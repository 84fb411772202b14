-- What storing messages by place, and bringing them back, come to: the answer, and what the buffer holds then. A refusal
-- leaves the buffer.
-- Assumes nothing.
use Rattle.std.specs.Prelude.{◌≡◌, List, ℕ, ◌*◌, length, Result}
use Rattle.words.specs.Bytes.{splice}
use Rattle.records.specs.Answers.{answered, only_if}
use Rattle.records.specs.Refusals.{outcome_of}
use Rattle.records.specs.declared.Refusal.{Refusal}
use Rattle.rules.specs.Settings.{document01}
use Rattle.rules.specs.Shelf.{shelf_refusal}

-- a call that is lent a run of r messages of w bytes and writes `bytes` into the buffer `out`
pub record Stores (bytes : List ℕ) (r w : ℕ) (run out : List ℕ) (a : Result ℕ Refusal) (out' : List ℕ) : Type 0 where
  pub answer_is : outcome_of a ≡ answered (shelf_refusal document01 r w (length run) (length out)) (r * w)
  pub out_is : out' ≡ only_if (shelf_refusal document01 r w (length run) (length out)) (splice out 0 bytes) out
