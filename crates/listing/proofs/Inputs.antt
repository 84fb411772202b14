-- The text by the input: cut before both bytes of N it is the line of refusal 12, else the text of the joined messages that
-- its parts say. By the definition of recountText. Assumes nothing.
use mathlib.Core.Path.{◌≡◌}
use mathlib.Core.List.{List}
use Prim.Native.Nat.{ℕ, ◌+◌, ◌-◌, ◌≤◌, ◌<◌}
use native.Mathlib.Omega.{arith}
use borrow.Author.Tests.{lt-leb, le-leb}
use lib.ListN.{length, get_or, take, drop}
use Rattle.words.specs.Bytes.{value_of, part}
use Rattle.steps.proofs.Parts.{span, to_end}
use Rattle.rules.specs.Settings.{document01}
use Rattle.rules.specs.Recount.{input_size, input_servers, input_sheet, input_returns, input_joined}
use Rattle.rules.specs.Recount.{refusal_text, recount_refusal, recount_text}
use Rattle.listing.specs.Text.{Put, joined_text, Lists}

pub lists : (input out out' : List ℕ) (r : ℕ) → Put out 0 (recount_text document01 input) out' r → Lists input out r out'
lists input out out' r p =
    record {
      answer_is = omega (arith, p.behind);
      out_is = p.written;
      within = omega (arith, p.behind, p.room, p.same);
    }

module _ (input : List ℕ) where
  pub text_cut : length input < 5 + input_size document01 input → recount_text document01 input ≡ refusal_text 12
  unfolding recount_text recount_refusal
  text_cut h = rw (lt-leb (5 + input_size document01 input) (length input) h)

  pub text_joined : 5 + input_size document01 input ≤ length input
      → recount_text document01 input
      ≡ joined_text (input_servers document01 input) (input_sheet document01 input) (input_returns document01 input)
      (input_joined document01 input)
  unfolding recount_text recount_refusal joined_text
  text_joined h = rw (le-leb (5 + input_size document01 input) (length input) h)

  -- by what the code has read
  module _ (n : ℕ) (size : n ≡ input_size document01 input) where
    pub text_cut_at : length input < 5 + n → recount_text document01 input ≡ refusal_text 12
    text_cut_at h = text_cut (omega (arith, size))

    pub text_joined_at : 5 + n ≤ length input → (servers returns : ℕ) → servers ≡ get_or input (2 + n) 0
        → returns ≡ value_of (part (3 + n) 2 input)
        → recount_text document01 input
        ≡ joined_text servers (take (2 + n - 2) (drop 2 input)) returns (take (length input - (5 + n)) (drop (5 + n) input))
    text_joined_at h servers returns s r =
        rw (s, r, span 2 n input, to_end (5 + n) input, size) (text_joined (omega (arith, size)))
