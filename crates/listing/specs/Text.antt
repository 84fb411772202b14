-- What the functions that write text do to a buffer, and the most bytes that they write: a number has at most 20 digits,
-- so that a line has at most 63 bytes, and a text 30 and those of 256 lines.
-- Assumes nothing.
use Rattle.std.specs.Prelude.{◌≡◌, cond, List, [], ◌∷◌, ◌++◌, ℕ, ◌+◌, ◌*◌, ◌≤◌, ◌<◌, eqb, length, take, drop}
use Rattle.algebra.specs.Lists.{All}
use Rattle.words.specs.Bytes.{splice, elements_of}
use Rattle.records.specs.Outcome.{ok}
use Rattle.rules.specs.Settings.{document01}
use Rattle.rules.specs.Columns.{published_in, read_sheet, columns_of}
use Rattle.rules.specs.Joining.{join_refusal, join_count, join_totals}
use Rattle.rules.specs.Recount.{decimal, accepted_text, refusal_text, option_lines, column_lines, recount_text}

-- s became t: the bytes ys stand from place at, nothing else changed, and next is the place behind them
pub record Put (s : List ℕ) (at : ℕ) (ys t : List ℕ) (next : ℕ) : Type 0 where
  pub written : t ≡ splice s at ys
  pub behind : next ≡ at + length ys
  pub room : at + length ys ≤ length s
  pub same : length t ≡ length s

-- ---- lines, with the totals as elements
-- the lines of a column's n options, whose totals are the elements from `first` on
abbrev pub options_text : ℕ → ℕ → ℕ → List ℕ → List ℕ
options_text column n first totals = option_lines column 0 n (drop first (elements_of 4 totals))

-- the lines of all columns of a sheet
abbrev pub columns_text : List ℕ → List ℕ → List ℕ
columns_text s totals = column_lines 1 (columns_of s) (elements_of 4 totals)

-- room for n lines, and n totals from the one with number `first` on
pub record Options (at first n : ℕ) (out totals : List ℕ) : Type 0 where
  pub few : n ≤ 256
  pub room : at + 63 * n ≤ length out
  pub held : 4 * (first + n) ≤ length totals

-- a sheet that is read, with room for its lines, and its totals
pub record Columns (at : ℕ) (s out totals : List ℕ) : Type 0 where
  pub is_read : read_sheet s ≡ ok (columns_of s)
  pub room : at + 63 * published_in (columns_of s) ≤ length out
  pub held : 4 * published_in (columns_of s) ≤ length totals

-- ---- the text of joined messages
abbrev pub text_most : ℕ
text_most = 30 + 63 * 256

-- room for a text, and for the totals of any sheet
pub record Rooms (out sums : List ℕ) : Type 0 where
  pub text_fits : text_most ≤ length out
  pub sums_fit : 1024 ≤ length sums

-- rules' recountText by the parts of the input
unfoldable pub joined_text : ℕ → List ℕ → ℕ → List ℕ → List ℕ
joined_text servers sheet returns joined =
    let refusal = join_refusal document01 servers sheet returns joined (4 * published_in (columns_of sheet)) in
    cond (eqb refusal 0)
    (accepted_text
    ++ decimal (join_count joined)
    ++ (10 ∷ [])
    ++ column_lines 1 (columns_of sheet) (join_totals document01 servers sheet joined))
    (refusal_text refusal)

-- ---- recount's text, at the front of a buffer
pub record Lists (input out : List ℕ) (r : ℕ) (out' : List ℕ) : Type 0 where
  pub answer_is : r ≡ length (recount_text document01 input)
  pub out_is : out' ≡ splice out 0 (recount_text document01 input)
  pub within : r ≤ length out'

-- ---- of an input that may be longer than the buffer that holds its start
-- so many bytes are one more than 2, a sheet of 65,535, 1, 2 and eight messages of 1,030: what follows can not be joined
abbrev pub start_most : ℕ
start_most = 73781

pub record Start (start : List ℕ) (n : ℕ) (out : List ℕ) : Type 0 where
  pub long : length start ≡ start_most
  pub within : n ≤ start_most
  pub text_fits : text_most ≤ length out

-- the text of each input with this start
pub record ListsAll (start out : List ℕ) (r : ℕ) (out' : List ℕ) : Type 0 where
  pub lists : (input : List ℕ) → All (λ b. b < 256) input → start ≡ take start_most input → Lists input out r out'
  pub within : r ≤ length out'
