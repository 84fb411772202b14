-- Document 01, "Examples at the bench": the text that the program recount prints, as a function of its input.
-- Assumes nothing.
use Rattle.std.specs.Prelude.{true, false, cond, List, [], ◌∷◌, ◌++◌, ℕ, zero, suc, ◌+◌, ◌*◌, ◌/◌, ◌%◌, eqb, ltb, leb, length, get_or, drop}
use Rattle.words.specs.Bytes.{value_of, part}
use Rattle.rules.specs.Settings.{Setting}
use Rattle.rules.specs.Columns.{Column, published_of, published_in, columns_of}
use Rattle.rules.specs.Joining.{join_refusal, join_count, join_totals}

-- a number in decimal digits; k bounds their number
unfoldable pub decimal_from : ℕ → ℕ → List ℕ
decimal_from zero n = []
decimal_from (suc k) n = elim (ltb n 10) [ true ↦ (48 + n) ∷ [] | false ↦ decimal_from k (n / 10) ++ ((48 + n % 10) ∷ []) ]

abbrev pub decimal : ℕ → List ℕ
decimal n = decimal_from 20 n

-- "accepted ", "refused ", a space and the end of a line
abbrev pub accepted_text : List ℕ
accepted_text = 97 ∷ 99 ∷ 99 ∷ 101 ∷ 112 ∷ 116 ∷ 101 ∷ 100 ∷ 32 ∷ []

abbrev pub refused_text : List ℕ
refused_text = 114 ∷ 101 ∷ 102 ∷ 117 ∷ 115 ∷ 101 ∷ 100 ∷ 32 ∷ []

-- "A refusal prints the one line `refused` and its number."
unfoldable pub refusal_text : ℕ → List ℕ
refusal_text n = refused_text ++ decimal n ++ (10 ∷ [])

-- "After the first line each holds column (from 1), option (from 0; always 0 for kinds 17 and 19), total." Of kind 20
-- "recount prints it as option 0"; of kind 21 "recount prints them as options 0 to 3"
unfoldable pub line_text : ℕ → ℕ → ℕ → List ℕ
line_text column option total = decimal column ++ (32 ∷ []) ++ decimal option ++ (32 ∷ []) ++ decimal total ++ (10 ∷ [])

-- the lines of n options from `option` on, with the totals ts
unfoldable pub option_lines : ℕ → ℕ → ℕ → List ℕ → List ℕ
option_lines column option zero ts = []
option_lines column option (suc n) ts = line_text column option (get_or ts 0 0) ++ option_lines column (suc option) n (drop 1 ts)

unfoldable pub column_lines : ℕ → List Column → List ℕ → List ℕ
column_lines column [] ts = []
column_lines column (c ∷ cs) ts =
    option_lines column 0 (published_of c) ts ++ column_lines (suc column) cs (drop (published_of c) ts)

-- "reads sheet length (2 bytes), sheet, S (1), N (2), then the joined totals messages. Input that ends before both bytes
-- of N are read is refused 12; all other input, with nothing after N included, gets joining's number."
module _ (σ : Setting) (input : List ℕ) where
  abbrev pub input_size : ℕ
  input_size = value_of (part 0 2 input)

  abbrev pub input_sheet : List ℕ
  input_sheet = part 2 input_size input

  abbrev pub input_servers : ℕ
  input_servers = get_or input (2 + input_size) 0

  abbrev pub input_returns : ℕ
  input_returns = value_of (part (3 + input_size) 2 input)

  abbrev pub input_joined : List ℕ
  input_joined = drop (5 + input_size) input

  unfoldable pub recount_refusal : ℕ
  recount_refusal =
      cond (leb (5 + input_size) (length input))
      (join_refusal σ input_servers input_sheet input_returns input_joined (σ.width * published_in (columns_of input_sheet))) 12

  unfoldable pub recount_text : List ℕ
  recount_text =
      cond (eqb recount_refusal 0)
      (accepted_text
      ++ decimal (join_count input_joined)
      ++ (10 ∷ [])
      ++ column_lines 1 (columns_of input_sheet) (join_totals σ input_servers input_sheet input_joined))
      (refusal_text recount_refusal)
