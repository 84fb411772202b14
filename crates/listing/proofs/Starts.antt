-- Input that is longer than any that can be joined: its text is that of its start. Messages longer than those of eight
-- servers with 256 published entries are refused, and by a number that does not look at them; the parts before them are the
-- same in the start. Assumes that the input is bytes.
use mathlib.Core.Path.{◌≡◌, refl, sym, ap, ◌∙◌}
use mathlib.Core.Bool.{Bool, true, false}
use mathlib.Core.List.{List}
use Prim.Native.Nat.{ℕ, ◌+◌, ◌*◌, ◌^◌, ◌≤◌, ◌<◌}
use native.Mathlib.Nat.{mul-le-mul}
use native.Mathlib.Omega.{arith}
use borrow.Author.Tests.{ne_eqb, leb-true, leb-false}
use lib.Dec.{leb}
use lib.ListN.{length, get_or, take, length-drop}
use lib.Seq.{get_or-take, length-take-le, take_all}
use Rattle.algebra.specs.Lists.{All}
use Rattle.words.specs.Bytes.{value_of, part, splice}
use Rattle.words.proofs.Below.{all_take}
use Rattle.words.proofs.Numbers.{value_below}
use Rattle.words.proofs.Splice.{part_of_take, length_part}
use Rattle.records.specs.Outcome.{or_else}
use Rattle.records.proofs.Outcome.{or_first, or_zero}
use Rattle.rules.specs.Settings.{document01}
use Rattle.rules.specs.Columns.{within, published_in, columns_of, sheet_fault, servers_fault, returns_fault, totals_fault}
use Rattle.rules.specs.Joining.{joined_fault, join_refusal}
use Rattle.rules.specs.Recount.{input_size, input_servers, input_sheet, input_returns, input_joined, refusal_text, recount_text}
use Rattle.rules.proofs.Circuits.Limits.{within_both}
use Rattle.listing.specs.Text.{joined_text, Lists, start_most, ListsAll}
use Rattle.listing.proofs.Inputs.{text_joined}
use Rattle.listing.proofs.Texts.{published_few}

-- the number of joined messages that are too long
unfoldable long_number : ℕ → List ℕ → ℕ → ℕ
long_number servers sheet returns =
    or_else (servers_fault servers)
    (or_else (sheet_fault sheet)
    (or_else (returns_fault returns) (or_else (totals_fault document01 returns (columns_of sheet)) 12)))

module _ (servers : ℕ) (sheet : List ℕ) (returns : ℕ) where
  long_some : long_number servers sheet returns ≡ 0 → ⊥
  unfolding long_number
  long_some e =
      let a = (or_zero (servers_fault servers) _ e).1 in
      let b = (or_zero (sheet_fault sheet) _ a).1 in
      let c = (or_zero (returns_fault returns) _ b).1 in
      let d = (or_zero (totals_fault document01 returns (columns_of sheet)) 12 c).1 in
      omega (arith, d)

  module _ (joined : List ℕ) (long : 8240 < length joined) where
    long_fault : servers ≤ 8 → joined_fault document01 servers (columns_of sheet) returns joined ≡ 12
    unfolding joined_fault
    long_fault h =
        let p = published_in (columns_of sheet) in
        let few = published_few sheet in
        let most : (6 + 4 * p) * servers ≤ 1030 * 8
        = mul-le-mul {n₁ = 6 + 4 * p} {m₁ = servers} {n₂ = 1030} {m₂ = 8} (omega arith) h in
        rw (ne_eqb (length joined) ((6 + 4 * p) * servers) (λ z. omega arith))

    long_number_lem : (room : ℕ) → join_refusal document01 servers sheet returns joined room ≡ long_number servers sheet returns
    unfolding join_refusal long_number
    long_number_lem room = by (within 2 8 servers) refl
      where
        by : (b : Bool) → within 2 8 servers ≡ b
            → join_refusal document01 servers sheet returns joined room ≡ long_number servers sheet returns
        by true e = rw (long_fault (within_both 2 8 servers e).1, or_first 12 _ (λ z. omega arith))
        by false e = rw e (or_first 2 _ (λ z. omega arith) ∙ sym (or_first 2 _ (λ z. omega arith)))

    long_text : joined_text servers sheet returns joined ≡ refusal_text (long_number servers sheet returns)
    unfolding joined_text
    long_text = rw (long_number_lem (4 * published_in (columns_of sheet)), ne_eqb (long_number servers sheet returns) 0 long_some)

long_input : (input : List ℕ) → 5 + input_size document01 input ≤ length input → 8240 < length (input_joined document01 input)
    → recount_text document01 input
    ≡ refusal_text (long_number (input_servers document01 input) (input_sheet document01 input) (input_returns document01 input))
long_input input h long = text_joined input h ∙ long_text _ _ _ (input_joined document01 input) long

-- the input's parts in its first n bytes
module _ (input : List ℕ) (bytes : All (λ b. b < 256) input) (n : ℕ) (many : 73781 ≤ n) (more : n < length input) where
  abbrev start : List ℕ
  start = take n input

  abbrev size : ℕ
  size = input_size document01 input

  start_long : length start ≡ n
  start_long = length-take-le n input (omega arith)

  size_most : size < 65536
  size_most =
      let l : length (part 0 2 input) ≡ 2 = length_part 0 2 input (omega arith) in
      let b : size < 256 ^ 2 = value_below 2 (part 0 2 input) l (all_take _ 2 bytes) in
      omega arith

  same_size : input_size document01 start ≡ size
  same_size = ap value_of (part_of_take 0 2 n input (omega arith))

  same_sheet : input_sheet document01 start ≡ input_sheet document01 input
  same_sheet = ap (λ (k : ℕ). part 2 k start) same_size ∙ part_of_take 2 size n input (omega (arith, size_most))

  same_servers : input_servers document01 start ≡ input_servers document01 input
  same_servers = ap (λ (k : ℕ). get_or start (2 + k) 0) same_size ∙ get_or-take n input (2 + size) 0 (omega (arith, size_most))

  same_returns : input_returns document01 start ≡ input_returns document01 input
  same_returns =
      ap (λ (k : ℕ). value_of (part (3 + k) 2 start)) same_size
      ∙ ap value_of (part_of_take (3 + size) 2 n input (omega (arith, size_most)))

  cut : recount_text document01 start ≡ recount_text document01 input
  cut =
      let l = start_long in
      let z = same_size in
      let m = size_most in
      let long : 8240 < length (input_joined document01 input) = rw length-drop (omega arith) in
      let long' : 8240 < length (input_joined document01 start) = rw length-drop (omega arith) in
      long_input start (omega arith) long'
      ∙ rw (same_servers, same_sheet, same_returns) (sym (long_input input (omega arith) long))

-- the text of an input is that of its first n bytes, where n is 73,781 or more
pub start_text : (input : List ℕ) → All (λ b. b < 256) input → (n : ℕ) → 73781 ≤ n
    → recount_text document01 (take n input) ≡ recount_text document01 input
start_text input bytes n many = by (leb (length input) n) refl
  where
    by : (b : Bool) → leb (length input) n ≡ b → recount_text document01 (take n input) ≡ recount_text document01 input
    by true e = ap (recount_text document01) (take_all n input (leb-true (length input) n e))
    by false e = cut input bytes n many (leb-false (length input) n e)

-- what is said of a start is said of each input with it
pub lists_all : (start out : List ℕ) (r : ℕ) (out' : List ℕ) → Lists start out r out' → ListsAll start out r out'
lists_all start out r out' l = record { lists = each; within = l.within }
  where
    each : (input : List ℕ) → All (λ b. b < 256) input → start ≡ take start_most input → Lists input out r out'
    each input bytes e =
        let t : recount_text document01 start ≡ recount_text document01 input
        = ap (recount_text document01) e ∙ start_text input bytes start_most (omega arith) in
        record { answer_is = l.answer_is ∙ ap length t; out_is = l.out_is ∙ ap (splice out 0) t; within = l.within }
