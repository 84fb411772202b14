-- Lines of the text: a line is three numbers, each with a byte behind it; the lines of a column and of all columns grow at
-- their end; and the most bytes of each. By the definitions, which grow at their front. Assumes nothing.
use mathlib.Core.Path.{◌≡◌, refl, sym, ap, ◌∙◌}
use mathlib.Core.List.{List, [], ◌∷◌, ◌++◌, append_assoc, append-nil}
use Prim.Native.Nat.{ℕ, zero, suc, ◌+◌, ◌*◌, ◌≤◌, ◌<◌}
use native.Mathlib.Nat.{add-zero, zero-add}
use native.Mathlib.Numerals.{add-one}
use native.Mathlib.Omega.{arith}
use lib.ListN.{length, get_or, take, drop, length-append}
use lib.Seq.{get_or-drop, drop-drop}
use Rattle.rules.specs.Columns.{Column, yes_no, published_of, published_in}
use Rattle.rules.specs.Recount.{decimal, accepted_text, refused_text, refusal_text, line_text, option_lines, column_lines}
use Rattle.listing.proofs.Decimals.{decimal_most}

-- what grows at its end grows there behind a as well
behind : (a c d : List ℕ) {b : List ℕ} → b ≡ c ++ d → a ++ b ≡ a ++ c ++ d
behind a c d e = ap (λ (l : List ℕ). a ++ l) e ∙ sym (append_assoc a c d)

-- ---- one line
pub number_most : (n b : ℕ) → length (decimal n ++ (b ∷ [])) ≤ 21
number_most n b = rw length-append (omega (arith, decimal_most n))

module _ (column option total : ℕ) where
  pub line_is : line_text column option total
      ≡ (decimal column ++ (32 ∷ [])) ++ (decimal option ++ (32 ∷ [])) ++ (decimal total ++ (10 ∷ []))
  unfolding line_text
  line_is = simp append_assoc

  pub line_most : length (line_text column option total) ≤ 63
  unfolding line_text
  line_most = simp length-append (omega (arith, decimal_most column, decimal_most option, decimal_most total))

-- ---- the line of a refusal, and of a count
pub refusal_is : (n : ℕ) → refusal_text n ≡ refused_text ++ (decimal n ++ (10 ∷ []))
unfolding refusal_text
refusal_is n = append_assoc refused_text (decimal n) (10 ∷ [])

pub accepted_most : (n : ℕ) → length (accepted_text ++ (decimal n ++ (10 ∷ []))) ≤ 30
accepted_most n = omega (arith, number_most n 10)

-- ---- the lines of a column
pub options_none : (column : ℕ) (ts : List ℕ) → option_lines column 0 0 ts ≡ []
unfolding option_lines
options_none column ts = refl

options_end : (column o k : ℕ) (ts : List ℕ)
    → option_lines column o (suc k) ts ≡ option_lines column o k ts ++ line_text column (o + k) (get_or ts k 0)
unfolding option_lines
options_end column o zero ts = rw (add-zero, append-nil)
options_end column o (suc k) ts =
    let a : suc o + k ≡ o + suc k = omega arith in
    let b : 1 + k ≡ suc k = omega arith in
    let g : get_or (drop 1 ts) k 0 ≡ get_or ts (suc k) 0 = rw (get_or-drop, b) in
    let e : option_lines column (suc o) (suc k) (drop 1 ts)
    ≡ option_lines column (suc o) k (drop 1 ts) ++ line_text column (o + suc k) (get_or ts (suc k) 0)
    = options_end column (suc o) k (drop 1 ts) ∙ rw (g, a) in
    behind (line_text column o (get_or ts 0 0)) (option_lines column (suc o) k (drop 1 ts))
    (line_text column (o + suc k) (get_or ts (suc k) 0)) e

pub options_next : (column k : ℕ) (ts : List ℕ)
    → option_lines column 0 (k + 1) ts ≡ option_lines column 0 k ts ++ line_text column k (get_or ts k 0)
options_next column k ts = rw (add-one, options_end column 0 k ts, zero-add)

pub options_most : (column o n : ℕ) (ts : List ℕ) → length (option_lines column o n ts) ≤ 63 * n
unfolding option_lines
options_most column o zero ts = omega arith
options_most column o (suc n) ts =
    rw length-append (omega (arith, line_most column o (get_or ts 0 0), options_most column (suc o) n (drop 1 ts)))

-- ---- the lines of all columns
pub columns_none : (ts : List ℕ) → column_lines 1 [] ts ≡ []
unfolding column_lines
columns_none ts = refl

columns_end : (column k : ℕ) (cs : List Column) (ts : List ℕ) → k < length cs
    → column_lines column (take (suc k) cs) ts
    ≡ column_lines column (take k cs) ts
    ++ option_lines (column + k) 0 (published_of (get_or cs k yes_no)) (drop (published_in (take k cs)) ts)
unfolding column_lines published_in
columns_end column k [] ts h = absurd (omega arith)
columns_end column zero (c ∷ cs) ts h = rw (add-zero, append-nil)
columns_end column (suc k) (c ∷ cs) ts h =
    let a : suc column + k ≡ column + suc k = omega arith in
    let d : drop (published_in (take k cs)) (drop (published_of c) ts) ≡ drop (published_of c + published_in (take k cs)) ts
    = drop-drop (published_in (take k cs)) (published_of c) ts in
    let before = column_lines (suc column) (take k cs) (drop (published_of c) ts) in
    let last = option_lines (column + suc k) 0 (published_of (get_or cs k yes_no)) (drop (published_of c + published_in (take k cs)) ts) in
    let e : column_lines (suc column) (take (suc k) cs) (drop (published_of c) ts) ≡ before ++ last
    = columns_end (suc column) k cs (drop (published_of c) ts) (omega arith) ∙ rw (d, a) in
    behind (option_lines column 0 (published_of c) ts) before last e

pub columns_next : (k : ℕ) (cs : List Column) (ts : List ℕ) → k < length cs
    → column_lines 1 (take (k + 1) cs) ts
    ≡ column_lines 1 (take k cs) ts ++ option_lines (k + 1) 0 (published_of (get_or cs k yes_no)) (drop (published_in (take k cs)) ts)
columns_next k cs ts h =
    let a : 1 + k ≡ k + 1 = omega arith in
    ap (λ (n : ℕ). column_lines 1 (take n cs) ts) (add-one k) ∙ rw (← a) (columns_end 1 k cs ts h)

pub columns_most : (column : ℕ) (cs : List Column) (ts : List ℕ) → length (column_lines column cs ts) ≤ 63 * published_in cs
unfolding column_lines published_in
columns_most column [] ts = omega arith
columns_most column (c ∷ cs) ts =
    rw length-append
    (omega (arith, options_most column 0 (published_of c) ts, columns_most (suc column) cs (drop (published_of c) ts)))
