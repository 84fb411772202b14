-- `sheet::read` meets its contract. The loop's invariant: some columns are read, reading goes on from `at` behind them,
-- and the counts are theirs or both are past the limit; each way out is one law of reading. Assumes nothing.
use mathlib.Core.Path.{◌≡◌, refl, sym, ap, ap₂, ◌∙◌}
use mathlib.Core.List.{List, [], ◌∷◌, ◌++◌}
use mathlib.Core.Option.{some}
use Prim.Native.Nat.{ℕ, ◌≤◌, ◌<◌, ◌+◌, ◌-◌}
use native.Mathlib.Nat.{add-zero}
use native.Mathlib.Omega.{arith}
use borrow.Author.Rules.{rules}
use lib.ListN.{length, get_or, drop}
use Rattle.std.specs.Prelude.{Result, Err}
use Rattle.words.specs.Bytes.{part}
use Rattle.words.proofs.Splice.{length_part}
use Rattle.records.specs.Outcome.{Outcome, refused, ok}
use Rattle.records.specs.Records.{read_from}
use Rattle.records.specs.Refusals.{number_of}
use Rattle.records.specs.declared.Refusal.{Refusal}
use Rattle.records.specs.declared.Refusal.TheVariants as why
use Rattle.records.proofs.Records.{at_end, unknown_kind, cut_body, judged_refused, judged_ok}
use Rattle.records.proofs.Refusals.{outcome_passed}
use Rattle.rules.specs.Columns.{Column, yes_no, column_body, column_format, column_of}
use Rattle.columns.specs.declared.Column as code
use Rattle.columns.specs.declared.Counts.{Counts}
use Rattle.columns.specs.declared.Kind.{Kind}
use Rattle.columns.specs.Kinds.{code_of, bytes_of_kind, from_code, judged_of}
use Rattle.columns.proofs.ColumnBytes.{kind_some, kind_known, yes_no_body, yes_no_taken}
use Rattle.columns.proofs.Taken.{column_small, taken, outside}
use Rattle.sheet.proofs.Reader.{none_small, tracks_none, tracks_next, tracks_countable, answer_refused, answer_limited}
use Rattle.sheet.proofs.SheetBytes.{records_long}
use Rattle.sheet.proofs.read.Goals as goal

-- a yes/no at place i
yes_no_read : (s : List ℕ) (i : ℕ) (done : List Column) → i < length s → get_or s i 0 ≡ 17
    → read_from column_format (drop i s) 0 done ≡ read_from column_format (drop (i + 1) s) 0 (done ++ (yes_no ∷ []))
yes_no_read s i done h e =
    judged_ok column_format s i done 0 h (yes_no_body (get_or s i 0) e) yes_no (omega arith) (yes_no_taken (get_or s i 0) _ e)
    ∙ ap (λ (n : ℕ). read_from column_format (drop n s) 0 (done ++ (yes_no ∷ []))) (add-zero (i + 1))

-- the refusal of a byte that is no kind
no_kind : (e : Refusal) → ◌≡◌ {A = Result Kind Refusal} (Err e) (Err why.Kind)
    → ◌≡◌ {A = Outcome Counts} (refused (number_of e)) (refused 1)
no_kind e h = let q : e ≡ why.Kind = cc in rw q refl

-- a column of kind k at place i, of m bytes
module _
    (s : List ℕ) (i : ℕ) (done : List Column) (h : i < length s)
    (k : Kind) (byte_is : code_of k ≡ get_or s i 0) (m : ℕ) (size_is : m ≡ bytes_of_kind (code_of k))
  where
    size_here : m ≡ bytes_of_kind (get_or s i 0)
    size_here = size_is ∙ ap bytes_of_kind byte_is

    some_here : 1 ≤ m
    some_here = let l = kind_some k in omega arith

    known : column_body (get_or s i 0) ≡ some (bytes_of_kind (get_or s i 0) - 1)
    known = kind_known (get_or s i 0) (λ z. omega (arith, some_here, size_here))

    cut : length s - i < m → read_from column_format (drop i s) 0 done ≡ refused 1
    cut l =
        cut_body column_format s i done (bytes_of_kind (get_or s i 0) - 1) h known (omega (arith, some_here, size_here))

    module _ (whole : m ≤ length s - i) where
      abbrev body : List ℕ
      body = part (i + 1) (i + m - (i + 1)) s

      body_long : bytes_of_kind (code_of k) ≡ length body + 1
      body_long = let l = length_part (i + 1) (i + m - (i + 1)) s (omega arith) in omega (arith, some_here)

      judge_is : column_of (get_or s i 0) (part (i + 1) (bytes_of_kind (get_or s i 0) - 1) s) ≡ column_of (code_of k) body
      judge_is =
          let e : bytes_of_kind (get_or s i 0) - 1 ≡ i + m - (i + 1) = omega (arith, some_here, size_here) in
          ap₂ column_of (sym byte_is) (ap (λ (n : ℕ). part (i + 1) n s) e)

      refuse : (n : ℕ) → judged_of (column_of (code_of k) body) ≡ refused n → read_from column_format (drop i s) 0 done ≡ refused n
      refuse n e =
          judged_refused column_format s i done (bytes_of_kind (get_or s i 0) - 1) h known n (omega (arith, some_here, size_here))
          (judge_is ∙ (outside (code_of k) body n e).0)

      goes_on_lem : (c : code.Column) → judged_of (column_of (code_of k) body) ≡ ok c
          → read_from column_format (drop i s) 0 done ≡ read_from column_format (drop (i + m) s) 0 (done ++ (from_code c ∷ []))
      goes_on_lem c e =
          let q : i + 1 + (bytes_of_kind (get_or s i 0) - 1) ≡ i + m = omega (arith, some_here, size_here) in
          judged_ok column_format s i done (bytes_of_kind (get_or s i 0) - 1) h known (from_code c)
          (omega (arith, some_here, size_here)) (judge_is ∙ (taken (code_of k) body c e).is_ok)
          ∙ ap (λ (n : ℕ). read_from column_format (drop n s) 0 (done ++ (from_code c ∷ []))) q

pub loop-at-init : goal.loop-at-init
loop-at-init c =
    (search rules, rw c.none-counts.ensures none_small, ([], rw c.none-counts.ensures tracks_none, refl))

pub with-counts-requires : goal.with-counts-requires
with-counts-requires c =
    (c.loop-at.invariant.1, rw c.counts_of.ensures (column_small yes_no tt))

pub loop-at-preserved-then-s-at : goal.loop-at-preserved-then-s-at
loop-at-preserved-then-s-at c =
    let s = c.args.s.now in
    let i = c.loop-at.at in
    let d = c.loop-at.invariant.2.0 in (
      search rules,
      c.with-counts.ensures.1,
      (
        d ++ (yes_no ∷ []),
        rw (c.with-counts.ensures.0, c.counts_of.ensures)
            (tracks_next c.loop-at.counts d yes_no c.loop-at.invariant.2.1),
        c.loop-at.invariant.2.2 ∙ yes_no_read s i d (omega arith) c.if-s-at.true,
      ),
    )

pub returns-in_err-kind : goal.returns-in_err-kind
returns-in_err-kind c =
    let s = c.args.s.now in
    let o = c.in_err-kind.ensures in
    let unknown = rw o.ok_part at c.of.ensures in
    outcome_passed _ _ c.from_residual.ensures.1
    ∙ no_kind _ (rw o.ok_part at o.value)
    ∙ sym (answer_refused s 1 (c.loop-at.invariant.2.2
    ∙ unknown_kind column_format s c.loop-at.at c.loop-at.invariant.2.0 (omega arith) unknown))

pub returns-then-s-at-2 : goal.returns-then-s-at-2
returns-then-s-at-2 c =
    let s = c.args.s.now in
    let byte_is = rw c.in_ok-kind.ensures.ok_part at c.of.ensures in
    sym (answer_refused s 1 (c.loop-at.invariant.2.2
    ∙ cut s c.loop-at.at c.loop-at.invariant.2.0 (omega arith) c.in_ok-kind.kind byte_is _ c.bytes-size.ensures c.if-s-at-2.true))

pub slice_bounds-column_of-count : goal.slice_bounds-column_of-count
slice_bounds-column_of-count c = let l = kind_some c.in_ok-kind.kind in omega arith

pub slice_bounds-column_of-start : goal.slice_bounds-column_of-start
slice_bounds-column_of-start c = let l = kind_some c.in_ok-kind.kind in omega arith

pub column_of-requires : goal.column_of-requires
column_of-requires c =
    let byte_is = rw c.in_ok-kind.ensures.ok_part at c.of.ensures in
    body_long c.args.s.now c.loop-at.at c.loop-at.invariant.2.0 (omega arith) c.in_ok-kind.kind byte_is
    c.bytes-size.result c.bytes-size.ensures c.if-s-at-2.false

pub returns-in_err-column : goal.returns-in_err-column
returns-in_err-column c =
    let s = c.args.s.now in
    let byte_is = rw c.in_ok-kind.ensures.ok_part at c.of.ensures in
    outcome_passed _ _ c.from_residual-in_err-column.ensures.1
    ∙ sym (answer_refused s _ (c.loop-at.invariant.2.2
    ∙ refuse s c.loop-at.at c.loop-at.invariant.2.0 (omega arith) c.in_ok-kind.kind byte_is
    c.bytes-size.result c.bytes-size.ensures c.if-s-at-2.false _ (sym c.in_err-column.ensures)))

pub counts_of-requires-in-loop-at : goal.counts_of-requires-in-loop-at
counts_of-requires-in-loop-at c = (taken _ _ _ (sym c.in_ok-column.ensures)).in_limits

pub with-counts-requires-in-loop-at : goal.with-counts-requires-in-loop-at
with-counts-requires-in-loop-at c =
    (c.loop-at.invariant.1, rw c.counts_of-in-loop-at.ensures (taken _ _ _ (sym c.in_ok-column.ensures)).small)

pub loop-at-smaller : goal.loop-at-smaller
loop-at-smaller c = let l = kind_some c.in_ok-kind.kind in omega arith

pub loop-at-preserved : goal.loop-at-preserved
loop-at-preserved c =
    let d = c.loop-at.invariant.2.0 in
    let a = c.in_ok-column.column in
    let byte_is = rw c.in_ok-kind.ensures.ok_part at c.of.ensures in (
      search rules,
      c.with-counts-in-loop-at.ensures.1,
      (
        d ++ (from_code a ∷ []),
        rw (c.with-counts-in-loop-at.ensures.0, c.counts_of-in-loop-at.ensures)
            (tracks_next c.loop-at.counts d (from_code a) c.loop-at.invariant.2.1),
        c.loop-at.invariant.2.2
            ∙ goes_on_lem c.args.s.now c.loop-at.at d (omega arith) c.in_ok-kind.kind byte_is _ c.bytes-size.ensures
            c.if-s-at-2.false a (sym c.in_ok-column.ensures),
      ),
    )

pub limit-requires : goal.limit-requires
limit-requires c =
    let s = c.args.s.now in
    let d = c.loop-at.invariant.2.0 in
    let e = c.loop-at.invariant.2.2 ∙ at_end column_format s c.loop-at.at d c.loop-at-test.false in
    tracks_countable c.loop-at.counts d (length s) (records_long s d e) c.loop-at.invariant.2.1

pub returns : goal.returns
returns c =
    let s = c.args.s.now in
    let d = c.loop-at.invariant.2.0 in
    let e = c.loop-at.invariant.2.2 ∙ at_end column_format s c.loop-at.at d c.loop-at-test.false in
    c.limit.ensures ∙ sym (answer_limited s c.loop-at.counts d c.loop-at.invariant.2.1 e)
