-- `values::encode_columns` meets its contract. The loop's invariant: the columns before the walk's place stand encoded at the
-- front of `out`, up to that place's entry (`encoding_next`). Assumes nothing.
use mathlib.Core.Path.{◌≡◌, refl, sym, ap, ap₂, ◌∙◌}
use mathlib.Core.List.{List}
use Prim.Native.Nat.{ℕ, ◌+◌, ◌-◌, ◌≤◌}
use native.Mathlib.Nat.{zero-add}
use native.Mathlib.Numerals.{add-one}
use native.Mathlib.Omega.{arith}
use borrow.Author.Rules.{rules}
use borrow.Rule.Slice.PartMut.{mid_len}
use lib.ListN.{length, get_or, take}
use lib.Seq.{take_all}
use Rattle.algebra.specs.Lists.{tabulate}
use Rattle.algebra.proofs.Tables.{length_tabulate}
use Rattle.words.specs.Bytes.{splice, elements_of}
use Rattle.words.proofs.Splice.{splice_none}
use Rattle.words.proofs.Loops.{grow, part_put}
use Rattle.rules.specs.Columns.{Column, yes_no, entries_of, columns_of}
use Rattle.rules.specs.Values.{encoded, encoding}
use Rattle.columns.specs.Kinds.{from_code}
use Rattle.sheet.specs.declared.cursor.Cursor.{Cursor}
use Rattle.sheet.specs.declared.cursor.Place.{Place}
use Rattle.sheet.specs.declared.cursor.Step.{Step}
use Rattle.sheet.specs.declared.cursor.Walk.{Walk}
use Rattle.sheet.specs.Cursor.{Stands, step_at}
use Rattle.sheet.specs.Walk.{Passes}
use Rattle.values.specs.Encode.{Encodable}
use Rattle.sheet.proofs.Cursors.{place}
use Rattle.sheet.proofs.Walks.{next_index, column_seen, column_limited, passed, ended}
use Rattle.values.proofs.Encodings.{count_values, encoding_next, encoding_long}
use Rattle.values.proofs.encode_columns.Invariants.{up_to}
use Rattle.values.proofs.encode_columns.Goals as goal
use Rattle.values.proofs.encode_columns.Goals.{In-Some}

none_yet : (s values d : List ℕ) → d ≡ up_to s values d 0
unfolding encoding
none_yet s values d = sym (splice_none d 0)

module _
    {s : List ℕ} {c : Cursor} (values d : List ℕ) (p : Encodable s values d) (h : Stands s c) (r : Step)
    (e : r ≡ step_at s c.index)
  where
    -- the column's entries lie within the buffer
    within : c.entry + entries_of (from_code r.column) ≤ length d
    within = rw (column_seen h r e) (omega (arith, (place h).entries_fit, p.room))

    -- one column more
    one_more_lem : (out l : List ℕ) (v : ℕ) → out ≡ up_to s values d c.index → v ≡ get_or (elements_of 4 values) c.index 0
        → l ≡ splice out c.entry (tabulate (encoded (from_code r.column) v) (entries_of (from_code r.column)))
        → l ≡ up_to s values d r.next.index
    one_more_lem out l v inv q f =
        let cs = columns_of s in
        let vs = elements_of 4 values in
        let k = c.index in
        let n : length vs ≡ length cs = count_values values (length cs) p.a_value_each in
        let a = get_or cs k yes_no in
        let long : length (encoding (take k cs) (take k vs)) ≡ c.entry
        = encoding_long cs vs k (omega (arith, h.within)) (omega (arith, h.within))
        ∙ sym (ap (λ (x : Cursor). x.entry) h.here) in
        let zs : ℕ → List ℕ = λ x. tabulate (encoded a x) (entries_of a) in
        f
        ∙ ap₂ (λ (o : List ℕ) (x : Column). splice o c.entry (tabulate (encoded x v) (entries_of x))) inv (column_seen h r e)
        ∙ ap (λ (x : ℕ). splice (up_to s values d k) c.entry (zs x)) q
        ∙ ap (λ (x : ℕ). splice (up_to s values d k) x (zs (get_or vs k 0))) (sym (zero-add c.entry))
        ∙ grow d 0 (encoding (take k cs) (take k vs)) (zs (get_or vs k 0)) c.entry long
        (omega (arith, (place h).entries_fit, p.room))
        ∙ ap (splice d 0) (sym (encoding_next cs vs k h.within (omega (arith, h.within))))
        ∙ ap (up_to s values d) (sym (next_index h r e ∙ add-one k))

-- the entries of the column passed
entries_passed : {s : List ℕ} {c c' : Cursor} {p : Place} → Passes s c p c' → p.after.entry ≡ p.before.entry + entries_of (from_code p.column)
entries_passed {s} {c} {c'} {p} t =
    let h = t.stands in
    let last : c'.entry ≡ c.entry + entries_of (get_or (columns_of s) c.index yes_no) =
    ap (λ (x : Step). x.next.entry) t.step_is ∙ ap (λ (x : Cursor). x.entry) (place h).next_is in
    let same : entries_of (from_code p.column) ≡ entries_of (get_or (columns_of s) c.index yes_no) =
    ap entries_of (column_seen h _ t.step_is) in
    omega (arith, last, same, ap (λ (x : Cursor). x.entry) t.after_is, ap (λ (x : Cursor). x.entry) t.before_is)

-- a place's entries lie within the buffer
record Room (p : Place) (out : List ℕ) : Type 0 where
  span : p.after.entry ≡ p.before.entry + entries_of (from_code p.column)
  fits : p.before.entry + entries_of (from_code p.column) ≤ length out

-- the column passed
here : (c : In-Some) → Passes c.args.s.now c.loop-place.place-iterator.next c.in-Some.place c.next.new.self.next
here c = passed c.loop-place.invariant.2 c.in-Some.ensures.steps.1

pub loop-place-init : goal.loop-place-init
loop-place-init c =
    let n = none_yet c.args.s.now c.args.values.now c.args.out.now in
    let g = c.into_iter-place-iterator.ensures.into_iter_gives in
    let b = ap (λ (x : Walk). x.next.index) g ∙ ap (λ (x : Cursor). x.index) c.columns-place-items.ensures.next in (
      tt,
      tt,
      ap (λ (x : Walk). x.sheet.now) g ∙ c.columns-place-items.ensures.sheet,
      n ∙ ap (up_to c.args.s.now c.args.values.now c.args.out.now) (sym b),
      refl,
    )

pub at-v-requires : goal.at-v-requires
at-v-requires c =
    let p = here (goal.at.at-v-requires c).In-Some in
    let i = ap (λ (x : Cursor). x.index) p.before_is in
    omega (arith, p.stands.within, c.requires.a_value_each, i)

-- the buffer has room for its entries
room : (c : In-Some) → Room c.in-Some.place c.loop-place.out
room c =
    let p = here c in
    let w = within _ _ c.requires p.stands _ p.step_is in
    let i = ap (λ (x : Cursor). x.entry) p.before_is in
    record { span = entries_passed p; fits = omega (arith, w, c.loop-place.invariant.4, i) }

pub offset_bounds-out-place : goal.offset_bounds-out-place
offset_bounds-out-place c =
    let p = here (goal.at.offset_bounds-out-place c).In-Some in
    let q = place p.stands in
    let i = ap (λ (x : Cursor). x.entry) p.before_is in
    omega arith

pub slice_bounds-encode_column-count : goal.slice_bounds-encode_column-count
slice_bounds-encode_column-count c = let r = room (goal.at.slice_bounds-encode_column-count c).In-Some in omega arith

pub slice_bounds-encode_column-start : goal.slice_bounds-encode_column-start
slice_bounds-encode_column-start c = let r = room (goal.at.slice_bounds-encode_column-start c).In-Some in omega arith

pub slice_bounds-encode_column-end : goal.slice_bounds-encode_column-end
slice_bounds-encode_column-end c = let r = room (goal.at.slice_bounds-encode_column-end c).In-Some in omega arith

pub encode_column-requires : goal.encode_column-requires
encode_column-requires c =
    let p = here (goal.at.encode_column-requires c).In-Some in
    let r = room (goal.at.encode_column-requires c).In-Some in
    let k = c.in-Some.place in
    (mid_len k.before.entry k.after.entry c.loop-place.out (omega arith) ∙ omega arith, column_limited p.stands _ p.step_is)

pub loop-place-preserved : goal.loop-place-preserved
loop-place-preserved c =
    let p = here (goal.at.loop-place-preserved c).In-Some in
    let v = c.at-v.ensures ∙ ap (λ (x : Cursor). get_or (elements_of 4 c.args.values.now) x.index 0) p.before_is in
    let r = room (goal.at.loop-place-preserved c).In-Some in
    let k = c.in-Some.place in
    let a = from_code k.column in
    let e = tabulate (encoded a c.at-v.result) (entries_of a) in
    let l : length c.encode_column.new.out ≡ k.after.entry - k.before.entry =
    omega (arith, ap length c.encode_column.ensures, length_tabulate (encoded a c.at-v.result) (entries_of a)) in
    let o = part_put k.before.entry k.after.entry c.loop-place.out c.encode_column.new.out (omega arith) (omega arith) l
    ∙ ap (splice c.loop-place.out k.before.entry) c.encode_column.ensures
    ∙ ap (λ (x : Cursor). splice c.loop-place.out x.entry e) p.before_is in (
      tt,
      tt,
      c.in-Some.ensures.steps.0 ∙ c.loop-place.invariant.2,
      one_more_lem _ _ c.requires p.stands _ p.step_is _ _ _ c.loop-place.invariant.3 v o,
      search rules,
    )

pub returns : goal.returns
returns c =
    let s = c.args.s.now in
    let values = c.args.values.now in
    let k = c.loop-place.place-iterator.next.index in
    let e = ended c.loop-place.invariant.2 c.in-None.ensures.steps.1.0 in
    let n = count_values values (length (columns_of s)) c.requires.a_value_each in
    c.loop-place.invariant.3
    ∙ ap₂ (λ (x : List Column) (y : List ℕ). splice c.args.out.now 0 (encoding x y))
    (take_all k (columns_of s) (omega arith)) (take_all k (elements_of 4 values) (omega arith))
