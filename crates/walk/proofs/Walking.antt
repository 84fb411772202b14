-- A loop over the columns of a sheet that is read, which writes one part of a buffer for each column: after k columns the
-- buffer holds the parts of the first k, then what it held before. Said once for the walks. Assumes nothing.
use mathlib.Core.Path.{◌≡◌, refl, sym, ap, ap₂, ◌∙◌, subst}
use mathlib.Core.List.{List, [], ◌∷◌, ◌++◌, append_assoc, append-nil}
use Prim.Native.Nat.{ℕ, zero, suc, ◌+◌, ◌-◌, ◌≤◌, ◌<◌}
use native.Mathlib.Nat.{add-zero}
use native.Mathlib.Numerals.{add-one}
use native.Mathlib.Omega.{arith}
use borrow.Rule.Slice.PartMut.{put_mid, Post-is}
use lib.ListN.{length, length-append, length-drop, get_or, take, drop, drop_of_length-le}
use lib.Seq.{take_all, take_at, drop-append-add, drop-drop}
use Rattle.rules.specs.Columns.{Column, yes_no, entries_of, entries_in, columns_of}
use Rattle.rules.specs.Circuit.{gates_of, gates_in}
use Rattle.rules.proofs.Circuits.Limits.{InLimits}
use Rattle.columns.specs.Kinds.{from_code}
use Rattle.columns.proofs.ColumnBytes.{from_to_code}
use Rattle.columns.proofs.Sums.{Total, total_next}
use Rattle.sheet.specs.declared.cursor.Cursor.{Cursor}
use Rattle.sheet.specs.declared.cursor.Step.{Step}
use Rattle.sheet.specs.Cursor.{begin, cursor_at, Stands, step_at}
use Rattle.sheet.proofs.Cursors.{place}

-- the parts of the columns, where e entries and t multiplications stand before them
unfoldable pub walked : (ℕ → ℕ → Column → List ℕ) → ℕ → ℕ → List Column → List ℕ
walked g e t [] = []
walked g e t (c ∷ cs) = g e t c ++ walked g (e + entries_of c) (t + gates_of c) cs

-- what a loop keeps: the parts of the columns before the cursor, done members in all, then what was there before
pub record Walking (g : ℕ → ℕ → Column → List ℕ) (In : List Column → ℕ) (s before now : List ℕ) (c : Cursor) (done : ℕ)
    : Type 0 where
  pub here : c ≡ cursor_at s c.index
  pub same : length now ≡ length before
  pub count : done ≡ In (take c.index (columns_of s))
  pub filled : now ≡ walked g 0 0 (take c.index (columns_of s)) ++ drop done before

-- the part of a column has `of` members, and `In` adds these up
pub record Parts (g : ℕ → ℕ → Column → List ℕ) (of : Column → ℕ) (In : List Column → ℕ) : Type 0 where
  pub total : Total of In
  pub each : (e t : ℕ) (c : Column) → length (g e t c) ≡ of c

-- what a turn knows of the column that it takes
pub record Turned (s : List ℕ) (c : Cursor) (step : Step) : Type 0 where
  pub within : c.index < length (columns_of s)
  pub column_is : from_code step.column ≡ get_or (columns_of s) c.index yes_no
  pub in_limits : InLimits (from_code step.column)
  pub next_is : step.next ≡ cursor_at s (c.index + 1)
  pub entries_fit : c.entry + entries_of (from_code step.column) ≤ entries_in (columns_of s)
  pub entries_few : entries_in (columns_of s) ≤ 256
  pub gates_next : step.next.gates ≡ c.gates + gates_of (from_code step.column)
  pub gates_fit : step.next.gates ≤ gates_in (columns_of s)
  pub gates_few : gates_in (columns_of s) ≤ 256

pub turned : {s : List ℕ} {c : Cursor} (step : Step) → Stands s c → step ≡ step_at s c.index → Turned s c step
turned {s} {c} step t e =
    let p = place t in
    let q : from_code step.column ≡ get_or (columns_of s) c.index yes_no
    = ap (λ (u : Step). from_code u.column) e ∙ from_to_code _ in
    let n : step.next ≡ cursor_at s (c.index + 1) = ap (λ (u : Step). u.next) e in
    let g : step.next.gates ≡ c.gates + gates_of (get_or (columns_of s) c.index yes_no)
    = ap (λ (u : Cursor). u.gates) (n ∙ p.next_is) in
    record {
      within = t.within;
      column_is = q;
      in_limits = rw q p.in_limits;
      next_is = n;
      entries_fit = rw q p.entries_fit;
      entries_few = p.entries_most;
      gates_next = rw q g;
      gates_fit = omega (arith, g, p.gates_fit);
      gates_few = p.gates_most;
    }

walked_next : (g : ℕ → ℕ → Column → List ℕ) (cs : List Column) (k e t : ℕ) → k < length cs
    → walked g e t (take (suc k) cs)
    ≡ walked g e t (take k cs) ++ g (e + entries_in (take k cs)) (t + gates_in (take k cs)) (get_or cs k yes_no)
unfolding walked entries_in gates_in
walked_next g [] k e t h = absurd (omega arith)
walked_next g (c ∷ cs) zero e t h =
    append-nil (g e t c) ∙ ap₂ (λ a b. g a b c) (sym (add-zero e)) (sym (add-zero t))
walked_next g (c ∷ cs) (suc k) e t h =
    let a : e + entries_of c + entries_in (take k cs) ≡ e + (entries_of c + entries_in (take k cs)) = omega arith in
    let b : t + gates_of c + gates_in (take k cs) ≡ t + (gates_of c + gates_in (take k cs)) = omega arith in
    ap (g e t c ++◌) (walked_next g cs k (e + entries_of c) (t + gates_of c) (omega arith))
    ∙ sym (append_assoc (g e t c) _ _)
    ∙ ap₂
    (λ a b. g e t c ++ walked g (e + entries_of c) (t + gates_of c) (take k cs) ++ g a b (get_or cs k yes_no)) a b

module _ {g : ℕ → ℕ → Column → List ℕ} {of : Column → ℕ} {In : List Column → ℕ} (parts : Parts g of In) where
  abbrev total : Total of In
  total = parts.total

  length_walked : (cs : List Column) (e t : ℕ) → length (walked g e t cs) ≡ In cs
  unfolding walked
  length_walked [] e t = sym total.nothing
  length_walked (c ∷ cs) e t =
      length-append (g e t c) _
      ∙ ap₂ ◌+◌ (parts.each e t c) (length_walked cs (e + entries_of c) (t + gates_of c))
      ∙ sym (total.next c cs)

  module _ {s : List ℕ} where
    pub walk_start : (d : List ℕ) (c : Cursor) → c ≡ begin → Walking g In s d d c 0
    unfolding walked
    walk_start d c e = rw e (record {
      here = refl;
      same = refl;
      count = sym total.nothing;
      filled = refl;
    })

    walk_turn : {d l : List ℕ} {c : Cursor} {done : ℕ} (next : Cursor) (part : List ℕ) (to : ℕ) → Walking g In s d l c done
        → c.index < length (columns_of s) → next ≡ cursor_at s (c.index + 1)
        → part ≡ g c.entry c.gates (get_or (columns_of s) c.index yes_no)
        → to ≡ done + of (get_or (columns_of s) c.index yes_no) → to ≤ length d
        → Walking g In s d (take done l ++ part ++ drop to l) next to
    walk_turn {d} {l} {c} {done} next part to w in_bounds e q u m = rw e (record {
      here = refl;
      same = long;
      count = u ∙ ap (◌+ of a) w.count ∙ sym (total_next total cs k in_bounds);
      filled = whole;
    })
      where
        cs : List Column
        cs = columns_of s

        k : ℕ
        k = c.index

        a : Column
        a = get_or (columns_of s) c.index yes_no

        old : List ℕ
        old = walked g 0 0 (take c.index (columns_of s))

        old_long : length old ≡ done
        old_long = length_walked (take c.index (columns_of s)) 0 0 ∙ sym w.count

        part_long : length part ≡ of a
        part_long = ap length q ∙ parts.each c.entry c.gates a

        grown : walked g 0 0 (take (c.index + 1) (columns_of s)) ≡ old ++ part
        grown =
            ap (λ n. walked g 0 0 (take n cs)) (add-one k)
            ∙ walked_next g cs k 0 0 in_bounds
            ∙ ap (old ++◌)
            (ap₂ (λ e t. g e t a)
            (omega (arith, ap (λ (c : Cursor). c.entry) w.here))
            (omega (arith, ap (λ (c : Cursor). c.gates) w.here))
            ∙ sym q)

        rest : drop to l ≡ drop to d
        rest =
            ap (drop to) w.filled
            ∙ ap (λ n. drop n (old ++ drop done d)) (u ∙ ap (◌+ of a) (sym old_long))
            ∙ drop-append-add old (drop done d) (of a)
            ∙ drop-drop (of a) done d
            ∙ ap (λ n. drop n d) (sym u)

        whole : take done l ++ part ++ drop to l ≡ walked g 0 0 (take (c.index + 1) (columns_of s)) ++ drop to d
        whole =
            ap₂ (λ x y. x ++ part ++ y) (ap (take done) w.filled ∙ take_at old (drop done d) done old_long) rest
            ∙ ap (◌++ drop to d) (sym grown)

        long : length (take done l ++ part ++ drop to l) ≡ length d
        long =
            ap length whole
            ∙ length-append (walked g 0 0 (take (c.index + 1) (columns_of s))) (drop to d)
            ∙ omega (arith, ap length grown, length-append old part, old_long, part_long, length-drop to d)

    -- the same, as a part of the buffer that is lent and comes back
    pub walk_put : {d l : List ℕ} {c : Cursor} {done : ℕ} (step : Step) (part : List ℕ) (to : ℕ) → Walking g In s d l c done
        → Turned s c step → part ≡ g c.entry c.gates (from_code step.column)
        → to ≡ done + of (from_code step.column) → to ≤ length d
        → Walking g In s d (put_mid done (to - done) l part) step.next to
    walk_put {d} {l} {c} {done} step part to w t q u m =
        let col = t.column_is in
        subst (λ (z : List ℕ). Walking g In s d z step.next to)
        (append_assoc (take done l) part (drop to l)
        ∙ ap (λ (z : List ℕ). take done l ++ (part ++ z)) (sym (Post-is done to l (omega arith))))
        (walk_turn step.next part to w t.within t.next_is (q ∙ ap (g c.entry c.gates) col)
        (u ∙ ap (λ a. done + of a) col) m)

    pub walk_finish : {d l : List ℕ} {c : Cursor} {done : ℕ} → Walking g In s d l c done
        → c.index ≡ length (columns_of s) → length d ≡ In (columns_of s) → l ≡ walked g 0 0 (columns_of s)
    walk_finish {d} {l} {c} {done} w h m =
        let all : take c.index (columns_of s) ≡ columns_of s = take_all c.index (columns_of s) (omega arith) in
        let none : length d ≤ done = omega (arith, w.count, ap In all) in
        w.filled
        ∙ ap₂ (λ x y. walked g 0 0 x ++ y) all (drop_of_length-le d none)
        ∙ append-nil (walked g 0 0 (columns_of s))
