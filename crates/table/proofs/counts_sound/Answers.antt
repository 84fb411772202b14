-- `table::counts_sound` meets its contract: the sheet that is cut out is the table's (`cut_reads`), and the tests are the definition's
-- (`counts_are`). Assumes nothing.
use mathlib.Core.Path.{◌≡◌, refl, ◌∙◌}
use mathlib.Core.Bool.{◌&&◌}
use Prim.Native.Nat.{◌-◌}
use lib.Dec.{leb}
use lib.ListN.{length}
use Rattle.rules.specs.Settings.{document01}
use Rattle.rules.specs.Columns.{totals_fit}
use Rattle.rules.specs.Table.{columns_in}
use Rattle.table.specs.Reading.{length_of}
use Rattle.table.proofs.Judged.{cut_reads, fits_is, counts_are}
use Rattle.table.proofs.counts_sound.Goals as goal
use Rattle.table.proofs.counts_sound.Goals.{Joined-k, then-is_ok, else-is_ok, then-length-t, else-length-t, then-k, else-k}

pub check_returns-requires : goal.check_returns-requires
check_returns-requires c = cut_reads c.args.t.now c.args.k c.requires _ c.sheet_part.ensures

-- all but the last test
but_last : (c : Joined-k)
    → c.if-k.value
    ≡ ((totals_fit document01 c.args.k.returns (columns_in document01 c.args.t.now) && leb (length_of c.args.k) (length c.args.t.now))
    && leb c.args.k.decided c.args.k.returns)
    && leb c.args.waiting (c.args.k.returns - c.args.k.decided)
but_last c =
    let a = c.args in
    let fit : c.is_ok.result ≡ totals_fit document01 a.k.returns (columns_in document01 a.t.now)
    = c.is_ok.ensures.value ∙ fits_is a.t.now a.k c.requires _ c.sheet_part.ensures c.check_returns.result c.check_returns.ensures in
    let long : c.if-is_ok.value ≡ c.is_ok.result && leb (length_of a.k) (length a.t.now)
    = elim c.if-is_ok.branch [
      | then-is_ok w ↦ rw (w.value-is, w.if-is_ok.true, w.length.ensures) refl
      | else-is_ok w ↦ rw (w.value-is, w.if-is_ok.false) refl
    ] in
    let decided : c.if-length-t.value ≡ c.if-is_ok.value && leb a.k.decided a.k.returns
    = elim c.if-length-t.branch [
      | then-length-t w ↦ rw (w.value-is, w.if-length-t.true) refl
      | else-length-t w ↦ rw (w.value-is, w.if-length-t.false) refl
    ] in
    let waiting : c.if-k.value ≡ c.if-length-t.value && leb a.waiting (a.k.returns - a.k.decided)
    = elim c.if-k.branch [
      | then-k w ↦ rw (w.value-is, w.if-k.true) refl
      | else-k w ↦ rw (w.value-is, w.if-k.false) refl
    ] in
    rw (waiting, decided, long, fit) refl

pub returns-then-waiting-k : goal.returns-then-waiting-k
returns-then-waiting-k c =
    let a = c.args in
    rw c.if-waiting-k.true at
    (counts_are a.k a.waiting a.t.now c.if-k.value (but_last (goal.at.returns-then-waiting-k c).Joined-k))

pub returns-else-waiting-k : goal.returns-else-waiting-k
returns-else-waiting-k c =
    let a = c.args in
    c.if-waiting-k.false
    ∙ rw c.if-waiting-k.false at
    (counts_are a.k a.waiting a.t.now c.if-k.value (but_last (goal.at.returns-else-waiting-k c).Joined-k))
