-- `listing::put_joined` meets its contract: the answer of joining decides (`text_refused`, `text_counted`). Assumes nothing.
use native.Mathlib.Omega.{arith}
use mathlib.Core.Path.{sym}
use Rattle.listing.proofs.Lines.{accepted_most}
use Rattle.listing.proofs.Puts.{put_on, put_as}
use Rattle.listing.proofs.Texts.{text_refused, text_counted}
use Rattle.listing.proofs.put_joined.Goals as goal

pub returns-in-Err : goal.returns-in-Err
returns-in-Err c =
    put_as c.put_refusal.ensures _ (text_refused _ _ _ _ _ c.requires.sums_fit _ _ c.in-Err.ensures)

pub slice_bounds-put_columns-end : goal.slice_bounds-put_columns-end
slice_bounds-put_columns-end c =
    let u = text_counted _ _ _ _ _ c.requires.sums_fit _ _ c.in-Ok.ensures in
    u.room

pub slice_bounds-put_columns-end-in-Ok : goal.slice_bounds-put_columns-end-in-Ok
slice_bounds-put_columns-end-in-Ok c =
    let u = text_counted _ _ _ _ _ c.requires.sums_fit _ _ c.in-Ok.ensures in
    sym u.long

pub put_columns-requires : goal.put_columns-requires
put_columns-requires c =
    let u = text_counted _ _ _ _ _ c.requires.sums_fit _ _ c.in-Ok.ensures in
    let p = c.put_accepted-at.ensures in
    let l = accepted_most c.in-Ok.done.accepted in
    record {
      is_read = u.is_read;
      room = omega (arith, u.few, p.behind, p.same, c.requires.text_fits);
      held = omega (arith, u.long, u.bytes_are);
    }

pub returns-in-Ok : goal.returns-in-Ok
returns-in-Ok c =
    let u = text_counted _ _ _ _ _ c.requires.sums_fit _ _ c.in-Ok.ensures in
    put_as (put_on c.put_accepted-at.ensures c.put_columns.ensures) _ u.text_is
