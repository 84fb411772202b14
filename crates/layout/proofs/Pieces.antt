-- What is written piece after piece: the header of a fresh table, a return noted among those decided, the closing message.
-- A piece goes where the one before ends (`grow`). Assumes that the pieces lie within the buffer.
use mathlib.Core.Path.{◌≡◌, refl}
use mathlib.Core.List.{List, [], ◌∷◌, ◌++◌}
use Prim.Native.Nat.{ℕ, ◌+◌, ◌*◌, ◌-◌, ◌≤◌}
use native.Mathlib.Omega.{arith}
use lib.ListN.{length, set, take, drop, length-append}
use Rattle.words.specs.Bytes.{bytes_of, part, splice}
use Rattle.words.proofs.Numbers.{length_bytes}
use Rattle.words.proofs.Loops.{sets_splice, grow}
use Rattle.totals_message.specs.Totals.{totals_header}
use Rattle.totals_message.proofs.Writing.{length_totals_header}
use Rattle.rules.specs.Settings.{document01}
use Rattle.rules.specs.Table.{header_length}
use Rattle.layout.specs.Places.{totals_at, ids_at}
use Rattle.layout.specs.Writing.{start_bytes, noted, closing_bytes}
use Rattle.layout.specs.declared.Table.{Table}

-- ---- the header of a fresh table
pub start_written : (s : List ℕ) (servers own returns least n : ℕ) → header_length ≤ length s
    → splice
    (splice
    (splice
    (splice
    (splice (set (set (set (set s 0 document01.table_byte) 1 0) 2 servers) 3 own) 4 (bytes_of 2 returns)) 6 (bytes_of 2 0)) 8 (bytes_of 2 0))
    10 (bytes_of 2 least)) 12 (bytes_of 2 n)
    ≡ splice s 0 (start_bytes servers own returns least n)
unfolding start_bytes
start_written s servers own returns least n h =
    let first : List ℕ = document01.table_byte ∷ 0 ∷ servers ∷ own ∷ [] in
    let six : length (first ++ bytes_of 2 returns) ≡ 6 = simp length_bytes in
    let eight : length (first ++ bytes_of 2 returns ++ bytes_of 2 0) ≡ 8 = simp (length-append, length_bytes) in
    let counts : List ℕ = first ++ bytes_of 2 returns ++ bytes_of 2 0 ++ bytes_of 2 0 in
    let ten : length counts ≡ 10 = simp (length-append, length_bytes) in
    let twelve : length (counts ++ bytes_of 2 least) ≡ 12 = simp (length-append, length_bytes) in
    rw (
      sets_splice s 0 first (omega arith),
      grow s 0 first (bytes_of 2 returns) 4 refl (omega arith),
      grow s 0 (first ++ bytes_of 2 returns) (bytes_of 2 0) 6 six (omega arith),
      grow s 0 (first ++ bytes_of 2 returns ++ bytes_of 2 0) (bytes_of 2 0) 8 eight (omega arith),
      grow s 0 counts (bytes_of 2 least) 10 ten (omega arith),
    )
    (grow s 0 (counts ++ bytes_of 2 least) (bytes_of 2 n) 12 twelve (omega arith))

-- ---- a return noted among those decided
pub noted_written : (k : Table) (entered id : ℕ) (t : List ℕ) → header_length ≤ length t
    → splice
    (splice (splice t 6 (bytes_of 2 (k.decided + 1))) 8 (bytes_of 2 (k.entered + entered)))
    (ids_at k.sheet k.published + 4 * k.decided) (bytes_of 4 id)
    ≡ noted k entered id t
unfolding noted
noted_written k entered id t h =
    let two : length (bytes_of 2 (k.decided + 1)) ≡ 2 = length_bytes 2 (k.decided + 1) in
    rw (grow t 6 (bytes_of 2 (k.decided + 1)) (bytes_of 2 (k.entered + entered)) 2 two (omega arith)) refl

-- ---- the closing message
pub closing_written : (k : Table) (t out : List ℕ) → 6 ≤ length out
    → splice (splice out 0 (totals_header k.own k.entered)) 6
    (take (ids_at k.sheet k.published - totals_at k.sheet) (drop (totals_at k.sheet) t))
    ≡ splice out 0 (closing_bytes k t)
unfolding closing_bytes
closing_written k t out h =
    let e : ids_at k.sheet k.published - totals_at k.sheet ≡ 4 * k.published = omega arith in
    rw e
    (grow out 0 (totals_header k.own k.entered) (part (totals_at k.sheet) (4 * k.published) t) 6
    (length_totals_header k.own k.entered) (omega arith))
