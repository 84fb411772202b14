-- What stands before the elements of a share or round message, written piece after piece, each where the one before ends:
-- the whole is put there as one run (`grow`). Assumes that the run lies within the buffer.
use mathlib.Core.Path.{◌≡◌, refl, ◌∙◌}
use mathlib.Core.List.{List, [], ◌∷◌, ◌++◌}
use Prim.Native.Nat.{ℕ, ◌+◌, ◌≤◌, ◌<◌}
use native.Mathlib.Omega.{arith}
use lib.ListN.{length, set, length-append}
use Rattle.words.specs.Bytes.{bytes_of, splice}
use Rattle.words.proofs.Numbers.{length_bytes}
use Rattle.words.proofs.Splice.{length_splice}
use Rattle.words.proofs.Loops.{sets_splice, grow}
use Rattle.share_message.specs.Shares.{header_bytes}

pub length_header : (kind id server : ℕ) → length (header_bytes kind id server) ≡ 6
unfolding header_bytes
length_header kind id server = simp (length-append, length_bytes)

-- a byte more
put_byte : (s : List ℕ) (a : ℕ) (ys : List ℕ) (n v : ℕ) → length ys ≡ n → a + n < length s
    → set (splice s a ys) (a + n) v ≡ splice s a (ys ++ (v ∷ []))
put_byte s a ys n v e h =
    let l : length (splice s a ys) ≡ length s = length_splice s a ys (omega arith) in
    sets_splice (splice s a ys) (a + n) (v ∷ []) (omega arith) ∙ grow s a ys (v ∷ []) n e (omega arith)

pub header_written : (s : List ℕ) (a kind id server : ℕ) → a + 6 ≤ length s
    → set (splice (set s a kind) (a + 1) (bytes_of 4 id)) (a + 5) server ≡ splice s a (header_bytes kind id server)
unfolding header_bytes
header_written s a kind id server h =
    let five : length ((kind ∷ []) ++ bytes_of 4 id) ≡ 5 = simp length_bytes in
    rw (sets_splice s a (kind ∷ []) (omega arith), grow s a (kind ∷ []) (bytes_of 4 id) 1 refl (omega arith))
    (put_byte s a ((kind ∷ []) ++ bytes_of 4 id) 5 server five (omega arith))
