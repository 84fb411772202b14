-- Server 0's message: the header from the front of the buffer, then the elements behind it, are one run (`grow`).
-- Assumes that the header lies within the buffer.
use mathlib.Core.Path.{◌≡◌, sym, ap, ◌∙◌}
use mathlib.Core.List.{List, ◌++◌}
use Prim.Native.Nat.{ℕ, ◌≤◌}
use lib.ListN.{length}
use Rattle.words.specs.Bytes.{bytes_of_all, splice}
use Rattle.words.proofs.Loops.{grow}
use Rattle.rules.specs.Settings.{document01}
use Rattle.rules.specs.Making.{share_message}
use Rattle.share_message.specs.Shares.{header_bytes}
use Rattle.share_message.proofs.Shares.{message_is}
use Rattle.share_message.proofs.Writing.{length_header}

-- header and elements
pub share_message_lem : (id server : ℕ) (xs : List ℕ) → header_bytes 33 id server ++ bytes_of_all 4 xs ≡ share_message document01 id server xs
share_message_lem id server xs = sym (message_is 33 id server xs)

pub first_written : (s : List ℕ) (id : ℕ) (xs : List ℕ) → 6 ≤ length s
    → splice (splice s 0 (header_bytes 33 id 0)) 6 (bytes_of_all 4 xs) ≡ splice s 0 (share_message document01 id 0 xs)
first_written s id xs h =
    grow s 0 (header_bytes 33 id 0) (bytes_of_all 4 xs) 6 (length_header 33 id 0) h ∙ ap (splice s 0) (share_message_lem id 0 xs)
