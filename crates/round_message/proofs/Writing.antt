-- A round message written element after element, each where the message ends so far: the longer message is put there as one run
-- (`grow`). Assumes that the run lies within the buffer.
use mathlib.Core.Path.{◌≡◌, sym, ap, ◌∙◌}
use mathlib.Core.List.{List, [], ◌∷◌, ◌++◌, append_assoc, append-nil}
use Prim.Native.Nat.{ℕ, ◌+◌, ◌*◌, ◌≤◌}
use native.Mathlib.Nat.{zero-add}
use native.Mathlib.Omega.{arith}
use lib.ListN.{length, length-append}
use Rattle.words.specs.Bytes.{bytes_of, bytes_of_all, splice}
use Rattle.words.proofs.Splice.{splice_all}
use Rattle.words.proofs.Elements.{length_bytes_all, bytes_all_append, bytes_all_one}
use Rattle.words.proofs.Loops.{grow}
use Rattle.rules.specs.Settings.{document01}
use Rattle.rules.specs.Making.{message}
use Rattle.share_message.specs.Shares.{header_bytes}
use Rattle.share_message.proofs.Shares.{message_is}
use Rattle.share_message.proofs.Writing.{length_header}

module _ (kind id server : ℕ) where
  -- a message of no elements
  pub message_none : header_bytes kind id server ≡ message document01 kind id server []
  unfolding bytes_of_all
  message_none = sym (message_is kind id server [] ∙ append-nil (header_bytes kind id server))

  length_message : (xs : List ℕ) → length (message document01 kind id server xs) ≡ 6 + 4 * length xs
  length_message xs = rw (message_is kind id server xs, length-append, length_header kind id server, length_bytes_all 4 xs)

  -- a message written into a buffer of just its length
  pub message_alone : (s m xs : List ℕ) → length s ≡ 6 + 4 * length xs → m ≡ splice s 0 (message document01 kind id server xs)
      → m ≡ message document01 kind id server xs
  message_alone s m xs h e = e ∙ splice_all s (message document01 kind id server xs) (length_message xs ∙ sym h)

  -- one element more
  message_more : (xs : List ℕ) (x : ℕ)
      → message document01 kind id server xs ++ bytes_of 4 x ≡ message document01 kind id server (xs ++ (x ∷ []))
  message_more xs x =
      rw (message_is kind id server xs, message_is kind id server (xs ++ (x ∷ [])), bytes_all_append, bytes_all_one, append_assoc)

  pub element_written : (s : List ℕ) (xs : List ℕ) (x n : ℕ) → n ≡ 6 + 4 * length xs → n ≤ length s
      → splice (splice s 0 (message document01 kind id server xs)) n (bytes_of 4 x)
      ≡ splice s 0 (message document01 kind id server (xs ++ (x ∷ [])))
  element_written s xs x n e h =
      ap (λ (k : ℕ). splice (splice s 0 (message document01 kind id server xs)) k (bytes_of 4 x)) (sym (zero-add n))
      ∙ grow s 0 (message document01 kind id server xs) (bytes_of 4 x) n (length_message xs ∙ sym e) (omega arith)
      ∙ ap (splice s 0) (message_more xs x)
