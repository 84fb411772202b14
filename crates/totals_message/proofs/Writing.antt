-- What stands before the totals, written piece after piece, each where the one before ends: the whole is put there as one
-- run (`grow`). Assumes that the run lies within the buffer.
use mathlib.Core.Path.{◌≡◌, refl}
use mathlib.Core.List.{List, [], ◌∷◌}
use Prim.Native.Nat.{ℕ, ◌≤◌}
use native.Mathlib.Omega.{arith}
use lib.ListN.{length, set}
use Rattle.words.specs.Bytes.{bytes_of, splice}
use Rattle.words.proofs.Numbers.{length_bytes}
use Rattle.words.proofs.Loops.{sets_splice, grow}
use Rattle.totals_message.specs.Totals.{totals_header}

pub length_totals_header : (own count : ℕ) → length (totals_header own count) ≡ 6
unfolding totals_header
length_totals_header own count = simp length_bytes

pub totals_written : (s : List ℕ) (own count : ℕ) → 6 ≤ length s
    → splice (set (set s 0 36) 1 own) 2 (bytes_of 4 count) ≡ splice s 0 (totals_header own count)
unfolding totals_header
totals_written s own count h =
    rw (sets_splice s 0 (36 ∷ own ∷ []) (omega arith)) (grow s 0 (36 ∷ own ∷ []) (bytes_of 4 count) 2 refl (omega arith))
