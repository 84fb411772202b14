-- A fresh table written in three pieces, each where the one before ends (`grow`): header, sheet and zeros are put there as
-- one run, and that run is rules' openBytes. Assumes nothing.
use mathlib.Core.Path.{◌≡◌, refl, ap, ◌∙◌}
use mathlib.Core.List.{List, ◌++◌}
use Prim.Native.Nat.{ℕ, ◌+◌, ◌-◌}
use native.Mathlib.Nat.{zero-add}
use native.Mathlib.Omega.{arith}
use lib.ListN.{length, replicate, length-append}
use Rattle.words.specs.Bytes.{splice}
use Rattle.words.proofs.Numbers.{length_bytes}
use Rattle.words.proofs.Loops.{grow}
use Rattle.rules.specs.Settings.{document01}
use Rattle.rules.specs.Table.{header_length, open_bytes, open_length}
use Rattle.layout.specs.Writing.{start_bytes}
use Rattle.opening.specs.Fresh.{fresh_bytes, Roomy}

length_start : (servers own returns least n : ℕ) → length (start_bytes servers own returns least n) ≡ header_length
unfolding start_bytes
length_start servers own returns least n = simp (length-append, length_bytes)

module _ (servers own : ℕ) (sheet : List ℕ) (returns least : ℕ) where
  pub open_bytes_lem : open_bytes document01 servers own sheet returns least
      ≡ fresh_bytes servers own sheet returns least (open_length document01 sheet returns)
  unfolding open_bytes fresh_bytes start_bytes
  open_bytes_lem = refl

  pub fresh_written : (size : ℕ) (T : List ℕ) → Roomy sheet size T
      → splice
      (splice (splice T 0 (start_bytes servers own returns least (length sheet))) header_length sheet)
      (header_length + length sheet) (replicate (size - (header_length + length sheet)) 0)
      ≡ splice T 0 (fresh_bytes servers own sheet returns least size)
  unfolding fresh_bytes
  fresh_written size T room =
      let first = start_bytes servers own returns least (length sheet) in
      let start = length_start servers own returns least (length sheet) in
      let both : length (first ++ sheet) ≡ header_length + length sheet =
      length-append first sheet ∙ ap (λ (k : ℕ). k + length sheet) start in
      let zeros : List ℕ = replicate (size - (header_length + length sheet)) 0 in
      rw (grow T 0 first sheet header_length start (omega (arith, room)))
      (rw zero-add at (grow T 0 (first ++ sheet) zeros (header_length + length sheet) both (omega (arith, room))))
