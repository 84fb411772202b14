-- Laws of writing text into a buffer: one byte, and one run after the other. Assumes nothing.
use mathlib.Core.Path.{◌≡◌, refl, sym, ap, ◌∙◌}
use mathlib.Core.List.{List, [], ◌∷◌, ◌++◌}
use Prim.Native.Nat.{ℕ, ◌+◌, ◌≤◌}
use native.Mathlib.Omega.{arith}
use lib.ListN.{length, set, length-append}
use Rattle.words.specs.Bytes.{splice}
use Rattle.words.proofs.Splice.{splice_none, splice_splice, length_splice}
use Rattle.words.proofs.Loops.{sets_splice}
use Rattle.listing.specs.Text.{Put}

-- a run as a whole
pub put_run : (s : List ℕ) (at : ℕ) (ys t : List ℕ) → t ≡ splice s at ys → at + length ys ≤ length s → Put s at ys t (at + length ys)
put_run s at ys t e h =
    record { written = e; behind = refl; room = h; same = ap length e ∙ length_splice s at ys h }

-- nothing
pub put_none : (s : List ℕ) (at : ℕ) → at ≤ length s → Put s at [] s at
put_none s at h = record { written = sym (splice_none s at); behind = omega arith; room = omega arith; same = refl }

-- one byte
pub put_byte : (s : List ℕ) (at b : ℕ) → at + 1 ≤ length s → Put s at (b ∷ []) (set s at b) (at + 1)
put_byte s at b h = put_run s at (b ∷ []) (set s at b) (sets_splice s at (b ∷ []) h) h

module _ {s : List ℕ} {at : ℕ} {ys t : List ℕ} {next : ℕ} (p : Put s at ys t next) where
  -- one run after the other
  pub put_on : {zs u : List ℕ} {end : ℕ} → Put t next zs u end → Put s at (ys ++ zs) u end
  put_on {zs} {u} {end} q =
      let e : next ≡ at + length ys = p.behind in
      let l : length (ys ++ zs) ≡ length ys + length zs = length-append ys zs in
      record {
        written = q.written ∙ rw (p.written, e) (splice_splice s at ys p.room zs);
        behind = omega arith;
        room = omega arith;
        same = omega arith;
      }

  -- the same run by another name
  pub put_as : (zs : List ℕ) → zs ≡ ys → Put s at zs t next
  put_as zs e = rw e p
