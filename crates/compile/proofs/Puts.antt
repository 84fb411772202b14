-- Laws of writing into a buffer: a run as a whole, one run after the other, and another name for the same. Assumes nothing.
use mathlib.Core.Path.{◌≡◌, refl, sym, ap, ◌∙◌}
use mathlib.Core.List.{List, [], ◌∷◌, ◌++◌}
use Prim.Native.Nat.{ℕ, ◌+◌, ◌≤◌}
use native.Mathlib.Omega.{arith}
use lib.ListN.{length, set, length-append}
use Rattle.words.specs.Bytes.{splice, bytes_of}
use Rattle.words.proofs.Numbers.{length_bytes}
use Rattle.words.proofs.Splice.{splice_none, splice_splice, length_splice}
use Rattle.words.proofs.Loops.{sets_splice}
use Rattle.compile.specs.Writing.{Put}

-- a run as a whole
put_run : (s : List ℕ) (at : ℕ) (ys t : List ℕ) (n : ℕ) → t ≡ splice s at ys → length ys ≡ n → at + n ≤ length s
    → Put s at n ys t (at + n)
put_run s at ys t n e l h =
    record {
      written = e;
      long = l;
      behind = refl;
      room = h;
      same = ap length e ∙ length_splice s at ys (omega arith);
    }

-- nothing
pub put_none : (s : List ℕ) (at : ℕ) → at ≤ length s → Put s at 0 [] s at
put_none s at h =
    record { written = sym (splice_none s at); long = refl; behind = omega arith; room = omega arith; same = refl }

-- one byte
pub put_byte : (s : List ℕ) (at b : ℕ) → at + 1 ≤ length s → Put s at 1 (b ∷ []) (set s at b) (at + 1)
put_byte s at b h = put_run s at (b ∷ []) (set s at b) 1 (sets_splice s at (b ∷ []) h) refl h

-- a number of w bytes
pub put_number : (s : List ℕ) (at w v : ℕ) (t : List ℕ) → t ≡ splice s at (bytes_of w v) → at + w ≤ length s
    → Put s at w (bytes_of w v) t (at + w)
put_number s at w v t e h = put_run s at (bytes_of w v) t w e (length_bytes w v) h

module _ {s : List ℕ} {at n : ℕ} {ys t : List ℕ} {next : ℕ} (p : Put s at n ys t next) where
  -- one run after the other
  pub put_on : {m : ℕ} {zs u : List ℕ} {end : ℕ} → Put t next m zs u end → Put s at (n + m) (ys ++ zs) u end
  put_on {m} {zs} {u} {end} q =
      let e : next ≡ at + length ys = omega arith in
      let l : at + length ys ≤ length s = omega arith in
      record {
        written = q.written ∙ rw (p.written, e) (splice_splice s at ys l zs);
        long = length-append ys zs ∙ omega arith;
        behind = omega arith;
        room = omega arith;
        same = omega arith;
      }

  -- the same, by other names
  pub put_as : (m : ℕ) (zs : List ℕ) (end : ℕ) → m ≡ n → zs ≡ ys → end ≡ next → Put s at m zs t end
  put_as m zs end a b c = rw (a, b, c) p
