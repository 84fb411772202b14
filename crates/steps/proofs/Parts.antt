-- A part that goes to the end of a slice, a part of a part, and tests that hold together. Assumes nothing.
use mathlib.Core.Path.{◌≡◌, refl, ◌∙◌}
use mathlib.Core.Bool.{Bool, true, false, ◌&&◌}
use mathlib.Core.List.{List}
use Prim.Native.Nat.{ℕ, suc, ◌+◌, ◌-◌, ◌≤◌}
use native.Mathlib.Nat.{le_of_eq}
use native.Mathlib.Omega.{arith}
use lib.ListN.{length, take, drop, length-drop}
use lib.Seq.{take_all}
use Rattle.algebra.proofs.Members.{and_left, and_right}
use Rattle.words.specs.Bytes.{part}
use Rattle.words.proofs.Splice.{part_of_take, part_of_drop}
use Rattle.rules.specs.Columns.{check}

pub to_end : (n : ℕ) (s : List ℕ) → take (length s - n) (drop n s) ≡ drop n s
to_end n s = take_all (length s - n) (drop n s) (le_of_eq (length-drop n s))

-- from a to a + n
pub span : (a n : ℕ) (s : List ℕ) → take (a + n - a) (drop a s) ≡ part a n s
span a n s = let e : a + n - a ≡ n = omega arith in rw e

pub part_of_part : (b m a n : ℕ) (s : List ℕ) → b + m ≤ n → part b m (part a n s) ≡ part (a + b) m s
part_of_part b m a n s h = part_of_take b m n (drop a s) h ∙ part_of_drop b m a s

-- a check that refuses nothing holds
pub check_holds : (b : Bool) (n : ℕ) → check b (suc n) ≡ 0 → b ≡ true
check_holds true n e = refl
check_holds false n e = absurd (omega arith)

-- the fourth of four tests, the second of three
pub fourth : (a b c d : Bool) → a && (b && (c && d)) ≡ true → d ≡ true
fourth a b c d h = and_right c d (and_right b (c && d) (and_right a (b && (c && d)) h))

pub second : (a b c : Bool) → a && (b && c) ≡ true → b ≡ true
second a b c h = and_left b c (and_right a (b && c) h)
