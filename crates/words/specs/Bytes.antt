-- Numbers as bytes, lowest byte first; a part of a buffer, and a run of bytes put into one; runs of elements of w bytes.
-- Assumes nothing.
use Rattle.std.specs.Prelude.{Bool, true, false, ◌&&◌, List, [], ◌∷◌, ◌++◌, ℕ, zero, suc, ◌+◌, ◌*◌, ◌/◌, ◌%◌, ltb, eqb, length, take, drop}
use Rattle.algebra.specs.Lists.{tabulate, every}

-- the number that bytes say
unfoldable pub value_of : List ℕ → ℕ
value_of [] = 0
value_of (b ∷ bs) = b + 256 * value_of bs

-- the n lowest bytes of v
unfoldable pub bytes_of : ℕ → ℕ → List ℕ
bytes_of zero v = []
bytes_of (suc n) v = v % 256 ∷ bytes_of n (v / 256)

-- numbers one after another, w bytes each
unfoldable pub bytes_of_all : ℕ → List ℕ → List ℕ
bytes_of_all w [] = []
bytes_of_all w (v ∷ vs) = bytes_of w v ++ bytes_of_all w vs

-- the n bytes of s from place a
abbrev pub part : ℕ → ℕ → List ℕ → List ℕ
part a n s = take n (drop a s)

-- s, with the bytes from place a replaced by ys
unfoldable pub splice : List ℕ → ℕ → List ℕ → List ℕ
splice s a ys = take a s ++ ys ++ drop (a + length ys) s

-- the elements that s says, w bytes each; bytes past the last whole element say nothing
unfoldable pub elements_of : ℕ → List ℕ → List ℕ
elements_of w s = tabulate (λ i. value_of (part (w * i) w s)) (length s / w)

-- whether each number is below p
unfoldable pub all_below : ℕ → List ℕ → Bool
all_below p xs = every (λ x. ltb x p) xs

-- whether two runs are equal, their lengths too
unfoldable pub same_bytes : List ℕ → List ℕ → Bool
same_bytes [] [] = true
same_bytes [] (b ∷ t) = false
same_bytes (a ∷ s) [] = false
same_bytes (a ∷ s) (b ∷ t) = eqb a b && same_bytes s t
