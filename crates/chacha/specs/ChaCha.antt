-- ChaCha20, by the sections of RFC 8439. A state is a list of sixteen words; a key has 32 bytes, a nonce 12.
-- Assumes nothing.
use Rattle.std.specs.Prelude.{ℕ, zero, suc, List, [], ◌∷◌, ◌++◌, slice_index, slice_set}
use Rattle.algebra.specs.Lists.{tabulate}
use Rattle.words.specs.Bytes.{bytes_of_all, elements_of}
use Rattle.chacha.specs.Words.{plus, xor, rotated}

-- ---- 2.1, the quarter round
-- word a is raised by word b
abbrev pub raise : ℕ → ℕ → List ℕ → List ℕ
raise a b s = slice_set s a (plus (slice_index s a) (slice_index s b))

-- word d is xored with word a, then rotated by n
abbrev pub turn : ℕ → ℕ → ℕ → List ℕ → List ℕ
turn d a n s = slice_set s d (rotated (xor (slice_index s d) (slice_index s a)) n)

-- a += b; d ^= a; d <<<= n
unfoldable pub step : ℕ → ℕ → ℕ → ℕ → List ℕ → List ℕ
step a b d n s = turn d a n (raise a b s)

-- 2.2, on the words a, b, c, d of a state
unfoldable pub quarter_round : ℕ → ℕ → ℕ → ℕ → List ℕ → List ℕ
quarter_round a b c d s = step c d b 7 (step a b d 8 (step c d b 12 (step a b d 16 s)))

-- ---- 2.3, the block function
unfoldable pub columns : List ℕ → List ℕ
columns s = quarter_round 3 7 11 15 (quarter_round 2 6 10 14 (quarter_round 1 5 9 13 (quarter_round 0 4 8 12 s)))

unfoldable pub diagonals : List ℕ → List ℕ
diagonals s = quarter_round 3 4 9 14 (quarter_round 2 7 8 13 (quarter_round 1 6 11 12 (quarter_round 0 5 10 15 s)))

-- n times a column round and a diagonal round
unfoldable pub rounds : ℕ → List ℕ → List ℕ
rounds zero s = s
rounds (suc n) s = diagonals (columns (rounds n s))

-- "expand 32-byte k"
abbrev pub constant : List ℕ
constant = 101 ∷ 120 ∷ 112 ∷ 97 ∷ 110 ∷ 100 ∷ 32 ∷ 51 ∷ 50 ∷ 45 ∷ 98 ∷ 121 ∷ 116 ∷ 101 ∷ 32 ∷ 107 ∷ []

-- the constant, the key, the block's count and the nonce, as words
unfoldable pub state : List ℕ → ℕ → List ℕ → List ℕ
state key count nonce = elements_of 4 constant ++ (elements_of 4 key ++ (count ∷ elements_of 4 nonce))

-- the sums of the words of two states
unfoldable pub sums : List ℕ → List ℕ → List ℕ
sums s t = tabulate (λ i. plus (slice_index s i) (slice_index t i)) 16

-- twenty rounds, and the state added to what they give
unfoldable pub mixed : List ℕ → List ℕ
mixed s = sums (rounds 10 s) s

-- the block's 64 bytes
unfoldable pub block : List ℕ → ℕ → List ℕ → List ℕ
block key count nonce = bytes_of_all 4 (mixed (state key count nonce))

-- ---- 2.4, the key stream: n blocks, counted from 0
unfoldable pub stream : List ℕ → List ℕ → ℕ → List ℕ
stream key nonce zero = []
stream key nonce (suc n) = stream key nonce n ++ block key n nonce
