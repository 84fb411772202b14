-- A state that is written piece by piece: each piece stands where the one before ends (`grow`), and together they are the
-- whole of the buffer. Assumes the lengths of the pieces.
use Rattle.std.proofs.Common.{◌≡◌, ℕ, List, [], ◌∷◌, ◌++◌, length, set, ap, ◌∙◌, append_assoc, arith, length-append}
use lib.Seq.{set_at}
use Rattle.words.specs.Bytes.{splice, elements_of}
use Rattle.words.proofs.Splice.{splice_all, length_splice}
use Rattle.words.proofs.Elements.{length_elements}
use Rattle.words.proofs.Loops.{sets_splice, grow}
use Rattle.chacha.specs.ChaCha.{constant, state}

-- four words, eight words, one word and three words, put one after another into a buffer of sixteen
module _ (s a b : List ℕ) (v : ℕ) (d : List ℕ)
    (room : length s ≡ 16) (four : length a ≡ 4) (eight : length b ≡ 8) (three : length d ≡ 3) where
  pieces : splice (set (splice (splice s 0 a) 4 b) 12 v) 13 d ≡ a ++ (b ++ (v ∷ d))
  pieces =
      let l : length (a ++ b) ≡ 12 = length-append a b ∙ omega arith in
      let m : length ((a ++ b) ++ (v ∷ [])) ≡ 13 = length-append (a ++ b) (v ∷ []) ∙ omega arith in
      let n : length (((a ++ b) ++ (v ∷ [])) ++ d) ≡ length s = length-append ((a ++ b) ++ (v ∷ [])) d ∙ omega arith in
      let k : length (splice s 0 (a ++ b)) ≡ length s = length_splice s 0 (a ++ b) (omega arith) in
      ap (λ (t : List ℕ). splice (set t 12 v) 13 d) (grow s 0 a b 4 four (omega arith))
      ∙ ap (λ (t : List ℕ). splice t 13 d)
      (sets_splice (splice s 0 (a ++ b)) 12 (v ∷ []) (omega arith) ∙ grow s 0 (a ++ b) (v ∷ []) 12 l (omega arith))
      ∙ grow s 0 ((a ++ b) ++ (v ∷ [])) d 13 m (omega arith)
      ∙ splice_all s (((a ++ b) ++ (v ∷ [])) ++ d) n
      ∙ simp append_assoc

module _ (key nonce : List ℕ) (long : length key ≡ 32) (wide : length nonce ≡ 12) where
  eight_words : length (elements_of 4 key) ≡ 8
  eight_words = length_elements 4 key ∙ omega arith

  three_words : length (elements_of 4 nonce) ≡ 3
  three_words = length_elements 4 nonce ∙ omega arith

  -- the state in a buffer s
  pub state_written : (s : List ℕ) → length s ≡ 16
      → splice (set (splice (splice s 0 (elements_of 4 constant)) 4 (elements_of 4 key)) 12 0) 13 (elements_of 4 nonce)
      ≡ state key 0 nonce
  unfolding state
  state_written s room =
      pieces s (elements_of 4 constant) (elements_of 4 key) 0 (elements_of 4 nonce) room (length_elements 4 constant) eight_words
      three_words

  pub length_state : (count : ℕ) → length (state key count nonce) ≡ 16
  unfolding state
  length_state count =
      let h : length (elements_of 4 constant) ≡ 4 = length_elements 4 constant in
      let k : length (elements_of 4 key) ≡ 8 = eight_words in
      let l : length (elements_of 4 nonce) ≡ 3 = three_words in
      simp length-append (omega arith)

  -- another count
  pub state_count : (count next : ℕ) → set (state key count nonce) 12 next ≡ state key next nonce
  unfolding state
  state_count count next =
      let h : length (elements_of 4 constant) ≡ 4 = length_elements 4 constant in
      let k : length (elements_of 4 key) ≡ 8 = eight_words in
      let l : length (elements_of 4 constant ++ elements_of 4 key) ≡ 12
      = length-append (elements_of 4 constant) (elements_of 4 key) ∙ omega arith in
      rw (← append_assoc (elements_of 4 constant) (elements_of 4 key))
      (set_at (elements_of 4 constant ++ elements_of 4 key) count (elements_of 4 nonce) next 12 l
      ∙ append_assoc (elements_of 4 constant) (elements_of 4 key) (next ∷ elements_of 4 nonce))
