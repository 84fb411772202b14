-- A message is read back: kind, id, server and elements stand at their places. Messages of one size, one after another, are each
-- found at their place, and a run is cut into them. Assumes that elements are below p.
use mathlib.Core.Path.{◌≡◌, refl, sym, ap, ◌∙◌}
use mathlib.Core.List.{List, [], ◌∷◌, ◌++◌, map, flatten}
use Prim.Native.Nat.{ℕ, zero, suc, ◌+◌, ◌*◌, ◌^◌, ◌≤◌, ◌<◌}
use native.Mathlib.Nat.{mul-zero, zero-add}
use native.Mathlib.Omega.{arith}
use lib.ListN.{length, get_or, take, drop, length-map, length-append, take-append-drop, drop_of_length-le}
use lib.Seq.{take_at, drop-append-add, drop-drop, ext_get_or}
use Rattle.algebra.specs.Lists.{All, all[], all∷, count_from}
use Rattle.algebra.proofs.Members.{map_all, all_map, in_all, in_count, length_count, get_d_count}
use Rattle.words.specs.Bytes.{value_of, bytes_of, bytes_of_all, part, elements_of}
use Rattle.words.proofs.Numbers.{length_bytes, bytes_below, value_bytes_lem, bytes_value}
use Rattle.words.proofs.Elements.{length_bytes_all, elements_bytes}
use Rattle.rules.specs.Settings.{Setting, Facts}
use Rattle.rules.specs.Making.{headed, message}
use Rattle.rules.specs.Messages.{kind_in, id_in, server_in, elements_in, one_by_one}

-- ---- an element has a byte, and fits its bytes
power_above : (w m : ℕ) → 33554432 < m → m ≤ 256 ^ w → 0 < w
power_above zero m h k = absurd (omega arith)
power_above (suc w) m h k = omega arith

module _ (σ : Setting) (facts : Facts σ) where
  pub width_positive : 0 < σ.width
  width_positive = power_above σ.width σ.modulus facts.large facts.fits

-- ---- a message: kind, id, server, and what it brings
module _ (kind id server : ℕ) (bytes : List ℕ) where
  pub length_headed : length (headed kind id server bytes) ≡ 6 + length bytes
  unfolding bytes_of
  length_headed = omega arith

  id_bytes : part 1 4 (headed kind id server bytes) ≡ bytes_of 4 id
  id_bytes = take_at (bytes_of 4 id) (server ∷ bytes) 4 (length_bytes 4 id)

  pub id_headed : id < 4294967296 → id_in (headed kind id server bytes) ≡ id
  id_headed h = ap value_of id_bytes ∙ value_bytes_lem 4 id h

  -- the id's bytes, whether or not it fits them
  pub id_again : bytes_of 4 (id_in (headed kind id server bytes)) ≡ bytes_of 4 id
  id_again = ap (λ (v : List ℕ). bytes_of 4 (value_of v)) id_bytes ∙ bytes_value 4 (bytes_of 4 id) (length_bytes 4 id) (bytes_below 4 id)

  pub server_headed : server_in (headed kind id server bytes) ≡ server
  unfolding bytes_of
  server_headed = refl

  pub behind_header : drop 6 (headed kind id server bytes) ≡ bytes
  unfolding bytes_of
  behind_header = refl

-- whose bytes are elements
module _ (σ : Setting) (kind id server : ℕ) (xs : List ℕ) where
  abbrev written : List ℕ
  written = message σ kind id server xs

  pub length_message : length written ≡ 6 + σ.width * length xs
  unfolding message
  length_message = length_headed kind id server (bytes_of_all σ.width xs) ∙ ap (λ n. 6 + n) (length_bytes_all σ.width xs)

  pub kind_read : kind_in written ≡ kind
  unfolding message
  kind_read = refl

  pub id_read : id < 4294967296 → id_in written ≡ id
  unfolding message
  id_read = id_headed kind id server (bytes_of_all σ.width xs)

  pub server_read : server_in written ≡ server
  unfolding message
  server_read = server_headed kind id server (bytes_of_all σ.width xs)

  elements_behind : drop 6 written ≡ bytes_of_all σ.width xs
  unfolding message
  elements_behind = behind_header kind id server (bytes_of_all σ.width xs)

  pub elements_read : Facts σ → All (λ x. x < σ.modulus) xs → elements_in σ written ≡ xs
  elements_read facts below =
      ap (elements_of σ.width) elements_behind
      ∙ elements_bytes σ.width (width_positive σ facts) xs (all_map (λ x h. omega (arith, facts.fits)) below)

-- ---- messages of one size, one after another
module _ (size : ℕ) where
  abbrev pub Sized : List (List ℕ) → Type 0
  Sized ms = All (λ m. length m ≡ size) ms

  pub length_flatten : (ms : List (List ℕ)) → Sized ms → length (flatten ms) ≡ size * length ms
  unfolding flatten
  length_flatten [] all[] = sym (mul-zero size)
  length_flatten (m ∷ ms) (all∷ e es) =
      let rest : length (flatten ms) ≡ size * length ms = length_flatten ms es in
      rw length-append (omega arith)

  -- message j stands at place j
  pub part_flatten : (ms : List (List ℕ)) → Sized ms → (j : ℕ) → j < length ms → part (size * j) size (flatten ms) ≡ get_or ms j []
  unfolding flatten
  part_flatten [] all[] j l = absurd (omega arith)
  part_flatten (m ∷ ms) (all∷ e es) zero l = rw mul-zero (take_at m (flatten ms) size e)
  part_flatten (m ∷ ms) (all∷ e es) (suc j) l =
      let place : size * suc j ≡ length m + size * j = omega arith in
      ap (λ (k : ℕ). part k size (m ++ flatten ms)) place
      ∙ ap (take size) (drop-append-add m (flatten ms) (size * j))
      ∙ part_flatten ms es j (omega arith)

  -- a run cut into n parts, and put together again
  abbrev pub cut : ℕ → List ℕ → List (List ℕ)
  cut n s = map (λ i. part (size * i) size s) (count_from 0 n)

  pub cut_flatten : (ms : List (List ℕ)) → Sized ms → cut (length ms) (flatten ms) ≡ ms
  cut_flatten ms es =
      let many : length (cut (length ms) (flatten ms)) ≡ length ms =
      length-map (count_from 0 (length ms)) _ ∙ length_count 0 (length ms) in
      ext_get_or [] (cut (length ms) (flatten ms)) ms many (λ i l. (
      let h : i < length ms = omega arith in
      get_d_count (λ k. part (size * k) size (flatten ms)) (length ms) i [] h ∙ part_flatten ms es i h))

  flatten_from : (a n : ℕ) (s : List ℕ) → length s ≡ size * (a + n)
      → flatten (map (λ i. part (size * i) size s) (count_from a n)) ≡ drop (size * a) s
  unfolding flatten count_from
  flatten_from a zero s e = sym (drop_of_length-le s {i = size * a} (omega arith))
  flatten_from a (suc n) s e =
      let next : suc a + n ≡ a + suc n = omega arith in
      let there : size * a + size ≡ size * suc a = omega arith in
      ap (λ (v : List ℕ). part (size * a) size s ++ v) (flatten_from (suc a) n s (rw next e))
      ∙ ap (λ (k : ℕ). part (size * a) size s ++ drop k s) (sym there)
      ∙ ap (λ (v : List ℕ). part (size * a) size s ++ v) (sym (drop-drop size (size * a) s))
      ∙ take-append-drop size (drop (size * a) s)

  pub flatten_cut : (n : ℕ) (s : List ℕ) → length s ≡ size * n → flatten (cut n s) ≡ s
  flatten_cut n s e = flatten_from 0 n s (rw zero-add e) ∙ ap (λ (k : ℕ). drop k s) (mul-zero size)

-- a message of each number below n
module _ (f : ℕ → List ℕ) (size n : ℕ) (h : (j : ℕ) → j < n → length (f j) ≡ size) where
  many : length (map f (count_from 0 n)) ≡ n
  many = length-map (count_from 0 n) f ∙ length_count 0 n

  pub sized : Sized size (map f (count_from 0 n))
  sized = map_all f (in_all (count_from 0 n) (λ j k. (let q = in_count 0 n j k in h j (omega arith))))

  pub length_one_by_one : length (one_by_one f n) ≡ size * n
  length_one_by_one = length_flatten size (map f (count_from 0 n)) sized ∙ ap (λ (k : ℕ). size * k) many

  pub part_one_by_one : (j : ℕ) → j < n → part (size * j) size (one_by_one f n) ≡ f j
  part_one_by_one j l = part_flatten size (map f (count_from 0 n)) sized j (rw many l) ∙ get_d_count f n j [] l
