-- Laws of numbers as bytes, for any number of bytes. Bytes say a number below 256 ^ n, and the n lowest bytes of v say
-- v % 256 ^ n: both by the lowest byte, whose weight is 1, and the bytes above it, whose weight is 256. Assumes nothing.
use mathlib.Core.Path.{◌≡◌, refl, sym, ap, ◌∙◌}
use mathlib.Core.List.{List, [], ◌∷◌}
use Prim.Native.Nat.{ℕ, zero, suc, ◌+◌, ◌*◌, ◌/◌, ◌%◌, ◌^◌, ◌≤◌, ◌<◌}
use native.Mathlib.Nat.{
  pow-succ',
  mod-one,
  mod-lt,
  mod-eq_of_lt,
  div-add-mod,
  one-le-pow,
  mul-le-mul_left,
  mul-add,
  mul_assoc,
  mul-add-mod_self_left,
}
use native.Mathlib.Omega.{arith}
use lib.Dec.{lit<}
use lib.ListN.{length}
use Rattle.algebra.specs.Lists.{All, all[], all∷}
use Rattle.words.specs.Bytes.{value_of, bytes_of}

pub length_bytes : (n v : ℕ) → length (bytes_of n v) ≡ n
unfolding bytes_of
length_bytes zero v = refl
length_bytes (suc n) v = ap suc (length_bytes n (v / 256))

-- each is a byte
pub bytes_below : (n v : ℕ) → All (λ b. b < 256) (bytes_of n v)
unfolding bytes_of
bytes_below zero v = all[]
bytes_below (suc n) v = all∷ (mod-lt v (lit< tt)) (bytes_below n (v / 256))

weigh : (b m q r x y : ℕ) → m * q + r ≡ y → b * m * q + (x + b * r) ≡ b * y + x
weigh b m q r x y h = rw (← h, mul-add, mul_assoc) (omega arith)

-- the remainder modulo a product b m, by the remainders modulo b and m
mod_product : (b m v : ℕ) → 0 < b → 0 < m → v % (b * m) ≡ v % b + b * (v / b % m)
mod_product b m v hb hm =
    let q = v / b / m in
    let r = v / b % m in
    let x = v % b in
    let l : x < b = mod-lt v hb in
    let d : r < m = mod-lt (v / b) hm in
    let k : r + 1 ≤ m = omega arith in
    let g : b * (r + 1) ≤ b * m = mul-le-mul_left b k in
    let whole : b * m * q + (x + b * r) ≡ v = weigh b m q r x (v / b) (div-add-mod (v / b) m) ∙ div-add-mod v b in
    let small : x + b * r < b * m = omega arith in
    sym (ap (λ (k : ℕ). k % (b * m)) whole) ∙ mul-add-mod_self_left (b * m) q (x + b * r) ∙ mod-eq_of_lt small

-- the n lowest bytes of a number say what it leaves modulo 256 ^ n
pub value_bytes_mod : (n v : ℕ) → value_of (bytes_of n v) ≡ v % 256 ^ n
unfolding bytes_of value_of
value_bytes_mod zero v = sym (mod-one v)
value_bytes_mod (suc n) v =
    rw (value_bytes_mod n (v / 256), pow-succ')
    (sym (mod_product 256 (256 ^ n) v (lit< tt) (one-le-pow n 256 (lit< tt))))

-- n bytes hold each number below 256 ^ n
pub value_bytes_lem : (n v : ℕ) → v < 256 ^ n → value_of (bytes_of n v) ≡ v
value_bytes_lem n v h = value_bytes_mod n v ∙ mod-eq_of_lt h

value_small : (bs : List ℕ) → All (λ b. b < 256) bs → value_of bs < 256 ^ length bs
unfolding value_of
value_small [] all[] = lit< tt
value_small (b ∷ bs) (all∷ h a) =
    let k : value_of bs < 256 ^ length bs = value_small bs a in
    rw pow-succ' (omega arith)

bytes_again : (bs : List ℕ) → All (λ b. b < 256) bs → bytes_of (length bs) (value_of bs) ≡ bs
unfolding bytes_of value_of
bytes_again [] all[] = refl
bytes_again (b ∷ bs) (all∷ h a) =
    let r : (b + 256 * value_of bs) % 256 ≡ b = omega arith in
    let q : (b + 256 * value_of bs) / 256 ≡ value_of bs = omega arith in
    rw (r, q, bytes_again bs a)

module _ (n : ℕ) (bs : List ℕ) (long : length bs ≡ n) (bytes : All (λ b. b < 256) bs) where
  -- what n bytes say is below 256 ^ n
  pub value_below : value_of bs < 256 ^ n
  value_below = rw (← long) (value_small bs bytes)

  -- the n bytes of what n bytes say are these bytes
  pub bytes_value : bytes_of n (value_of bs) ≡ bs
  bytes_value = rw (← long) (bytes_again bs bytes)
