-- Test vectors of RFC 8439, as rows that compute: the quarter round and the block function. Sixteen bytes are written as one number, the
-- first byte lowest.
-- Assumes nothing.
use Prim.Native.String.{String}
use Rattle.std.specs.Prelude.{ℕ, Bool, List, [], ◌∷◌, ◌++◌, replicate}
use Rattle.algebra.specs.Lists.{count_from}
use Rattle.words.specs.Bytes.{bytes_of_all, same_bytes}
use Rattle.chacha.specs.ChaCha.{quarter_round, block}

-- what a row shows, and whether it holds
pub record Row : Type 0 where
  pub says : String
  pub holds : Bool

abbrev row : String → Bool → Row
row s b = record { says = s; holds = b }

-- the block of a key, a count and a nonce
abbrev gives : List ℕ → ℕ → List ℕ → List ℕ → Bool
gives key count nonce wanted = same_bytes (block key count nonce) (bytes_of_all 16 wanted)

unfoldable pub vectors : List Row
vectors =
    row "2.1.1"
    (same_bytes
    (quarter_round 0 1 2 3 (0x11111111 ∷ 0x01020304 ∷ 0x9b8d6f43 ∷ 0x01234567 ∷ []))
    (0xea2a92f4 ∷ 0xcb1cf8ce ∷ 0x4581472e ∷ 0x5881c4bb ∷ []))
    ∷ row "2.3.2: the key 00 01 .. 1f, the count 1"
    (gives (count_from 0 32) 1 (0 ∷ 0 ∷ 0 ∷ 0x09 ∷ 0 ∷ 0 ∷ 0 ∷ 0x4a ∷ 0 ∷ 0 ∷ 0 ∷ 0 ∷ [])
    (0xc47120a31fdd0f5015593bd1e4e7f110 ∷ 0x4e6cd4c39aaa22040368c033c7f4d1c7
    ∷ 0xa2028bd905d7c21409aa9f07466482d2 ∷ 0x4e3c50a2e883d0cbb94e16ded19c12b5 ∷ []))
    ∷ row "A.1, 1: a key and a nonce of zeros, the count 0"
    (gives (replicate 32 0) 0 (replicate 12 0)
    (0x28bd8653e56a5d40903df1a0ade0b876 ∷ 0xc70d778bccef36a81aed8da0b819d2bd
    ∷ 0x374ad8b83fe024778d4857517c5941da ∷ 0x8665eeb269b687c31ca11815f4b8436a ∷ []))
    ∷ row "A.1, 2: the same, the count 1"
    (gives (replicate 32 0) 1 (replicate 12 0)
    (0x0d082d737c97ba987a385155bee7079f ∷ 0xed7aee323e53c6126965e348a0290fcb
    ∷ 0xd539d874b03371d5434ee69c7621b729 ∷ 0x6f4d794b1f0ae1ac45fb0a51281fed31 ∷ []))
    ∷ row "A.1, 3: a key that ends with 1, the count 1"
    (gives (replicate 31 0 ++ (1 ∷ [])) 1 (replicate 12 0)
    (0xddd4ceb18d829d9b9249f8ec2452eb3a ∷ 0x5aaa49c9f38422b860818b01e8252083
    ∷ 0xfdf2732fc4b592d1da3ba7b4bb00ca8e ∷ 0xa0136c00ebdd4aa62561b3c84436274e ∷ []))
    ∷ row "A.1, 4: the key 00 ff and zeros, the count 2"
    (gives (0 ∷ 0xff ∷ replicate 30 0) 2 (replicate 12 0)
    (0x327f1394df9226364bc42ef1fb4dd572 ∷ 0xcaf09aaea1bebbc15e269039a78dea8f
    ∷ 0x092c5be61b9d9bcb48a6b46ca25ab213 ∷ 0x96f0992e87f474731bec45d5546ca624 ∷ []))
    ∷ row "A.1, 5: a nonce that ends with 2, the count 0"
    (gives (replicate 32 0) 0 (replicate 11 0 ++ (2 ∷ []))
    (0xcd3f93efb904e24a3736d58c374dc6c2 ∷ 0xc727ee545b76ab7296a4dfb388228b1a
    ∷ 0xf786c2971b748ea8f3145c950e0e978a ∷ 0x6ded1b53398a19fa628314e899c28f5f ∷ []))
    ∷ []
