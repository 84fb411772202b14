-- Shares from seeds, by rows that compute: what a seed stands for, the message with a seed, making from seeds and its refusals in order,
-- and which of both messages a server takes.
-- Assumes nothing.
use Rattle.std.specs.Prelude.{◌&&◌, List, [], ◌∷◌, ◌++◌, map, ℕ, ◌-◌, eqb, length, take, drop, replicate}
use Rattle.algebra.specs.Lists.{count_from}
use Rattle.words.specs.Bytes.{bytes_of, bytes_of_all, part, elements_of}
use Rattle.chacha.specs.ChaCha.{stream}
use Rattle.rules.specs.Columns.{columns_of}
use Rattle.rules.specs.Making.{share_message, make_bytes}
use Rattle.rules.specs.Seeds.{nonce_of, element_of, seed_elements, seed_message, make_seeded_refusal, make_seeded_bytes}
use Rattle.rules.specs.Messages.{share_in, header_fault}
use Rattle.rules.specs.Table.{share_refused, share_table}
use Rattle.rules.specs.Examples.{Row, row, P, σ, same, opened}

-- one yes/no column: a share has 9 elements, its message 42 bytes
abbrev yes : List ℕ
yes = 17 ∷ []

-- the seed 00 01 .. 1f, and one whose stream under the id 7 begins with the word p
abbrev rising : List ℕ
rising = count_from 0 32

abbrev reaching : List ℕ
reaching = bytes_of 4 320841668 ++ replicate 28 0

-- u_0, v_0, a and b
abbrev four : List ℕ
four = bytes_of_all 4 (1 ∷ 2 ∷ 3 ∷ 4 ∷ [])

-- a return of yes for three servers, from two seeds, and from the elements that they stand for
abbrev made_seeded : List ℕ
made_seeded = make_seeded_bytes σ yes 3 7 (bytes_of 4 1) four (rising ++ reaching)

abbrev made_long : List ℕ
made_long = make_bytes σ yes 3 7 (bytes_of 4 1) (four ++ bytes_of_all 4 (seed_elements σ rising 7 9 ++ seed_elements σ reaching 7 9))

abbrev refused : ℕ → List ℕ → List ℕ → List ℕ → ℕ → ℕ
refused servers values random seeds room = make_seeded_refusal σ yes servers values random seeds room

-- the header's fault at a server
abbrev taken : ℕ → List ℕ → ℕ
taken own m = header_fault σ (columns_of yes) own m

-- what server 1 of two says to the seed message of id 7, and once it has taken it
abbrev to_seed : ℕ → ℕ → ℕ
to_seed r room = share_refused σ (opened 1 yes 10) (seed_message 7 1 rising) r 9 room

abbrev to_another : List ℕ → ℕ
to_another m = share_refused σ (share_table σ (opened 1 yes 10) (seed_message 7 1 rising) 4 9) m 4 9 22

unfoldable pub seeds : List Row
seeds =
    row "the top bit does not count, and p is 0"
    (same (map (element_of σ) (0 ∷ 1 ∷ 0x7ffffffe ∷ 0x7fffffff ∷ 0x80000000 ∷ 0x80000001 ∷ 0xffffffff ∷ []))
    (0 ∷ 1 ∷ 0x7ffffffe ∷ 0 ∷ 0 ∷ 1 ∷ 0 ∷ []))
    ∷ row "the nonce: the id's four bytes, then eight of 0"
    (same (nonce_of 0x04030201) (1 ∷ 2 ∷ 3 ∷ 4 ∷ 0 ∷ 0 ∷ 0 ∷ 0 ∷ 0 ∷ 0 ∷ 0 ∷ 0 ∷ []))
    ∷ row "18 elements, past the end of a block: words of the stream that another program gives, without their top bit"
    (same (seed_elements σ rising 0x04030201 18)
    (1821882481 ∷ 474035676 ∷ 898605578 ∷ 474645995 ∷ 1788327774 ∷ 2076692683 ∷ 1060324582 ∷ 1955587807 ∷ 1632114823
    ∷ 1991082056 ∷ 920334277 ∷ 1066727132 ∷ 1481702853 ∷ 609329006 ∷ 121336025 ∷ 796557606 ∷ 1069892613 ∷ 2127905618 ∷ []))
    ∷ row "a stream that begins with the word p: the element 0"
    (same (take 1 (elements_of 4 (stream reaching (nonce_of 7) 1))) (P ∷ []) && same (seed_elements σ reaching 7 1) (0 ∷ []))
    ∷ row "the message: 38, the id, the server, the seed; 38 bytes"
    (same (seed_message 0x04030201 5 rising) (38 ∷ 1 ∷ 2 ∷ 3 ∷ 4 ∷ 5 ∷ rising) && eqb (length (seed_message 7 1 reaching)) 38)
    ∷ row "making: 42 bytes for server 0, as from the elements; then two seed messages"
    (eqb (length made_seeded) 118
    && (same (part 0 42 made_seeded) (part 0 42 made_long)
    && same (drop 42 made_seeded) (seed_message 7 1 rising ++ seed_message 7 2 reaching)))
    ∷ row "a server reads from its seed message what the long one says"
    (same (share_in σ (columns_of yes) (part 42 38 made_seeded)) (share_in σ (columns_of yes) (part 42 42 made_long))
    && same (share_in σ (columns_of yes) (part 80 38 made_seeded)) (share_in σ (columns_of yes) (part 84 42 made_long)))
    ∷ row "making with room for just that, and one byte less: 14"
    (eqb (refused 3 (bytes_of 4 1) four (rising ++ reaching) 118) 0 && eqb (refused 3 (bytes_of 4 1) four (rising ++ reaching) 117) 14)
    ∷ row "S = 2: 32 bytes of seeds are taken, and 80 bytes written"
    (eqb (refused 2 (bytes_of 4 1) four rising 80) 0 && eqb (refused 2 (bytes_of 4 1) four rising 79) 14)
    ∷ row "S = 2: none, 31, 33 and 64 bytes of seeds: 6"
    (eqb (refused 2 (bytes_of 4 1) four [] 1000) 6
    && (eqb (refused 2 (bytes_of 4 1) four (drop 1 rising) 1000) 6
    && (eqb (refused 2 (bytes_of 4 1) four (0 ∷ rising) 1000) 6 && eqb (refused 2 (bytes_of 4 1) four (rising ++ reaching) 1000) 6)))
    ∷ row "S = 8: seven seeds are taken, six and eight are not: 6"
    (eqb (refused 8 (bytes_of 4 1) four (replicate 224 9) 308) 0
    && (eqb (refused 8 (bytes_of 4 1) four (replicate 192 9) 308) 6 && eqb (refused 8 (bytes_of 4 1) four (replicate 256 9) 308) 6))
    ∷ row "p - 1 among the four is taken" (eqb (refused 2 (bytes_of 4 1) (bytes_of_all 4 (1 ∷ 2 ∷ 3 ∷ (P - 1) ∷ [])) rising 1000) 0)
    ∷ row "three random elements, five, one that is p: 6"
    (eqb (refused 2 (bytes_of 4 1) (drop 4 four) rising 1000) 6
    && (eqb (refused 2 (bytes_of 4 1) (four ++ bytes_of 4 5) rising 1000) 6
    && eqb (refused 2 (bytes_of 4 1) (bytes_of_all 4 (1 ∷ 2 ∷ 3 ∷ P ∷ [])) rising 1000) 6))
    ∷ row "the order: sheet, S, 5, 6, 14"
    (eqb (make_seeded_refusal σ (22 ∷ []) 1 [] [] [] 0) 1
    && (eqb (refused 1 [] [] [] 0) 2
    && (eqb (refused 9 [] [] [] 0) 2 && (eqb (refused 2 (bytes_of 4 2) [] [] 0) 5 && eqb (refused 2 (bytes_of 4 1) [] [] 0) 6))))
    ∷ row "a seed is taken; r = 1: 9; room for 21 bytes: 14"
    (eqb (to_seed 4 22) 0 && (eqb (to_seed 1 22) 9 && eqb (to_seed 4 21) 14))
    ∷ row "its id with another seed or with elements: 10; another id is taken"
    (eqb (to_another (seed_message 7 1 reaching)) 10
    && (eqb (to_another (share_message σ 7 1 (replicate 9 0))) 10 && eqb (to_another (seed_message 8 1 rising)) 0))
    ∷ row "servers 1 and 7 take a seed" (eqb (taken 1 (seed_message 7 1 rising)) 0 && eqb (taken 7 (seed_message 7 7 rising)) 0)
    ∷ row "server 0 takes none: 7" (eqb (taken 0 (seed_message 7 0 rising)) 7)
    ∷ row "a seed for another server: 7" (eqb (taken 2 (seed_message 7 1 rising)) 7)
    ∷ row "31 bytes, 33, as many as elements have, none: 7"
    (eqb (taken 1 (seed_message 7 1 (drop 1 rising))) 7
    && (eqb (taken 1 (seed_message 7 1 (0 ∷ rising))) 7
    && (eqb (taken 1 (seed_message 7 1 (replicate 36 0))) 7 && eqb (taken 1 (seed_message 7 1 [])) 7)))
    ∷ row "elements behind byte 38, a seed behind 33, byte 39: 7"
    (eqb (taken 1 (38 ∷ drop 1 (share_message σ 7 1 (replicate 9 0)))) 7
    && (eqb (taken 1 (33 ∷ drop 1 (seed_message 7 1 rising))) 7 && eqb (taken 1 (39 ∷ drop 1 (seed_message 7 1 rising))) 7))
    ∷ []
