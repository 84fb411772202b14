-- Document 02's calls: rows that compute, as in Examples: room told from the sheet, messages stored by place, every legal return
-- of a small sheet. proofs/Computed has them pass. TopExamples has the rows about columns with a top.
-- Assumes nothing.
use Rattle.std.specs.Prelude.{◌&&◌, List, [], ◌∷◌, ◌++◌, ℕ, eqb, replicate}
use Rattle.words.specs.Bytes.{bytes_of_all}
use Rattle.rules.specs.Columns.{columns_of}
use Rattle.rules.specs.EveryReturn.{lists_in, every_return_bytes, every_return_length, every_return_refusal}
use Rattle.rules.specs.Sizes.{sizes_of, circuit_size}
use Rattle.rules.specs.Shelf.{shelved, unshelved, shelf_refusal}
use Rattle.rules.specs.Examples.{Row, row, σ, same, to_open, all_kinds, largest}

-- what a sheet comes to: columns, entries, published entries, wires, multiplications, tests, circuit bytes, share message
-- bytes, the greatest N
abbrev pub sizes_row : List ℕ → List ℕ
sizes_row s =
    let z = sizes_of σ s in
    z.columns ∷ z.entries ∷ z.published ∷ z.wires ∷ z.multiplications ∷ z.tests ∷ z.circuit_bytes ∷ z.share_bytes
    ∷ z.greatest_returns ∷ []

abbrev greatest : List ℕ → ℕ
greatest s = (sizes_of σ s).greatest_returns

-- Room told from the sheet, and the greatest N on both sides
unfoldable pub sizes : List Row
sizes =
    row "sheet 17: 4 wires, 21 bytes, 42 in a share message" (same (sizes_row (17 ∷ [])) (1 ∷ 1 ∷ 1 ∷ 4 ∷ 1 ∷ 1 ∷ 21 ∷ 42 ∷ 1024 ∷ []))
    ∷ row "kinds 17, 18 and 19" (same (sizes_row all_kinds) (3 ∷ 7 ∷ 5 ∷ 28 ∷ 6 ∷ 8 ∷ 156 ∷ 106 ∷ 1024 ∷ []))
    ∷ row "the largest circuit of a sheet, by the table of body lengths" (eqb (circuit_size σ (columns_of largest)) 7161)
    ∷ row "b = 24: 128" (eqb (greatest (19 ∷ 24 ∷ [])) 128)
    ∷ row "b = 22: 512 opens, 513 is refused 4"
    (eqb (greatest (19 ∷ 22 ∷ [])) 512 && (eqb (to_open (19 ∷ 22 ∷ []) 512) 0 && eqb (to_open (19 ∷ 22 ∷ []) 513) 4))
    ∷ row "b = 21: 1,024 opens, 1,025 is refused 2"
    (eqb (greatest (19 ∷ 21 ∷ [])) 1024 && (eqb (to_open (19 ∷ 21 ∷ []) 1024) 0 && eqb (to_open (19 ∷ 21 ∷ []) 1025) 2))
    ∷ row "the largest value of all columns decides" (eqb (greatest (19 ∷ 22 ∷ 17 ∷ 19 ∷ 23 ∷ 18 ∷ 3 ∷ [])) 256)
    ∷ []

-- two messages, 1 2 3 and 4 5 6, and what is stored of them
abbrev two_messages : List ℕ
two_messages = 1 ∷ 2 ∷ 3 ∷ 4 ∷ 5 ∷ 6 ∷ []

abbrev two_stored : List ℕ
two_stored = 1 ∷ 4 ∷ 2 ∷ 5 ∷ 3 ∷ 6 ∷ []

-- storing R messages of W bytes, with so many bytes and room for as many
abbrev to_shelf : ℕ → ℕ → ℕ → ℕ
to_shelf r w bytes = shelf_refusal σ r w bytes bytes

-- Messages stored by place: the limits, on both sides, and the order of refusals
unfoldable pub shelves : List Row
shelves =
    row "1 2 3 and 4 5 6 are stored as 1 4, 2 5, 3 6" (same (shelved 2 3 two_messages) two_stored)
    ∷ row "and brought back" (same (unshelved 2 3 two_stored) two_messages)
    ∷ row "three messages of two bytes are stored as 1 3 5, 2 4 6" (same (shelved 3 2 two_messages) (1 ∷ 3 ∷ 5 ∷ 2 ∷ 4 ∷ 6 ∷ []))
    ∷ row "one message is stored as it is" (same (shelved 1 6 two_messages) two_messages)
    ∷ row "R = 0: 2" (eqb (to_shelf 0 3 0) 2)
    ∷ row "R = 1 and 64 are taken" (eqb (to_shelf 1 3 3) 0 && eqb (to_shelf 64 3 192) 0)
    ∷ row "R = 65: 2" (eqb (to_shelf 65 3 195) 2)
    ∷ row "W = 0: 2" (eqb (to_shelf 3 0 0) 2)
    ∷ row "W = 1 and 4,096 are taken" (eqb (to_shelf 3 1 3) 0 && eqb (to_shelf 3 4096 12288) 0)
    ∷ row "W = 4,097: 2" (eqb (to_shelf 3 4097 12291) 2)
    ∷ row "64 messages of 4,096 bytes are taken" (eqb (to_shelf 64 4096 262144) 0)
    ∷ row "65,536 of 65,536: 2, with no bytes or all" (eqb (to_shelf 65536 65536 0) 2 && eqb (to_shelf 65536 65536 4294967296) 2)
    ∷ row "a run one byte short or long: 19" (eqb (to_shelf 2 3 5) 19 && eqb (to_shelf 2 3 7) 19)
    ∷ row "a message short or too many: 19" (eqb (to_shelf 2 3 3) 19 && eqb (to_shelf 2 3 9) 19)
    ∷ row "room for as many bytes is enough" (eqb (shelf_refusal σ 2 3 6 6) 0)
    ∷ row "room for one byte less: 14" (eqb (shelf_refusal σ 2 3 6 5) 14)
    ∷ row "2 before 19 and 14" (eqb (shelf_refusal σ 65 3 1 0) 2 && eqb (shelf_refusal σ 2 4097 1 0) 2)
    ∷ row "19 before 14" (eqb (shelf_refusal σ 2 3 5 0) 19)
    ∷ []

-- so many columns yes/no
abbrev yes_nos : ℕ → List ℕ
yes_nos n = replicate n 17

-- a yes/no and a choice of three: its lists, one after another
abbrev six_lists : List ℕ
six_lists = (0 ∷ 0 ∷ 0 ∷ 1 ∷ 0 ∷ 2 ∷ []) ++ (1 ∷ 0 ∷ 1 ∷ 1 ∷ 1 ∷ 2 ∷ [])

-- Every legal return of a small sheet: the lists of one, the limit of 4,096 on both sides, and the order of refusals
unfoldable pub small_sheets : List Row
small_sheets =
    row "sheet 17, 18 3: its lists, 4 bytes a value" (same (every_return_bytes (17 ∷ 18 ∷ 3 ∷ [])) (bytes_of_all 4 six_lists))
    ∷ row "they are 6" (eqb (lists_in (columns_of (17 ∷ 18 ∷ 3 ∷ []))) 6)
    ∷ row "they take 48 bytes" (eqb (every_return_length (17 ∷ 18 ∷ 3 ∷ [])) 48)
    ∷ row "room for 48: written" (eqb (every_return_refusal (17 ∷ 18 ∷ 3 ∷ []) 48) 0)
    ∷ row "room for 47: 14" (eqb (every_return_refusal (17 ∷ 18 ∷ 3 ∷ []) 47) 14)
    ∷ row "12 yes/no have 4,096 lists" (eqb (lists_in (columns_of (yes_nos 12))) 4096)
    ∷ row "they are written" (eqb (every_return_refusal (yes_nos 12) 196608) 0)
    ∷ row "room one short of them: 14, not 17" (eqb (every_return_refusal (yes_nos 12) 196607) 14)
    ∷ row "13 yes/no: 17" (eqb (every_return_refusal (yes_nos 13) 1000000) 17)
    ∷ row "256 yes/no, 2^256 lists: 17" (eqb (every_return_refusal (yes_nos 256) 1000000) 17)
    ∷ row "a number of 12 bits is written" (eqb (every_return_refusal (19 ∷ 12 ∷ []) 16384) 0)
    ∷ row "a number of 13 bits: 17" (eqb (every_return_refusal (19 ∷ 13 ∷ []) 1000000) 17)
    ∷ row "a number of 24 bits alone: 17" (eqb (every_return_refusal (19 ∷ 24 ∷ []) 1000000) 17)
    ∷ row "two choices of 64 are written" (eqb (every_return_refusal (18 ∷ 64 ∷ 18 ∷ 64 ∷ []) 32768) 0)
    ∷ row "a top of 4,095, 4,096 lists, is written" (eqb (every_return_refusal (20 ∷ 255 ∷ 15 ∷ 0 ∷ 0 ∷ []) 16384) 0)
    ∷ row "a top of 4,096, 4,097 lists: 17" (eqb (every_return_refusal (20 ∷ 0 ∷ 16 ∷ 0 ∷ 0 ∷ []) 1000000) 17)
    ∷ row "17 before 14" (eqb (every_return_refusal (yes_nos 13) 0) 17)
    ∷ row "the sheet's fault before 17: byte 99 behind 13 yes/no" (eqb (every_return_refusal (yes_nos 13 ++ (99 ∷ [])) 0) 1)
    ∷ row "257 yes/no: 2, the sheet's" (eqb (every_return_refusal (yes_nos 257) 0) 2)
    ∷ row "an empty sheet: 2" (eqb (every_return_refusal [] 1000) 2)
    ∷ []
