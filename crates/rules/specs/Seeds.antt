-- Document 02, "Short shares from seeds": the elements that a seed stands for, the message with a seed, and making a return from seeds.
-- Assumes nothing.
use Rattle.std.specs.Prelude.{◌&&◌, ℕ, suc, ◌+◌, ◌-◌, ◌*◌, ◌/◌, ◌%◌, ◌^◌, eqb, leb, length, take, replicate}
use mathlib.Core.List.{List, ◌++◌, map, flatten}
use Rattle.algebra.specs.Lists.{count_from}
use Rattle.words.specs.Bytes.{bytes_of, elements_of, all_below, part}
use Rattle.records.specs.Outcome.{or_else}
use Rattle.chacha.specs.ChaCha.{stream}
use Rattle.rules.specs.Settings.{Setting}
use Rattle.rules.specs.Columns.{Column, check, sheet_fault, columns_of, servers_fault}
use Rattle.rules.specs.Judging.{share_size}
use Rattle.rules.specs.Making.{headed, made_share, share_message, share_length, values_fault}

-- "a seed of 32 bytes"
abbrev pub seed_size : ℕ
seed_size = 32

-- "The message is byte 38, id, server, seed, 38 bytes in all"
abbrev pub seed_kind : ℕ
seed_kind = 38

abbrev pub seed_length : ℕ
seed_length = 38

unfoldable pub seed_message : ℕ → ℕ → List ℕ → List ℕ
seed_message id server seed = headed seed_kind id server seed

-- "The nonce is the id followed by eight zero bytes."
unfoldable pub nonce_of : ℕ → List ℕ
nonce_of id = bytes_of 4 id ++ replicate 8 0

-- "Each 4 stream bytes, with the top bit cleared, are taken modulo p."
unfoldable pub element_of : Setting → ℕ → ℕ
element_of σ w = w % 2 ^ σ.stream_bits % σ.modulus

-- "The elements come from ChaCha20 of RFC 8439, .. keyed by the seed, counter from 0": the first n; a block has 64 bytes
unfoldable pub seed_elements : Setting → List ℕ → ℕ → ℕ → List ℕ
seed_elements σ seed id n =
    map (element_of σ) (take n (elements_of σ.stream_width (stream seed (nonce_of id) ((σ.stream_width * n + 63) / 64))))

-- ---- making
-- seed i of seeds one after another
abbrev pub seed_at : List ℕ → ℕ → List ℕ
seed_at seeds i = part (seed_size * i) seed_size seeds

-- "u_0, v_0, a, b and S - 1 seeds, those of servers 1 to S - 1 in order": the random elements of making that they stand for
unfoldable pub expanded : Setting → List Column → ℕ → ℕ → List ℕ → List ℕ → List ℕ
expanded σ cs servers id random seeds =
    elements_of σ.width random
    ++ flatten (map (λ i. seed_elements σ (seed_at seeds i) id (share_size cs)) (count_from 0 (servers - 1)))

-- "A wrong count of seeds" is refused 6, as are other than four random elements, or one not below p
unfoldable pub seeds_fault : Setting → ℕ → List ℕ → List ℕ → ℕ
seeds_fault σ servers random seeds =
    check
    (eqb (length random) (σ.width * 4)
    && (all_below σ.modulus (elements_of σ.width random) && eqb (length seeds) (seed_size * (servers - 1)))) 6

-- "server 0's long message is written first, then the seed messages in server order"
unfoldable pub seeded_length : Setting → List Column → ℕ → ℕ
seeded_length σ cs servers = share_length σ cs + seed_length * (servers - 1)

-- the order of refusals is making's: "sheet, S, 5, 6, 14"
unfoldable pub make_seeded_refusal : Setting → List ℕ → ℕ → List ℕ → List ℕ → List ℕ → ℕ → ℕ
make_seeded_refusal σ sheet servers values random seeds room =
    let cs = columns_of sheet in
    or_else (sheet_fault sheet)
    (or_else (servers_fault servers)
    (or_else (values_fault cs values)
    (or_else (seeds_fault σ servers random seeds) (check (leb (seeded_length σ cs servers) room) 14))))

unfoldable pub make_seeded_bytes : Setting → List ℕ → ℕ → ℕ → List ℕ → List ℕ → List ℕ → List ℕ
make_seeded_bytes σ sheet servers id values random seeds =
    let cs = columns_of sheet in
    share_message σ id 0 (made_share σ cs servers (elements_of 4 values) (expanded σ cs servers id random seeds) 0)
    ++ flatten (map (λ i. seed_message id (suc i) (seed_at seeds i)) (count_from 0 (servers - 1)))
