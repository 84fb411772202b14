-- Document 01, "A return" and "Judging", and document 02, messages as they arrive, same challenge and short shares from seeds: messages
-- 33, 34, 35 and 38, their reading and what is at fault in them.
-- Assumes nothing.
use Rattle.std.specs.Prelude.{Bool, cond, not, ◌&&◌, ◌||◌, ℕ, ◌+◌, ◌*◌, eqb, ltb, length, get_or, drop}
use mathlib.Core.List.{List, map, flatten}
use Rattle.algebra.specs.Lists.{every, count_from}
use Rattle.algebra.specs.Modulo.{modulo}
use Rattle.algebra.specs.Sums.{sum}
use Rattle.words.specs.Bytes.{value_of, part, elements_of, all_below, same_bytes}
use Rattle.rules.specs.Settings.{Setting}
use Rattle.rules.specs.Columns.{Column, check}
use Rattle.rules.specs.Judging.{share_size}
use Rattle.rules.specs.Making.{share_length}
use Rattle.rules.specs.Seeds.{seed_kind, seed_length, seed_elements}

-- every message starts with its kind, and then, but for totals, an id of 4 bytes and a server number
abbrev pub kind_in : List ℕ → ℕ
kind_in m = get_or m 0 0

abbrev pub id_in : List ℕ → ℕ
id_in m = value_of (part 1 4 m)

abbrev pub server_in : List ℕ → ℕ
server_in m = get_or m 5 0

-- the elements behind them. "When read, a share's element bytes are shown as that part of the message it was given."
abbrev pub elements_in : Setting → List ℕ → List ℕ
elements_in σ m = elements_of σ.width (drop 6 m)

abbrev pub element_in : Setting → ℕ → List ℕ → ℕ
element_in σ k m = get_or (elements_in σ m) k 0

-- "Servers 1 to S - 1 may get a seed of 32 bytes instead of elements": the elements that a share message brings, by its kind
unfoldable pub brings_seed : List ℕ → Bool
brings_seed m = eqb (kind_in m) seed_kind

unfoldable pub share_in : Setting → List Column → List ℕ → List ℕ
share_in σ cs m = cond (brings_seed m) (seed_elements σ (drop 6 m) (id_in m) (share_size cs)) (elements_in σ m)

-- "7: share of the wrong kind byte, length or server." "A seed message for server 0 is refused 7": whether a message of its kind
-- can be for server `own`, and how long it is
unfoldable pub kind_sound : Setting → List Column → ℕ → List ℕ → Bool
kind_sound σ cs own m =
    cond (brings_seed m) (eqb (length m) seed_length && not (eqb own 0)) (eqb (length m) (share_length σ cs) && eqb (kind_in m) 33)

unfoldable pub header_fault : Setting → List Column → ℕ → List ℕ → ℕ
header_fault σ cs own m = check (kind_sound σ cs own m && eqb (server_in m) own) 7

-- "8: share element not below p"
unfoldable pub elements_fault : Setting → List Column → List ℕ → ℕ
elements_fault σ cs m = check (all_below σ.modulus (share_in σ cs m)) 8

-- "Message: byte 34, id, server, d_i, e_i .. Message: byte 35, id, server, sigma_i, tau_i (14 bytes)." "Round-one messages now carry r
-- and s after e_i and are 22 bytes long": how many elements a round's message has, and how many bytes
abbrev pub round_elements : ℕ → ℕ
round_elements kind = cond (eqb kind 34) 4 2

abbrev pub round_length : Setting → ℕ → ℕ
round_length σ kind = 6 + σ.width * round_elements kind

-- r and s in a message of round one
abbrev pub r_in : Setting → List ℕ → ℕ
r_in σ m = element_in σ 2 m

abbrev pub s_in : Setting → List ℕ → ℕ
s_in σ m = element_in σ 3 m

-- messages one after another: f 0, f 1, .., n of them
abbrev pub one_by_one : (ℕ → List ℕ) → ℕ → List ℕ
one_by_one f n = flatten (map f (count_from 0 n))

-- "each server's message .. is judged from its own place in them", and the server that it names
abbrev pub place_in : Setting → ℕ → List ℕ → ℕ → List ℕ
place_in σ kind joined i = part (round_length σ kind * i) (round_length σ kind) joined

abbrev pub server_at : Setting → ℕ → List ℕ → ℕ → ℕ
server_at σ kind joined i = server_in (place_in σ kind joined i)

-- "wrong kind, id, .. element not below p", "r and s there are elements too", or a server that is none of the S
unfoldable pub round_sound : Setting → ℕ → ℕ → ℕ → List ℕ → Bool
round_sound σ servers kind id m =
    eqb (kind_in m) kind && (eqb (id_in m) id && (ltb (server_in m) servers && all_below σ.modulus (elements_in σ m)))

-- "The joined messages of a round may stand in any order, each server exactly once .. A server twice or missing is still
-- refused 12": whether a server is still missing at place i, since none of the places before names it. Where none of S places
-- names a server twice, none is missing at the end
unfoldable pub still_missing : Setting → ℕ → List ℕ → ℕ → ℕ → Bool
still_missing σ kind joined server i = every (λ j. not (eqb (server_at σ kind joined j) server)) (count_from 0 i)

-- "own round message altered": the message that names server `own` is `mine`
unfoldable pub own_kept : ℕ → List ℕ → List ℕ → Bool
own_kept own mine m = not (eqb (server_in m) own) || same_bytes m mine

unfoldable pub place_sound : Setting → ℕ → ℕ → ℕ → ℕ → List ℕ → List ℕ → ℕ → Bool
place_sound σ servers kind id own mine joined i =
    let m = place_in σ kind joined i in
    round_sound σ servers kind id m && (still_missing σ kind joined (server_in m) i && own_kept own mine m)

-- "12: joined round messages: wrong length, kind, id, .. element not below p; own round message altered": the S messages of a
-- round for an id, as they arrived, of which the one of server `own` is `mine`
unfoldable pub round_fault : Setting → ℕ → ℕ → ℕ → ℕ → List ℕ → List ℕ → ℕ
round_fault σ servers kind id own mine joined =
    check
    (eqb (length joined) (round_length σ kind * servers)
    && every (place_sound σ servers kind id own mine joined) (count_from 0 servers)) 12

-- "challenges that differ among round-one messages without a fault of 12 are refused 16": each place has the r and the s of the
-- first
unfoldable pub same_pair : Setting → List ℕ → ℕ → Bool
same_pair σ joined i =
    let m = place_in σ 34 joined i in
    let first = place_in σ 34 joined 0 in
    eqb (r_in σ m) (r_in σ first) && eqb (s_in σ m) (s_in σ first)

unfoldable pub challenge_fault : Setting → ℕ → List ℕ → ℕ
challenge_fault σ servers joined = check (every (same_pair σ joined) (count_from 0 servers)) 16

-- the sum modulo p of element k of joined messages
unfoldable pub element_sum : Setting → ℕ → ℕ → ℕ → List ℕ → ℕ
element_sum σ k kind servers joined = sum (modulo σ.modulus) servers (λ i. element_in σ k (place_in σ kind joined i))

abbrev pub first_sum : Setting → ℕ → ℕ → List ℕ → ℕ
first_sum σ = element_sum σ 0

abbrev pub second_sum : Setting → ℕ → ℕ → List ℕ → ℕ
second_sum σ = element_sum σ 1

-- "Accepted when both sums are 0 modulo p."
unfoldable pub both_zero : Setting → ℕ → List ℕ → Bool
both_zero σ servers joined = eqb (first_sum σ 35 servers joined) 0 && eqb (second_sum σ 35 servers joined) 0
