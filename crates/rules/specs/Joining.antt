-- Document 01, "Judging": joining the closing messages of S servers.
-- Assumes nothing.
use Rattle.std.specs.Prelude.{Bool, ◌&&◌, List, ℕ, ◌+◌, ◌*◌, eqb, leb, length, get_or, drop}
use Rattle.algebra.specs.Lists.{every, count_from, tabulate}
use Rattle.algebra.specs.Modulo.{modulo}
use Rattle.algebra.specs.Sums.{sum}
use Rattle.words.specs.Bytes.{value_of, bytes_of_all, part, elements_of, all_below}
use Rattle.records.specs.Outcome.{or_else}
use Rattle.rules.specs.Settings.{Setting}
use Rattle.rules.specs.Columns.{Column, check, published_in, sheet_fault, columns_of}
use Rattle.rules.specs.Columns.{servers_fault, returns_fault, totals_fault}

-- a totals message: "byte 36, server, accepted count (4 bytes), published totals"
abbrev pub message_length : Setting → List Column → ℕ
message_length σ cs = 6 + σ.width * published_in cs

abbrev pub totals_at : Setting → List Column → List ℕ → ℕ → List ℕ
totals_at σ cs joined i = part (message_length σ cs * i) (message_length σ cs) joined

abbrev pub accepted_count : List ℕ → ℕ
accepted_count m = value_of (part 2 4 m)

abbrev pub sums_in : Setting → List ℕ → List ℕ
sums_in σ m = elements_of σ.width (drop 6 m)

unfoldable pub totals_sound : Setting → ℕ → ℕ → List ℕ → Bool
totals_sound σ count server m =
    eqb (get_or m 0 0) σ.totals_byte
    && (eqb (get_or m 1 0) server && (eqb (accepted_count m) count && all_below σ.modulus (sums_in σ m)))

-- "12: joined totals messages: wrong length, kind, server order, element not below p; totals counts unequal or over N"
unfoldable pub joined_fault : Setting → ℕ → List Column → ℕ → List ℕ → ℕ
joined_fault σ servers cs returns joined =
    check
    (eqb (length joined) (message_length σ cs * servers)
    && (every (λ i. totals_sound σ (accepted_count joined) i (totals_at σ cs joined i)) (count_from 0 servers)
    && leb (accepted_count joined) returns)) 12

-- "Joining: S, sheet, N, 4, 12, 14."
unfoldable pub join_refusal : Setting → ℕ → List ℕ → ℕ → List ℕ → ℕ → ℕ
join_refusal σ servers sheet returns joined room =
    let cs = columns_of sheet in
    or_else (servers_fault servers)
    (or_else (sheet_fault sheet)
    (or_else (returns_fault returns)
    (or_else (totals_fault σ returns cs)
    (or_else (joined_fault σ servers cs returns joined) (check (leb (σ.width * published_in cs) room) 14)))))

-- "Joining S such messages hands back the count and writes the totals modulo p, as elements in entry order."
unfoldable pub join_count : List ℕ → ℕ
join_count joined = accepted_count joined

unfoldable pub join_totals : Setting → ℕ → List ℕ → List ℕ → List ℕ
join_totals σ servers sheet joined =
    let cs = columns_of sheet in
    tabulate (λ k. sum (modulo σ.modulus) servers (λ i. get_or (sums_in σ (totals_at σ cs joined i)) k 0)) (published_in cs)

unfoldable pub join_bytes : Setting → ℕ → List ℕ → List ℕ → List ℕ
join_bytes σ servers sheet joined = bytes_of_all σ.width (join_totals σ servers sheet joined)
