-- Document 01, "A return": making a return from values and random elements.
-- Assumes nothing.
use Rattle.std.specs.Prelude.{◌&&◌, List, [], ◌∷◌, ◌++◌, ℕ, zero, suc, ◌+◌, ◌-◌, ◌*◌, eqb, leb, length, get_or}
use Rattle.algebra.specs.Lists.{tabulate}
use Rattle.algebra.specs.Ops.{Ops, minus}
use Rattle.algebra.specs.Modulo.{modulo}
use Rattle.algebra.specs.Sums.{sum}
use Rattle.algebra.specs.Interpolation.{interpolate}
use Rattle.words.specs.Bytes.{bytes_of, bytes_of_all, elements_of, all_below}
use Rattle.records.specs.Outcome.{or_else}
use Rattle.rules.specs.Settings.{Setting}
use Rattle.rules.specs.Columns.{Column, entries_in, check, sheet_fault, columns_of, servers_fault}
use Rattle.rules.specs.Circuit.{gates_in, circuit_of}
use Rattle.rules.specs.Run.{run, on_list}
use Rattle.rules.specs.Values.{legal_values, encoding}
use Rattle.rules.specs.Judging.{share_size, zero_then}

module _ (O : Ops) where
  open O use {F, ◌⊕◌, ◌⊗◌, 𝟘, ι}

  infixl 65 ◌⊕◌
  infixl 70 ◌⊗◌
  module _ (σ : Setting) (cs : List Column) where
    -- "f and g are the polynomials of degree at most M through u_t and v_t at t = 1..M and through free elements u_0 and
    -- v_0 at 0", for the entries x
    unfoldable pub f_of : (ℕ → F) → F → F → F
    f_of x u₀ r = interpolate O (gates_in cs) (zero_then O u₀ (run (on_list O x) (circuit_of σ cs)).lefts) r

    unfoldable pub g_of : (ℕ → F) → F → F → F
    g_of x v₀ r = interpolate O (gates_in cs) (zero_then O v₀ (run (on_list O x) (circuit_of σ cs)).rights) r

    -- what the shares add up to: "the entries, f(0), g(0), h(0)..h(2M), a, b, c, where c = a × b", and "h = f × g"
    unfoldable pub whole : (ℕ → F) → F → F → F → F → List F
    whole x u₀ v₀ a b =
        tabulate x (entries_in cs)
        ++ ((u₀ ∷ v₀ ∷ [])
        ++ (tabulate (λ j. f_of x u₀ (ι j) ⊗ g_of x v₀ (ι j)) (suc (gates_in cs + gates_in cs)) ++ (a ∷ b ∷ a ⊗ b ∷ [])))

  -- "then the whole shares of servers 1 to S - 1. Server 0's share is what remains": element e of server i's share, where
  -- z i is the share of server i + 1
  unfoldable pub share_of : ℕ → (ℕ → F) → (ℕ → ℕ → F) → ℕ → ℕ → F
  share_of servers w z zero e = minus O (w e) (sum O (servers - 1) (λ i. z i e))
  share_of servers w z (suc i) e = z i e

-- every message but totals: its kind byte, an id, a server number, then what it brings, which is elements but for seeds
abbrev pub headed : ℕ → ℕ → ℕ → List ℕ → List ℕ
headed kind id server bytes = kind ∷ bytes_of 4 id ++ (server ∷ bytes)

unfoldable pub message : Setting → ℕ → ℕ → ℕ → List ℕ → List ℕ
message σ kind id server xs = headed kind id server (bytes_of_all σ.width xs)

-- "Share message: byte 33, id (4 bytes, any), server number (1), the elements."
abbrev pub share_message : Setting → ℕ → ℕ → List ℕ → List ℕ
share_message σ id server xs = message σ 33 id server xs

unfoldable pub share_length : Setting → List Column → ℕ
share_length σ cs = 6 + σ.width * share_size cs

-- "Random elements come in this order: u_0, v_0, a, b, then the whole shares of servers 1 to S - 1."
unfoldable pub random_count : ℕ → List Column → ℕ
random_count servers cs = (servers - 1) * share_size cs + 4

-- A return made of the values vs and the random elements zs: the shares, and their messages one after another
module _ (σ : Setting) (cs : List Column) (servers : ℕ) (vs zs : List ℕ) where
  abbrev pub made_whole : List ℕ
  made_whole =
      whole (modulo σ.modulus) σ cs (λ e. get_or (encoding cs vs) e 0) (get_or zs 0 0) (get_or zs 1 0) (get_or zs 2 0) (get_or zs 3 0)

  abbrev pub made_share : ℕ → List ℕ
  made_share i =
      tabulate
      (share_of (modulo σ.modulus) servers (λ e. get_or made_whole e 0) (λ j e. get_or zs (4 + j * share_size cs + e) 0) i)
      (share_size cs)

  unfoldable pub made_from : ℕ → ℕ → ℕ → List ℕ
  made_from id i zero = []
  made_from id i (suc n) = share_message σ id i (made_share i) ++ made_from id (suc i) n

-- The call: a sheet, S, an id, the values (4 bytes each), the random elements, and the room of the output buffer.
-- "5: not one value per column, or a value outside its column. 6: not (S - 1) × (L + 2M + 6) + 4 random elements, or one
-- not below p. Making: sheet, S, 5, 6, 14."
unfoldable pub values_fault : List Column → List ℕ → ℕ
values_fault cs values = check (eqb (length values) (4 * length cs) && legal_values cs (elements_of 4 values)) 5

unfoldable pub random_fault : Setting → ℕ → List Column → List ℕ → ℕ
random_fault σ servers cs random =
    check
    (eqb (length random) (σ.width * random_count servers cs) && all_below σ.modulus (elements_of σ.width random)) 6

unfoldable pub make_refusal : Setting → List ℕ → ℕ → List ℕ → List ℕ → ℕ → ℕ
make_refusal σ sheet servers values random room =
    let cs = columns_of sheet in
    or_else (sheet_fault sheet)
    (or_else (servers_fault servers)
    (or_else (values_fault cs values)
    (or_else (random_fault σ servers cs random)
    (check (leb (servers * share_length σ cs) room) 14))))

-- "Making writes the S share messages one after another in server order, all with the id it is given."
unfoldable pub make_bytes : Setting → List ℕ → ℕ → ℕ → List ℕ → List ℕ → List ℕ
make_bytes σ sheet servers id values random =
    made_from σ (columns_of sheet) servers (elements_of 4 values) (elements_of σ.width random) id 0 servers
