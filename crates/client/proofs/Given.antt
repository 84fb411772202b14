-- What writing a return is given: room for each message, a whole list of elements, and what each piece asks for.
-- Assumes nothing.
use mathlib.Core.Path.{◌≡◌}
use mathlib.Core.List.{List}
use Prim.Native.Nat.{ℕ, zero, suc, ◌+◌, ◌-◌, ◌*◌, ◌≤◌, ◌<◌}
use native.Mathlib.Omega.{arith}
use lib.ListN.{length, get_or}
use Rattle.algebra.specs.Lists.{All}
use Rattle.algebra.proofs.Members.{get_d_all}
use Rattle.words.specs.Bytes.{elements_of}
use Rattle.field.specs.Residues.{Elements}
use Rattle.rules.specs.Columns.{Column, columns_of}
use Rattle.rules.specs.Judging.{share_size}
use Rattle.columns.specs.declared.Counts.{Counts}
use Rattle.whole.specs.Pieces.{Legal, whole_of, Fillable}
use Rattle.whole.proofs.WholeList.{length_made, elements_made}
use Rattle.client.specs.Pieces.{Random, message_bytes, Makeable}

-- one message and the others
spread : (n b : ℕ) → 1 ≤ n → b + b * (n - 1) ≡ n * b
spread zero b h = absurd (omega arith)
spread (suc n) b h = let e : suc n - 1 ≡ n = omega arith in rw e (omega arith)

module _ {sheet : List ℕ} {k : Counts} {servers : ℕ} {values random out : List ℕ}
    (m : Makeable sheet k servers values random out) where
  abbrev cs : List Column
  cs = columns_of sheet

  abbrev zs : List ℕ
  zs = elements_of 4 random

  abbrev made : List ℕ
  made = whole_of cs (elements_of 4 values) zs

  pub fillable : (w : List ℕ) → length w ≡ share_size (columns_of sheet) → Fillable sheet k values random w
  fillable w e = record {
    counted = m.counted;
    legal = m.legal;
    four = omega (arith, m.elements.long);
    elements = m.elements.elements;
    long = e;
  }

  long : length made ≡ share_size (columns_of sheet)
  long = length_made cs (elements_of 4 values) zs

  messages_fit : message_bytes (share_size (columns_of sheet)) + message_bytes (share_size (columns_of sheet)) * (servers - 1) ≤ length out
  messages_fit = omega (arith, spread servers (message_bytes (share_size cs)) (omega (arith, m.some)), m.room)

  pub one_fits : message_bytes (share_size (columns_of sheet)) ≤ length out
  one_fits = omega (arith, messages_fit)

  -- server 0's share
  pub share_asks : Random random (servers - 1) (length made) × Elements made
  share_asks =
      let l : Legal sheet values = record { is_read = m.counted.is_read; legal = m.legal } in
      (rw long m.elements, elements_made zs l m.elements.elements)

  -- the others
  pub others_ask : (n : ℕ) (t : List ℕ) → n ≡ share_size (columns_of sheet) → length t ≡ length out
      → Random random (servers - 1) n × (message_bytes n + message_bytes n * (servers - 1) ≤ length t)
  others_ask n t e l = rw (e, l) (m.elements, messages_fit)

-- bytes, place by place
pub all_bytes : (s : List ℕ) → ((i : ℕ) → get_or s i 0 < 256) → All (λ b. b < 256) s
all_bytes s h = get_d_all {P = λ b. b < 256} 0 s (λ i l. h i)
