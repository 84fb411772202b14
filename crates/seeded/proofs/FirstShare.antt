-- Server 0's share is the whole list less what the seeds give: element e of what seed i gives is element 4 + i * size + e of the random
-- elements that random and seeds stand for, and the first four of these are the random elements themselves. So what is written is the
-- return. Assumes that there are four random elements.
use mathlib.Core.Path.{◌≡◌, sym, ap, ap₂, ◌∙◌}
use mathlib.Core.List.{List}
use Prim.Native.Nat.{ℕ, ◌+◌, ◌-◌, ◌*◌, ◌≤◌, ◌<◌}
use native.Mathlib.Omega.{arith}
use lib.Dec.{lit<}
use lib.ListN.{length, get_or, drop, get_or-append}
use lib.Seq.{get_or-take, get_or-drop}
use Rattle.algebra.specs.Lists.{tabulate}
use Rattle.algebra.specs.Ops.{minus}
use Rattle.algebra.proofs.Sums.{sum_ext}
use Rattle.algebra.proofs.Tables.{length_tabulate, get_d_tabulate, tabulate_cong}
use Rattle.words.specs.Bytes.{splice, elements_of}
use Rattle.field.specs.Residues.{residues}
use Rattle.rules.specs.Settings.{document01}
use Rattle.rules.specs.Columns.{Column, columns_of}
use Rattle.rules.specs.Judging.{share_size}
use Rattle.rules.specs.Making.{whole, share_of, share_message, made_whole, made_share}
use Rattle.rules.specs.Seeds.{seed_at, seed_elements, expanded, make_seeded_bytes}
use Rattle.rules.proofs.Computed.Facts.{document01_facts}
use Rattle.rules.proofs.Histories.MessageBytes.{length_message}
use Rattle.rules.proofs.Returns.MadeMessages.{many_elements}
use Rattle.rules.proofs.Returns.SeededMessages.{expanded_part}
use Rattle.whole.specs.Pieces.{whole_of}
use Rattle.whole.proofs.Filling.{on}
use Rattle.whole.proofs.WholeList.{length_made}
use Rattle.seeded.specs.Pieces.{lessened, seed_sums, seed_messages}
use Rattle.seeded.proofs.Sums.{minus_at}

whole_same : (cs : List Column) (x : ℕ → ℕ) (u v a b u' v' a' b' : ℕ) → u ≡ u' → v ≡ v' → a ≡ a' → b ≡ b'
    → whole residues document01 cs x u v a b ≡ whole residues document01 cs x u' v' a' b'
whole_same cs x u v a b u' v' a' b' e f g h = rw (e, f, g, h)

module _ (cs : List Column) (servers id : ℕ) (vs random seeds : List ℕ) (long : length random ≡ 16) where
  abbrev size : ℕ
  size = share_size cs

  abbrev own : List ℕ
  own = elements_of 4 random

  abbrev zs : List ℕ
  zs = expanded document01 cs servers id random seeds

  four : length own ≡ 4
  four = many_elements document01 document01_facts random 4 long

  own_first_lem : (k : ℕ) → k < 4 → get_or own k 0 ≡ get_or zs k 0
  unfolding expanded
  own_first_lem k h = sym (get_or-append own _ 0 k (rw four h))

  whole_is : whole_of cs vs own ≡ made_whole document01 cs servers vs zs
  whole_is =
      whole_same cs _ _ _ _ _ _ _ _ _ (own_first_lem 0 (lit< tt)) (own_first_lem 1 (lit< tt)) (own_first_lem 2 (lit< tt)) (own_first_lem 3 (lit< tt))

  given_at : (i e : ℕ) → i < servers - 1 → e < size
      → get_or (seed_elements document01 (seed_at seeds i) id size) e 0 ≡ get_or zs (4 + i * size + e) 0
  given_at i e h l =
      ap (λ (v : List ℕ). get_or v e 0) (sym (expanded_part document01 document01_facts cs servers id random seeds four i (omega arith)))
      ∙ get_or-take size (drop (4 + i * size) zs) e 0 l
      ∙ get_or-drop (4 + i * size) zs e 0

  pub first_share_lem : lessened (whole_of cs vs own) (seed_sums seeds id size (servers - 1)) ≡ made_share document01 cs servers vs zs 0
  unfolding lessened seed_sums share_of
  first_share_lem =
      ap (tabulate (minus_at (whole_of cs vs own) (seed_sums seeds id size (servers - 1)))) (length_made cs vs own)
      ∙ tabulate_cong _ _ size (λ e h.
      ap₂ (minus residues) (ap (λ (v : List ℕ). get_or v e 0) whole_is)
      (get_d_tabulate _ size e 0 h ∙ sum_ext residues (servers - 1) _ _ (λ i l. given_at i e l h)))

-- server 0's message, and the seed messages behind it
pub return_written : (sheet out : List ℕ) (servers id : ℕ) (values random seeds : List ℕ) → length random ≡ 16
    → 6 + 4 * share_size (columns_of sheet) ≤ length out
    → splice
    (splice out 0
    (share_message document01 id 0
    (lessened (whole_of (columns_of sheet) (elements_of 4 values) (elements_of 4 random))
    (seed_sums seeds id (share_size (columns_of sheet)) (servers - 1)))))
    (6 + 4 * share_size (columns_of sheet)) (seed_messages seeds id (servers - 1))
    ≡ splice out 0 (make_seeded_bytes document01 sheet servers id values random seeds)
unfolding make_seeded_bytes seed_messages
return_written sheet out servers id values random seeds four h =
    let cs : List Column = columns_of sheet in
    let vs : List ℕ = elements_of 4 values in
    let share : List ℕ = made_share document01 cs servers vs (expanded document01 cs servers id random seeds) 0 in
    let l : length (share_message document01 id 0 share) ≡ 6 + 4 * share_size cs
    = length_message document01 33 id 0 share ∙ ap (λ (n : ℕ). 6 + 4 * n) (length_tabulate _ (share_size cs)) in
    ap
    (λ (v : List ℕ). splice (splice out 0 (share_message document01 id 0 v)) (6 + 4 * share_size cs) (seed_messages seeds id (servers - 1)))
    (first_share_lem cs servers id vs random seeds four)
    ∙ on out (share_message document01 id 0 share) (seed_messages seeds id (servers - 1)) (6 + 4 * share_size cs) l h
