-- What each call writes into a table's bytes, by their pieces: a run put at a place of the layout falls into one piece.
-- Assumes nothing.
use mathlib.Core.Path.{◌≡◌, refl, sym, ap, ap₂, ◌∙◌}
use mathlib.Core.List.{List, [], ◌∷◌, ◌++◌, append_assoc}
use Prim.Native.Nat.{ℕ, ◌+◌, ◌*◌, ◌≤◌}
use native.Mathlib.Nat.{add-zero}
use native.Mathlib.Omega.{arith}
use lib.ListN.{length, take, drop}
use lib.Seq.{take-append-add, drop-append-add, take-append-le, drop-append-le}
use Rattle.words.specs.Bytes.{bytes_of, splice}
use Rattle.words.proofs.Splice.{splice_all}
use Rattle.rules.specs.Settings.{Setting}
use Rattle.rules.specs.Columns.{Column, published_in}
use Rattle.rules.specs.Table.{header_length, totals_place, ids_place}
use Rattle.rules.proofs.Tables.Parts.{Parts, Sized, header, body, assemble, ids_at_lem, ids_body}

-- a run of bytes put within the middle of three lists
pub splice_within : (a x b ys : List ℕ) (i : ℕ) → i + length ys ≤ length x
    → splice (a ++ (x ++ b)) (length a + i) ys ≡ a ++ (splice x i ys ++ b)
unfolding splice
splice_within a x b ys i h =
    let front : take (length a + i) (a ++ (x ++ b)) ≡ a ++ take i x =
    take-append-add a (x ++ b) i ∙ ap (a ++◌) (take-append-le i x b (omega arith)) in
    let place : length a + i + length ys ≡ length a + (i + length ys) = omega arith in
    let back : drop (length a + i + length ys) (a ++ (x ++ b)) ≡ drop (i + length ys) x ++ b =
    ap (λ (k : ℕ). drop k (a ++ (x ++ b))) place ∙ drop-append-add a (x ++ b) (i + length ys)
    ∙ drop-append-le (i + length ys) x b h in
    ap₂ (λ (u v : List ℕ). u ++ ys ++ v) front back ∙ simp append_assoc

-- the pieces with some of them changed
abbrev pub set_stage : ℕ → Parts → Parts
set_stage b g = record {
  stage = b;
  servers = g.servers;
  own = g.own;
  returns = g.returns;
  decided = g.decided;
  entered = g.entered;
  least = g.least;
  sheet = g.sheet;
  totals = g.totals;
  ids = g.ids;
  rest = g.rest;
}

abbrev pub set_counts : ℕ → ℕ → Parts → Parts
set_counts d a g = record {
  stage = g.stage;
  servers = g.servers;
  own = g.own;
  returns = g.returns;
  decided = d;
  entered = a;
  least = g.least;
  sheet = g.sheet;
  totals = g.totals;
  ids = g.ids;
  rest = g.rest;
}

-- the totals and the ids
abbrev pub set_runs : List ℕ → List ℕ → Parts → Parts
set_runs totals ids g = record {
  stage = g.stage;
  servers = g.servers;
  own = g.own;
  returns = g.returns;
  decided = g.decided;
  entered = g.entered;
  least = g.least;
  sheet = g.sheet;
  totals = totals;
  ids = ids;
  rest = g.rest;
}

module _ (σ : Setting) (g : Parts) where
  pub put_stage : (b : ℕ) → splice (assemble σ g) 1 (b ∷ []) ≡ assemble σ (set_stage b g)
  unfolding assemble splice
  put_stage b = refl

  pub put_counts : (d a : ℕ) → splice (assemble σ g) 6 (bytes_of 2 d ++ bytes_of 2 a) ≡ assemble σ (set_counts d a g)
  unfolding assemble splice bytes_of
  put_counts d a = refl

  -- behind the header
  put_body : (k : ℕ) (ys : List ℕ) → splice (assemble σ g) (header_length + k) ys ≡ header σ g ++ splice (body g) k ys
  unfolding assemble splice bytes_of
  put_body k ys =
      let front : take (header_length + k) (assemble σ g) ≡ header σ g ++ take k (body g) = take-append-add (header σ g) (body g) k in
      let place : header_length + k + length ys ≡ header_length + (k + length ys) = omega arith in
      let back : drop (header_length + k + length ys) (assemble σ g) ≡ drop (k + length ys) (body g) =
      ap (λ (i : ℕ). drop i (assemble σ g)) place ∙ drop-append-add (header σ g) (body g) (k + length ys) in
      ap₂ (λ (u v : List ℕ). u ++ ys ++ v) front back ∙ simp append_assoc

module _ (σ : Setting) (cs : List Column) (g : Parts) (z : Sized σ cs g) where
  pub put_totals : (ys : List ℕ) → length ys ≡ length g.totals
      → splice (assemble σ g) (totals_place σ (length g.sheet) cs g.returns) ys
      ≡ assemble σ (set_runs ys g.ids g)
  unfolding totals_place assemble
  put_totals ys h =
      put_body σ g (length g.sheet) ys
      ∙ ap (header σ g ++◌)
      (ap (λ (k : ℕ). splice (body g) k ys) (sym (add-zero (length g.sheet)))
      ∙ splice_within g.sheet g.totals (g.ids ++ g.rest) ys 0 (omega arith)
      ∙ ap (λ (t : List ℕ). g.sheet ++ (t ++ (g.ids ++ g.rest))) (splice_all g.totals ys h))

  pub put_ids : (i : ℕ) (ys : List ℕ) → i + length ys ≤ length g.ids
      → splice (assemble σ g) (ids_place σ (length g.sheet) cs g.returns + i) ys
      ≡ assemble σ (set_runs g.totals (splice g.ids i ys) g)
  unfolding ids_place assemble
  put_ids i ys h =
      let before = g.sheet ++ g.totals in
      let place : header_length + length g.sheet + σ.width * published_in cs + i ≡ header_length + (length before + i)
      = omega (arith, ids_at_lem σ cs g z) in
      ap (λ (k : ℕ). splice (assemble σ g) k ys) place
      ∙ put_body σ g (length before + i) ys
      ∙ ap (header σ g ++◌)
      (ap (λ (t : List ℕ). splice t (length before + i) ys) (ids_body σ cs g z)
      ∙ splice_within before g.ids g.rest ys i h
      ∙ append_assoc g.sheet g.totals (splice g.ids i ys ++ g.rest))
