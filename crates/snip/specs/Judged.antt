-- What a server works out from a share that it takes, and what the function that does it is lent.
-- Assumes nothing.
use Rattle.std.specs.Prelude.{◌≡◌, List, ℕ, ◌+◌, ◌<◌, length}
use Rattle.records.specs.Outcome.{ok}
use Rattle.algebra.specs.Ops.{minus}
use Rattle.algebra.specs.Interpolation.{interpolate}
use Rattle.field.specs.Residues.{prime, residues, Elements}
use Rattle.rules.specs.Settings.{document01}
use Rattle.rules.specs.Columns.{Column, entries_in, read_sheet, columns_of}
use Rattle.rules.specs.Circuit.{gates_in, tests_in}
use Rattle.rules.specs.Judging.{share_size, first_only, zero_then, h_at, d_of, e_of, tau_of}
use Rattle.rules.specs.Walk.{walk_lefts}
use Rattle.rules.specs.Products.{corrected}
use Rattle.snip.specs.declared.judging.Judged.{Judged}
use Rattle.snip.specs.declared.judging.Inputs.{Inputs}
use Rattle.snip.specs.declared.judging.Shape.{Shape}
use Rattle.walk.specs.Walks.{plain, members}

-- "d_i = f_i(r) - a_i, e_i = r × g_i(r) - b_i", r × h_i(r) and tau_i at server `own` with the share xs
abbrev pub judged_of : List Column → ℕ → List ℕ → ℕ → ℕ → Judged
judged_of cs own xs r s = record {
  d = d_of residues document01 cs (first_only residues own) (members xs) r;
  e = e_of residues document01 cs (first_only residues own) (members xs) r;
  rh = residues.◌⊗◌ r (h_at residues document01 cs (members xs) r);
  tau = tau_of residues document01 cs (first_only residues own) (members xs) s;
}

-- f at r through the left inputs
abbrev pub left_at : List Column → ℕ → List ℕ → ℕ → ℕ
left_at cs l xs r =
    interpolate residues (gates_in cs)
    (zero_then residues (members xs l) (walk_lefts document01 (plain 0 (members xs)) 0 cs)) r

-- f and g at r, where m is what the constant comes to: g is f, corrected
abbrev pub inputs_of : List Column → ℕ → ℕ → List ℕ → ℕ → Inputs
inputs_of cs l m xs r = record {
  f = left_at cs l xs r;
  g = corrected residues m (members xs) cs (left_at cs l xs r) (members xs l) (members xs (l + 1)) r;
}

-- f and g at r from their values at 0, the basis of the point 0 and the part of f of the other points, where each right
-- input is the left one, m and what `extra` is made of
abbrev pub inputs_from : ℕ → ℕ → ℕ → ℕ → ℕ → ℕ → Inputs
inputs_from f0 g0 first rest m extra = record {
  f = residues.◌⊕◌ (residues.◌⊗◌ first f0) rest;
  g = residues.◌⊕◌ (residues.◌⊕◌ (residues.◌⊗◌ first (minus residues g0 m)) (residues.◌⊕◌ rest m)) extra;
}

-- what a sheet comes to, as far as judging needs it
abbrev pub shape_of : List Column → Shape
shape_of cs = record { entries = entries_in cs; gates = gates_in cs; tests = tests_in cs }

-- the sheet s is read and has this shape, xs has the length of a share, and all are elements
pub record Share (s : List ℕ) (shape : Shape) (xs : List ℕ) (r t : ℕ) : Type 0 where
  pub is_read : read_sheet s ≡ ok (columns_of s)
  pub shape_is : shape ≡ shape_of (columns_of s)
  pub size : length xs ≡ share_size (columns_of s)
  pub elements : Elements xs
  pub r_below : r < prime
  pub s_below : t < prime
