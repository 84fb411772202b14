-- The order of opening's refusals, read off its contract by computing: S, own number, sheet, N, Q, 4, 14. In each row the
-- faults that come later are there too. Assumes nothing.
use mathlib.Core.Path.{◌≡◌}
use mathlib.Core.List.{List, [], ◌∷◌}
use Prim.Native.Nat.{ℕ}
use lib.ListN.{replicate}
use Rattle.std.specs.Prelude.{Result}
use Rattle.records.specs.Outcome.{ok, refused}
use Rattle.records.specs.Refusals.{outcome_of}
use Rattle.records.specs.Answers.{answered}
use Rattle.records.specs.declared.Refusal.{Refusal}
use Rattle.rules.proofs.Computed.Computing.{everything}
use Rattle.opening.specs.Calls.{Opens}

module _ (r : Result ℕ Refusal) (T' E' : List ℕ) where
  -- one server, and the own number past it
  servers_first : Opens 1 1 (99 ∷ []) 1025 0 [] 7 [] r T' E' → outcome_of r ≡ refused 2
  unfolding everything answered
  servers_first h = h.answer_is

  -- the own number is S, and a sheet of an unknown kind
  then_own : Opens 8 8 (99 ∷ []) 1025 0 [] 7 [] r T' E' → outcome_of r ≡ refused 2
  unfolding everything answered
  then_own h = h.answer_is

  -- a sheet of an unknown kind, and N outside its limits
  then_sheet : Opens 8 7 (99 ∷ []) 1025 0 [] 7 [] r T' E' → outcome_of r ≡ refused 1
  unfolding everything answered
  then_sheet h = h.answer_is

  -- N outside its limits, and totals that would reach p
  then_returns : Opens 2 0 (19 ∷ 24 ∷ []) 1025 0 [] 7 [] r T' E' → outcome_of r ≡ refused 2
  unfolding everything answered
  then_returns h = h.answer_is

  -- Q outside its range, and totals that would reach p
  then_least : Opens 2 0 (19 ∷ 24 ∷ []) 129 0 [] 7 [] r T' E' → outcome_of r ≡ refused 2
  unfolding everything answered
  then_least h = h.answer_is

  past_returns : Opens 2 0 (19 ∷ 24 ∷ []) 129 130 [] 7 [] r T' E' → outcome_of r ≡ refused 2
  unfolding everything answered
  past_returns h = h.answer_is

  -- totals that would reach p, and no room
  then_totals : Opens 2 0 (19 ∷ 24 ∷ []) 129 129 [] 7 [] r T' E' → outcome_of r ≡ refused 4
  unfolding everything answered
  then_totals h = h.answer_is

  -- the most returns: a byte too little, a record too few or too many, a number too little, and just enough
  then_bytes : Opens 2 0 (17 ∷ []) 1024 1 (replicate 4114 0) 8 (replicate 88 0) r T' E' → outcome_of r ≡ refused 14
  unfolding everything answered
  then_bytes h = h.answer_is

  then_records : Opens 2 0 (17 ∷ []) 1024 1 (replicate 4115 0) 7 (replicate 88 0) r T' E' → outcome_of r ≡ refused 14
  unfolding everything answered
  then_records h = h.answer_is

  nine_records : Opens 2 0 (17 ∷ []) 1024 1 (replicate 4115 0) 9 (replicate 88 0) r T' E' → outcome_of r ≡ refused 14
  unfolding everything answered
  nine_records h = h.answer_is

  then_numbers : Opens 2 0 (17 ∷ []) 1024 1 (replicate 4115 0) 8 (replicate 87 0) r T' E' → outcome_of r ≡ refused 14
  unfolding everything answered
  then_numbers h = h.answer_is

  opens : Opens 2 0 (17 ∷ []) 1024 1 (replicate 4115 0) 8 (replicate 88 0) r T' E' → outcome_of r ≡ ok 4115
  unfolding everything answered
  opens h = h.answer_is
