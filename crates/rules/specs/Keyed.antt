-- Lists whose members have an id: the first member with an id is found, changed or taken out. Assumes nothing.
use Rattle.std.specs.Prelude.{Bool, cond, List, [], ◌∷◌, ℕ, eqb}
use Rattle.std.proofs.Math.Option.{Option, some, none}

unfoldable pub find : {A : Type 0} → (A → ℕ) → ℕ → List A → Option A
find key id [] = none
find key id (w ∷ ws) = cond (eqb (key w) id) (some w) (find key id ws)

-- the first member with an id; `other` where there is none
unfoldable pub under : {A : Type 0} → (A → ℕ) → A → ℕ → List A → A
under key other id [] = other
under key other id (w ∷ ws) = cond (eqb (key w) id) w (under key other id ws)

unfoldable pub without : {A : Type 0} → (A → ℕ) → ℕ → List A → List A
without key id [] = []
without key id (w ∷ ws) = cond (eqb (key w) id) ws (w ∷ without key id ws)

unfoldable pub changed : {A : Type 0} → (A → ℕ) → ℕ → (A → A) → List A → List A
changed key id f [] = []
changed key id f (w ∷ ws) = cond (eqb (key w) id) (f w ∷ ws) (w ∷ changed key id f ws)

-- the members for which a test holds
unfoldable pub those : {A : Type 0} → (A → Bool) → List A → List A
those t [] = []
those t (w ∷ ws) = cond (t w) (w ∷ those t ws) (those t ws)
