-- Sides by a state: `out s x` is what a side in the state s gives for the unit x, and `next s x` the state after it.
use Rattle.std.specs.Prelude.{ℕ, List, [], ◌∷◌, ◌++◌}
use Rattle.stage.specs.Model.{Heard, silence, and_then}

-- what a sending side gives for a list, from a state on
abbrev pub gives : {S : Type 0} → (S → ℕ → List ℕ) → (S → ℕ → S) → S → List ℕ → List ℕ
gives out next s [] = []
gives out next s (x ∷ xs) = out s x ++ gives out next (next s x) xs

-- what a receiving side gives for a list, from a state on: the first fault ends it
abbrev pub hears_from : {S : Type 0} → (S → ℕ → Heard) → (S → ℕ → S) → S → List ℕ → Heard
hears_from out next s [] = silence
hears_from out next s (x ∷ xs) = and_then (out s x) (hears_from out next (next s x) xs)

-- the state after a list
abbrev pub state_from : {S : Type 0} → (S → ℕ → S) → S → List ℕ → S
state_from next s [] = s
state_from next s (x ∷ xs) = state_from next (next s x) xs
