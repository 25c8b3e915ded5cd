-- The channels that a step compares. Definitions only.
use Rattle.std.specs.Prelude.{Bool, true, ◌&&◌, List, [], ◌∷◌, ℕ, ltb}
use Rattle.epf_step.specs.Steps.{Scaled}

-- ---- all elements of a list

unfoldable pub all : {A : Type 0} → (A → Bool) → List A → Bool
all p [] = true
all p (a ∷ l) = p a && all p l

-- the channels that a distance compares are below n
unfoldable pub channels_below : ℕ → List Scaled → Bool
unfolding all
channels_below n cs = all (λ (c : Scaled). ltb c.0 n) cs
