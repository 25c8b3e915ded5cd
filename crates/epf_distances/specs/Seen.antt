-- The differences that a distance sums, by indices of the samples. They are |differences| but for the sign of zeros (`spread`), and sums
-- start at their first term, so a distance may be -0 where the definition of a step has 0; weights are the same. Definitions only.
use Rattle.std.specs.Prelude.{List, [], ◌∷◌, ℕ, zero, suc, ◌+◌, ◌-◌, ◌*◌, get_or, Float}
use Rattle.std.specs.Float.{nan}
use Rattle.planes.specs.Samples.{◌⊕◌, ◌⊗◌, b0}
use Rattle.epf_step.specs.Steps.{Scaled, along}
use Rattle.epf_vectors.specs.Lanes.{spread}
use Rattle.epf_offsets.specs.declared.Place.{Place}
use Rattle.epf_sizes.specs.Sizes.{margin_rows, margin_columns}

-- the difference between the sample `apart` after index p of a plane that starts at index `plane`, and that at p
unfoldable pub apart_by : List Float → ℕ → ℕ → ℕ → Float
apart_by src plane apart p = spread (get_or src (plane + (p + apart)) nan) (get_or src (plane + p) nan)

-- the index of a place around index j, where rows lie `across` apart
abbrev pub place_index : Place → ℕ → ℕ → ℕ
place_index k j across = j + k.row * across + k.col - (margin_rows * across + margin_columns)

-- ---- the sum of the differences that a step's distance has at an index, in that step's order; rows lie `across` apart

unfoldable pub nearby : ℕ → ℕ → (ℕ → Float) → ℕ → Float
nearby across zero d j = d (j - across) ⊕ d (j + 1) ⊕ d j ⊕ d (j - 1) ⊕ d (j + across)
nearby across (suc zero) d j = d (j - across) ⊕ d j ⊕ d (j + across) ⊕ d (j - 1) ⊕ d (j + 1)
nearby across (suc (suc s)) d j = d j

-- the distance at an index: f has the differences of each channel; the sum starts at the first channel's scaled sum
unfoldable pub summed : ℕ → ℕ → List Scaled → (ℕ → ℕ → Float) → ℕ → Float
summed across step [] f j = b0
summed across step (c ∷ cs) f j = along (λ (s : Float) (k : Scaled). s ⊕ k.1 ⊗ nearby across step (f k.0) j) (c.1 ⊗ nearby across step (f c.0) j) cs
