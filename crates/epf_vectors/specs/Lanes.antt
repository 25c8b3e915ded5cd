-- The four lanes of a vector, and what is computed lane by lane. Definitions only.
use Rattle.std.specs.Prelude.{List, [], ◌∷◌, ℕ, ◌<◌, get_or, Float}
use Rattle.std.specs.Float.{nan}
use Rattle.std.specs.Simd.Lanes.{zip2}
use Rattle.rounding.specs.Zeros.{parted}
use Rattle.planes.specs.Samples.{◌⊖◌}
use Rattle.epf_step.specs.Steps.{weight_by}
use Rattle.epf_step.specs.Bounds.{WeightBounded}

-- f 0 to f 3
abbrev pub lanes_of : (ℕ → Float) → List Float
lanes_of f = f 0 ∷ f 1 ∷ f 2 ∷ f 3 ∷ []

-- |x - y|, but for a zero's sign
abbrev pub spread : Float → Float → Float
spread x y = parted (x ⊖ y)

-- the same of two vectors, lane by lane
abbrev pub lanes_apart : List Float → List Float → List Float
lanes_apart xs ys = zip2 (λ x y. spread x y) xs ys

-- the weight of a distance at a slope
abbrev pub lanes_weighed : List Float → List Float → List Float
lanes_weighed ds ss = zip2 (λ d s. weight_by s d) ds ss

-- for contracts: the weight in each lane is bounded as one weight is, from 0 to 1 if its distance is not negative and its slope not positive
abbrev pub LanesBounded : List Float → List Float → List Float → Type 0
LanesBounded ds ss ws = (k : ℕ) → k < 4 → WeightBounded (get_or ds k nan) (get_or ss k nan) (get_or ws k nan)
