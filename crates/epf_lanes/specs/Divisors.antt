-- The bounds of a lane's divisor (Specification 11.9: from 1 to 5 in steps 1 and 2, from 1 to 13 in step 0).
-- proofs/Divisors.antt proves these statements.
use Rattle.std.specs.Prelude.{◌≡◌, false, List, ℕ, ◌<◌, T, length, Float}
use Rattle.std.specs.Float.Ieee.Positive.{above}
use Rattle.rounding.specs.Zeros.{EqualOrZeros}
use Rattle.planes.specs.Samples.{◌⊗◌, ◌⊘◌, b1}
use Rattle.planes.specs.Picture.{Around}
use Rattle.epf_step.specs.Steps.{Scaled, kernel, dists, distance, falloff, copied}
use Rattle.epf_step.specs.Bounds.{not_negative, ScalesNotNegative, Between, most, DivisorBounded}
use Rattle.epf_distances.specs.Taps.{neighbour}
use Rattle.epf_lanes.specs.Lanes.{distance_of}

-- for contracts: the divisor of lane i of row r is bounded if the lane's distances and slope are those of Specification 11.9
abbrev pub LaneBounded : ℕ → List Float → Float → ℕ → ℕ → Float → Type 0
LaneBounded step e slope r i sum = DivisorBounded step (distance_of step e r i) slope sum

-- If no scale is negative and M is not, the divisor of a lane is bounded: its distances, up to the sign of zeros, and its slope are those of a sample that is not copied.
abbrev pub LaneDivisorBounds : Type 0
LaneDivisorBounds = (step : ℕ) (cs : List Scaled) (e : List Float) (slope sum : Float) (r i : ℕ) (limit sigma m : Float) (v : Around)
    → ((q : ℕ) → q < length (kernel step) → EqualOrZeros (distance_of step e r i q) (distance cs (dists step) v (neighbour step q))) → slope ≡ falloff ⊘ sigma ⊗ m
    → T (above limit) → copied sigma limit ≡ false → T (not_negative m) → ScalesNotNegative cs
    → LaneBounded step e slope r i sum → Between b1 (most step) sum
