-- Bounds of weights and divisors if no scale and no multiplier is negative (Specification 11.9): for every sample, infinities and NaN
-- included, and every copying limit above zero. proofs/Bounds.antt proves these statements.
use Rattle.std.specs.Prelude.{◌≡◌, Bool, false, not, List, [], ◌∷◌, ℕ, zero, suc, ◌+◌, ◌/◌, ◌<◌, T, length, Float}
use Rattle.std.specs.Float.Ieee.{lt, le}
use Rattle.std.specs.Float.Ieee.Positive.{above}
use Rattle.planes.specs.Samples.{◌⊗◌, ◌⊘◌, bits, b0, b1}
use Rattle.planes.specs.Picture.{Picture, Around, around}
use Rattle.epf_step.specs.Steps.{Offset, Scaled, EpfPass, kernel, dists, distance, falloff, copied, weight_at, divisor, multiplier}

-- not below zero; this includes NaN
abbrev pub not_negative : Float → Bool
not_negative x = not (lt x b0)

-- not above zero; this includes NaN
abbrev pub not_positive : Float → Bool
not_positive x = not (lt b0 x)

-- no scale is negative
abbrev pub ScalesNotNegative : List Scaled → Type 0
ScalesNotNegative [] = Unit
ScalesNotNegative (c ∷ cs) = T (not_negative c.1) × ScalesNotNegative cs

-- lo ≤ x ≤ hi in the order of floats
abbrev pub Between : Float → Float → Float → Type 0
Between lo hi x = T (le lo x) × T (le x hi)

-- the largest divisor: 13 with twelve neighbours, 5 with four
abbrev pub most : ℕ → Float
most zero = bits 0x4150_0000
most (suc step) = bits 0x40a0_0000

-- ---- for contracts: bounds of a weight and of a divisor, given distances and a slope

-- a weight is from 0 to 1 if the distance is not negative and the slope not positive
abbrev pub WeightBounded : Float → Float → Float → Type 0
WeightBounded d slope w = T (not_negative d) → T (not_positive slope) → Between b0 b1 w

-- a divisor is from 1 to 13 (step 0) or from 1 to 5 (steps 1 and 2) if no neighbour's distance is negative and the slope is not positive
abbrev pub DivisorBounded : ℕ → (ℕ → Float) → Float → Float → Type 0
DivisorBounded step d slope sum = ((q : ℕ) → q < length (kernel step) → T (not_negative (d q))) → T (not_positive slope) → Between b1 (most step) sum

-- distances are not negative if no scale is, whatever the samples
abbrev pub DistanceNotNegative : Type 0
DistanceNotNegative = (cs : List Scaled) (ds : List Offset) (v : Around) (k : Offset) → ScalesNotNegative cs → T (not_negative (distance cs ds v k))

-- the slope is not positive if M is not negative and the sample is not copied
abbrev pub SlopeNotPositive : Type 0
SlopeNotPositive = (limit sigma m : Float) → T (above limit) → copied sigma limit ≡ false → T (not_negative m) → T (not_positive (falloff ⊘ sigma ⊗ m))

-- ---- the bounds, if no scale is negative and M is not

-- every weight of a sample that is not copied is from 0 to 1
abbrev pub WeightBounds : Type 0
WeightBounds = (cs : List Scaled) (ks ds : List Offset) (limit sigma m : Float) (v : Around) (k : Offset)
    → T (above limit) → copied sigma limit ≡ false → T (not_negative m) → ScalesNotNegative cs → Between b0 b1 (weight_at cs ks ds sigma m v k)

-- its divisor is from 1 to 13 in step 0 and from 1 to 5 in steps 1 and 2
abbrev pub DivisorBounds : Type 0
DivisorBounds = (step : ℕ) (cs : List Scaled) (ds : List Offset) (limit sigma m : Float) (v : Around)
    → T (above limit) → copied sigma limit ≡ false → T (not_negative m) → ScalesNotNegative cs → Between b1 (most step) (divisor cs (kernel step) ds sigma m v)

-- M is not negative if neither the step's scale nor the border multiplier is
abbrev pub MultiplierNotNegative : Type 0
MultiplierNotNegative = (m b : Float) (row col : ℕ) → T (not_negative m) → T (not_negative b) → T (not_negative (multiplier m b row col))

-- both bounds hold for each sample of a pass that is not copied, with its own sigma and M, whatever the picture
abbrev pub PassBounds : Type 0
PassBounds = (e : EpfPass) (w h top : ℕ) (sigma : ℕ → ℕ → Float) (g : Picture) (x y : ℕ)
    → T (above e.limit) → ScalesNotNegative e.scales → T (not_negative e.multiplier) → T (not_negative e.border_mul)
    → let s = sigma (x / 8) (y / 8) in
    let m = multiplier e.multiplier e.border_mul (top + y) x in
    copied s e.limit ≡ false
    → ((k : Offset) → Between b0 b1 (weight_at e.scales (kernel e.step) (dists e.step) s m (around w h g x y) k))
    × Between b1 (most e.step) (divisor e.scales (kernel e.step) (dists e.step) s m (around w h g x y))
