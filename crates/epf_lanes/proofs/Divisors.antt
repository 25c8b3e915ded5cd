-- A lane's divisor is from 1 to 5 or 13, as specs/Divisors.antt states. Assumes nothing.
use mathlib.Core.Path.{◌≡◌, sym, subst}
use mathlib.Core.List.{List}
use mathlib.Core.Logic.{inl, inr}
use Prim.Native.Nat.{ℕ, zero, suc, ◌+◌, ◌^◌, ◌≤◌, ◌<◌}
use native.Mathlib.Omega.{arith}
use lib.Dec.{T}
use lib.ListN.{length}
use lib.Ieee.{Float, lt, of_bits}
use Rattle.rounding.specs.Zeros.{Zero, EqualOrZeros}
use Rattle.rounding.proofs.Rounded.{Within}
use Rattle.epf_step.specs.Steps.{kernel, dists}
use Rattle.epf_step.specs.Bounds.{not_negative}
use Rattle.epf_step.proofs.Bounds.{weight-within, one-within, sum-within, most-within, few-weights, distance-not-negative, slope-not-positive}
use Rattle.epf_distances.specs.Taps.{neighbour}
use Rattle.epf_lanes.specs.Lanes.{weights_to, distance_of, weight_in}
use Rattle.epf_lanes.specs.Divisors.{LaneBounded, LaneDivisorBounds}

weights-within : (f : ℕ → Float) (n : ℕ) → 1 + n ≤ 2 ^ 24 → ((q : ℕ) → q < n → Within 0 1 (f q)) → Within 1 (1 + n) (weights_to f n)
unfolding weights_to
weights-within f zero h k = one-within
weights-within f (suc n) h k =
    let z : 1 + suc n ≡ 1 + n + 1 = omega arith in
    rw z (sum-within (weights_to f n) (f n) (1 + n) (omega arith) (weights-within f n (omega arith) (λ q l. k q (omega arith))) (k n (omega arith)))

-- 1 plus the sum of all weights
pub lane-bounded : (step : ℕ) (e : List Float) (slope : Float) (r i : ℕ) → LaneBounded step e slope r i (weights_to (weight_in step e slope r i) (length (kernel step)))
lane-bounded step e slope r i far steep =
    most-within step _ (weights-within (weight_in step e slope r i) (length (kernel step)) (few-weights step) (λ q h. weight-within (distance_of step e r i q) slope (far q h) steep))

-- a zero of either sign is not negative
not-negative-zero : (x : Float) → Zero x → T (not_negative x)
unfolding lt of_bits
not-negative-zero x (inl p) = subst (λ y. T (not_negative y)) (sym p) tt
not-negative-zero x (inr p) = subst (λ y. T (not_negative y)) (sym p) tt

not-negative-alike : {x y : Float} → EqualOrZeros x y → T (not_negative y) → T (not_negative x)
not-negative-alike (inl p) h = subst (λ z. T (not_negative z)) (sym p) h
not-negative-alike {x} (inr z) h = not-negative-zero x z.0

pub lane-divisor-bounds : LaneDivisorBounds
lane-divisor-bounds step cs e slope sum r i limit sigma m v far steep over uncopied gain scales bounded =
    bounded (λ q h. not-negative-alike (far q h) (distance-not-negative cs (dists step) v (neighbour step q) scales)) (rw steep (slope-not-positive limit sigma m over uncopied gain))
