-- A lane equals the definition of a step, applied to what the lane sees in its view. Assumes nothing.
use mathlib.Core.Path.{◌≡◌, refl, ap}
use mathlib.Core.List.{List}
use Prim.Native.Nat.{ℕ, zero, suc, ◌+◌, ◌*◌, ◌<◌, ◌≤◌}
use native.Mathlib.Nat.{add_assoc}
use native.Mathlib.Omega.{arith}
use lib.ListN.{length, get_or, take}
use lib.Seq.{take-length}
use lib.IntN.{pos}
use lib.Ieee.{Float, nan}
use Rattle.rounding.specs.Zeros.{EqualOrZeros}
use Rattle.rounding.proofs.Zeros.{products-alike-left, one-plus}
use Rattle.planes.specs.Samples.{◌⊕◌, ◌⊗◌, ◌⊘◌, b1}
use Rattle.epf_step.specs.Steps.{Offset, Scaled, kernel, dists, along, distance, falloff, positive, weight_by, weight_at, blend, divisor}
use Rattle.epf_distances.specs.declared.View.{View}
use Rattle.epf_distances.proofs.Seen.{seen}
use Rattle.epf_distances.specs.Taps.{tap_of, neighbour}
use Rattle.epf_distances.proofs.TapLaws.{seen_at}
use Rattle.epf_distances.proofs.Fields.{along-suc}
use Rattle.epf_lanes.specs.Lanes.{weights_to, samples_to, weight_of, sample_of, neighbour_of, lane_of}

weights-along : (f : ℕ → Float) (h : Offset → Float) (ks : List Offset) (n : ℕ) → n ≤ length ks → ((q : ℕ) → q < n → f q ≡ h (get_or ks q (pos 0, pos 0)))
    → weights_to f n ≡ along (λ (s : Float) (k : Offset). s ⊕ h k) b1 (take n ks)
unfolding weights_to along
weights-along f h ks zero l e = refl
weights-along f h ks (suc n) l e =
    rw (weights-along f h ks n (omega arith) (λ q p. e q (omega arith)), e n (omega arith)) (along-suc (λ (s : Float) (k : Offset). s ⊕ h k) b1 ks n (pos 0, pos 0) l)

samples-along : (f s : ℕ → Float) (x : Float) (h v : Offset → Float) (ks : List Offset) (n : ℕ) → n ≤ length ks
    → ((q : ℕ) → q < n → f q ≡ h (get_or ks q (pos 0, pos 0))) → ((q : ℕ) → q < n → s q ≡ v (get_or ks q (pos 0, pos 0)))
    → samples_to f s x n ≡ along (λ (y : Float) (k : Offset). y ⊕ h k ⊗ v k) x (take n ks)
unfolding samples_to along
samples-along f s x h v ks zero l e g = refl
samples-along f s x h v ks (suc n) l e g =
    rw (samples-along f s x h v ks n (omega arith) (λ q p. e q (omega arith)) (λ q p. g q (omega arith)), e n (omega arith), g n (omega arith))
    (along-suc (λ (y : Float) (k : Offset). y ⊕ h k ⊗ v k) x ks n (pos 0, pos 0) l)

-- the sample of neighbour q, as the lane sees it
neighbour-seen : (step : ℕ) (src : List Float) (v : View) (c r i q : ℕ) → q < length (kernel step)
    → neighbour_of step src v c r i q ≡ seen src v (v.corner + r * v.stride + i) c (neighbour step q).0 (neighbour step q).1
unfolding neighbour_of
neighbour-seen step src v c r i q l =
    rw (add_assoc (c * v.plane) (v.corner + r * v.stride + i) ((tap_of step q).row * v.stride + (tap_of step q).col)) (seen_at src v (v.corner + r * v.stride + i) c step q l)

centre-seen : (src : List Float) (v : View) (c r i : ℕ) → sample_of src v c r 3 4 i ≡ seen src v (v.corner + r * v.stride + i) c (pos 0) (pos 0)
unfolding seen
centre-seen src v c r i = ap (λ (k : ℕ). get_or src k nan) (add_assoc (c * v.plane) (v.corner + r * v.stride + i) (3 * v.stride + 4))

-- two distances that are equal or both zeros have one weight
weight-alike : (slope : Float) {a d : Float} → EqualOrZeros a d → weight_by slope a ≡ weight_by slope d
unfolding weight_by
weight-alike slope h = ap positive (one-plus (products-alike-left slope h))

weight-means : (step : ℕ) (e slopes : List Float) (first r i q : ℕ) (slope d : Float) → EqualOrZeros (get_or e ((tap_of step q).start + r * 72 + i) nan) d → get_or slopes (first + i) nan ≡ slope
    → weight_of step e slopes first r i q ≡ weight_by slope d
unfolding weight_of
weight-means step e slopes first r i q slope d far steep = rw steep (weight-alike slope far)

pub lane-means : (step : ℕ) (cs : List Scaled) (e slopes src : List Float) (v : View) (first c r i : ℕ) (sigma m : Float)
    → ((q : ℕ) → q < length (kernel step) → EqualOrZeros (get_or e ((tap_of step q).start + r * 72 + i) nan) (distance cs (dists step) (seen src v (v.corner + r * v.stride + i)) (neighbour step q)))
    → get_or slopes (first + i) nan ≡ falloff ⊘ sigma ⊗ m
    → lane_of step e slopes src v first c i r
    ≡ blend cs (kernel step) (dists step) sigma m (seen src v (v.corner + r * v.stride + i)) c ⊘ divisor cs (kernel step) (dists step) sigma m (seen src v (v.corner + r * v.stride + i))
unfolding lane_of blend divisor weight_at
lane-means step cs e slopes src v first c r i sigma m far steep =
    let u = seen src v (v.corner + r * v.stride + i) in
    let h : Offset → Float = λ k. weight_by (falloff ⊘ sigma ⊗ m) (distance cs (dists step) u k) in
    let weights : (q : ℕ) → q < length (kernel step) → weight_of step e slopes first r i q ≡ h (neighbour step q) = λ q l. weight-means step e slopes first r i q _ _ (far q l) steep in
    rw (
      centre-seen src v c r i,
      samples-along (weight_of step e slopes first r i) (neighbour_of step src v c r i) (u c (pos 0) (pos 0)) h (λ k. u c k.0 k.1) (kernel step) (length (kernel step)) (omega arith) weights (λ q l. neighbour-seen step src v c r i q l),
      weights-along (weight_of step e slopes first r i) h (kernel step) (length (kernel step)) (omega arith) weights,
      take-length (kernel step),
    )
