-- Lanes of vectors: differences and weights lane by lane. Assumes nothing.
use mathlib.Core.Path.{◌≡◌, refl}
use mathlib.Core.List.{List, [], ◌∷◌}
use Prim.Native.Nat.{ℕ, zero, suc, ◌<◌}
use native.Mathlib.Omega.{arith}
use lib.Ieee.{Float, binary32, sub, add, mul, lt, of_bits, nan}
use lib.Lanes.{zip2, sel_l}
use lib.ListN.{length, replicate, get_or}
use Rattle.epf_step.specs.Steps.{positive, weight_by}
use Rattle.epf_step.specs.Bounds.{WeightBounded}
use Rattle.epf_step.proofs.Bounds.{weight-bounded}
use Rattle.rounding.specs.Zeros.{parted}

-- n lanes of differences
pub lanes-differ : (n : ℕ) (xs ys : List Float) → length xs ≡ n → length ys ≡ n
    → zip2 (sub binary32) (sel_l (zip2 lt (zip2 (sub binary32) xs ys) (replicate n (of_bits binary32 0))) (replicate n (of_bits binary32 0)) (zip2 (sub binary32) xs ys))
    (sel_l (zip2 lt (zip2 (sub binary32) xs ys) (replicate n (of_bits binary32 0))) (zip2 (sub binary32) xs ys) (replicate n (of_bits binary32 0)))
    ≡ zip2 (λ a b. parted (sub binary32 a b)) xs ys
lanes-differ zero [] ys h k = refl
lanes-differ zero (x ∷ xs) ys h k = absurd (omega (arith, h))
lanes-differ (suc n) [] ys h k = absurd (omega (arith, h))
lanes-differ (suc n) (x ∷ xs) [] h k = absurd (omega (arith, k))
lanes-differ (suc n) (x ∷ xs) (y ∷ ys) h k = rw (lanes-differ n xs ys (omega (arith, h)) (omega (arith, k)))

-- n lanes of weights
pub lanes-weigh : (n : ℕ) (ds ss : List Float) → length ds ≡ n → length ss ≡ n
    → sel_l (zip2 lt (replicate n (of_bits binary32 0)) (zip2 (add binary32) (replicate n (of_bits binary32 0x3f80_0000)) (zip2 (mul binary32) ds ss))) (zip2 (add binary32) (replicate n (of_bits binary32 0x3f80_0000)) (zip2 (mul binary32) ds ss)) (replicate n (of_bits binary32 0))
    ≡ zip2 (λ d s. weight_by s d) ds ss
unfolding positive weight_by
lanes-weigh zero [] ss h k = refl
lanes-weigh zero (d ∷ ds) ss h k = absurd (omega (arith, h))
lanes-weigh (suc n) [] ss h k = absurd (omega (arith, h))
lanes-weigh (suc n) (d ∷ ds) [] h k = absurd (omega (arith, k))
lanes-weigh (suc n) (d ∷ ds) (s ∷ ss) h k = rw (lanes-weigh n ds ss (omega (arith, h)) (omega (arith, k)))

-- each of n lanes of weights is bounded
pub lanes-bounded : (n : ℕ) (ds ss : List Float) → length ds ≡ n → length ss ≡ n
    → (k : ℕ) → k < n → WeightBounded (get_or ds k nan) (get_or ss k nan) (get_or (zip2 (λ d s. weight_by s d) ds ss) k nan)
lanes-bounded zero ds ss h l k i = absurd (omega (arith, i))
lanes-bounded (suc n) [] ss h l k i = absurd (omega (arith, h))
lanes-bounded (suc n) (d ∷ ds) [] h l k i = absurd (omega (arith, l))
lanes-bounded (suc n) (d ∷ ds) (s ∷ ss) h l zero i = (weight-bounded d s _ refl).1
lanes-bounded (suc n) (d ∷ ds) (s ∷ ss) h l (suc k) i = lanes-bounded n ds ss (omega (arith, h)) (omega (arith, l)) k (omega (arith, i))
