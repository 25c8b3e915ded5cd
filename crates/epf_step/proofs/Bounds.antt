-- The bounds of specs/Bounds.antt: weights from 0 to 1, divisors from 1 to 5 or 13. Assumes nothing.
use mathlib.Core.Path.{◌≡◌, refl, ap}
use mathlib.Core.Logic.{◌⊎◌, inl, inr}
use mathlib.Core.Bool.{Bool, true, false, not, ◌||◌, false≢true, true≢false}
use mathlib.Core.List.{List, [], ◌∷◌}
use Prim.Native.Nat.{ℕ, zero, suc, ◌+◌, ◌-◌, ◌*◌, ◌^◌, ◌≤◌, ◌<◌}
use native.Mathlib.Nat.{mul-pos, zero-lt-suc, add-zero}
use native.Mathlib.Omega.{arith}
use borrow.Author.Tests.{le-ltb}
use lib.Dec.{T, ltb, nltb→le, lit≤}
use lib.ListN.{length}
use lib.IntN.{pos, ◌+ℤ◌}
use lib.Ieee.{Float, nan, inf, fin, binary32, up, down, round, sum, add, sub, mul, lt, of_bits}
use lib.Ieee.Fits.{up_pos, down_pos}
use lib.Ieee.Positive.{above}
use lib.Ieee.Exact.{HasValue}
use Rattle.planes.specs.Samples.{◌⊕◌, ◌⊖◌, ◌⊗◌, ◌⊘◌, b0, b1}
use Rattle.planes.specs.Picture.{Around}
use Rattle.rounding.proofs.Rounded.{Within, round-within, round-signed, add-within, within-le}
use Rattle.rounding.proofs.Side.{Side, of-signed, add-side, mul-side, div-side, not_negative_lem, not-under, either, wider}
use Rattle.rounding.specs.Magnitude.{magnitude}
use Rattle.epf_step.specs.Steps.{Offset, Scaled, kernel, dists, along, apart, distance, positive, falloff, weight_by, copied, weight_at, divisor, border, multiplier}
use Rattle.epf_step.specs.Bounds.{not_negative, not_positive, ScalesNotNegative, Between, most, WeightBounded, DistanceNotNegative, SlopeNotPositive, WeightBounds, DivisorBounds, MultiplierNotNegative, PassBounds}

-- ---- constants

zero_is : b0 ≡ fin false 0 (pos 0)
unfolding of_bits
zero_is = refl

zero-value : HasValue b0 false 0 1
unfolding of_bits
zero-value = (refl, refl)

one_value : HasValue b1 false 1 1
unfolding of_bits
one_value = (refl, refl)

most-value : (step : ℕ) → HasValue (most step) false (1 + length (kernel step)) 1
unfolding of_bits kernel
most-value zero = (refl, refl)
most-value (suc step) = (refl, refl)

falloff-side : Side true falloff
unfolding of_bits mul sub
falloff-side = inl refl

zero-side : Side false b0
zero-side = rw zero_is (inl refl)

-- ---- the tests of floats

side-of : (x : Float) → T (not_negative x) → Side false x
side-of x h = not_negative_lem x (rw zero_is at h)

of-side : (x : Float) → Side false x → T (not_negative x)
unfolding lt of_bits
of-side nan h = tt
of-side (inf s) h = rw h tt
of-side (fin false m e) h = let z : 0 * 1 * down e ≤ m * up e * 1 = omega arith in rw (le-ltb (m * up e * 1) (0 * 1 * down e) z) tt
of-side (fin true m e) (inl p) = absurd (true≢false p)
of-side (fin true m e) (inr p) =
    let z : m * up e * 1 + 0 * 1 * down e ≤ 0 = omega (arith, ap (λ (n : ℕ). n * up e) p) in
    rw (le-ltb 0 (m * up e * 1 + 0 * 1 * down e) z) tt

not-positive : (x : Float) → T (not_positive x) → Side true x
unfolding lt of_bits
not-positive nan h = tt
not-positive (inf true) h = refl
not-positive (inf false) h = absurd h
not-positive (fin true m e) h = inl refl
not-positive (fin false zero e) h = inr refl
not-positive (fin false (suc m) e) h = absurd (omega (arith, nltb→le (0 * down e) (suc m * up e * 1) h, mul-pos (zero-lt-suc m) (up_pos e)))

of-side-below : (x : Float) → Side true x → T (not_positive x)
unfolding lt of_bits
of-side-below nan h = tt
of-side-below (inf s) h = rw h tt
of-side-below (fin true m e) h = tt
of-side-below (fin false m e) (inl p) = absurd (false≢true p)
of-side-below (fin false m e) (inr p) = let z : m * up e * 1 ≤ 0 * down e = omega (arith, ap (λ (n : ℕ). n * up e) p) in rw (le-ltb (0 * down e) (m * up e * 1) z) tt

reached : (sigma limit : Float) → copied sigma limit ≡ false → T (not (lt sigma limit))
unfolding copied
reached sigma limit e = rw e tt

-- ---- distances are not below zero

magnitude-side : (x : Float) → Side false (magnitude x)
unfolding magnitude
magnitude-side nan = tt
magnitude-side (inf s) = refl
magnitude-side (fin s m e) = inl refl

module _ (v : Around) (k : Offset) where
  apart-side : (ds : List Offset) (c : ℕ) → Side false (apart ds v c k)
  unfolding apart along
  apart-side ds c = go ds b0 zero-side
    where
      go : (ds : List Offset) (a : Float) → Side false a → Side false (along (λ (a : Float) (i : Offset). a ⊕ magnitude (v c (k.0 +ℤ i.0) (k.1 +ℤ i.1) ⊖ v c i.0 i.1)) a ds)
      go [] a h = h
      go (i ∷ ds) a h = go ds _ (add-side binary32 false a _ h (magnitude-side _))

  distance-side : (ds : List Offset) (cs : List Scaled) → ScalesNotNegative cs → Side false (distance cs ds v k)
  unfolding distance along
  distance-side ds cs p = go cs b0 zero-side p
    where
      go : (cs : List Scaled) (d : Float) → Side false d → ScalesNotNegative cs → Side false (along (λ (d : Float) (c : Scaled). d ⊕ c.1 ⊗ apart ds v c.0 k) d cs)
      go [] d h p = h
      go (c ∷ cs) d h p = go cs _ (add-side binary32 false d _ h (mul-side binary32 false false c.1 _ (side-of c.1 p.0) (apart-side ds c.0))) p.1

-- ---- 1 plus a number that is not above zero, with negatives replaced by 0

-- the sum is from 0 to 1, or not above zero
abbrev Low : Float → Type 0
Low x = Within 0 1 x ⊎ Side true x

sum_low : (s : Bool) (a b c : ℕ) → a ≡ c → 0 < c → (s ≡ true) ⊎ (b ≡ 0) → Low (sum binary32 false a s b c)
unfolding sum
sum_low false a b c e C (inl p) = absurd (false≢true p)
sum_low false a b c e C (inr z) = inl (round-within binary32 0 1 (a + b) c C (lit≤ tt) (omega arith) (omega arith))
sum_low true a b c e C h = either Low (ltb a b) (round binary32 true (b - a) c) (round binary32 false (a - b) c)
    (λ _. inr (of-signed true (round binary32 true (b - a) c) (round-signed binary32 true (b - a) c)))
    (λ _. inl (round-within binary32 0 1 (a - b) c C (lit≤ tt) (omega arith) (omega arith)))

less : (y : Float) → Side true y → Low (b1 ⊕ y)
unfolding add of_bits
less nan h = inr tt
less (inf s) h = inr h
less (fin s m e) h = sum_low s (1 * down e) (m * up e * 1) (1 * down e) refl (mul-pos (zero-lt-suc 0) (down_pos e)) (wider true s m (up e) 1 h)

positive-within : (x : Float) → Low x → Within 0 1 (positive x)
unfolding positive lt of_bits
positive-within x (inl w) = either (Within 0 1) (lt b0 x) x b0 (λ _. w) (λ _. (refl, lit≤ tt, lit≤ tt))
positive-within nan (inr h) = (refl, lit≤ tt, lit≤ tt)
positive-within (inf true) (inr h) = (refl, lit≤ tt, lit≤ tt)
positive-within (inf false) (inr h) = absurd (false≢true h)
positive-within (fin true m e) (inr h) = (refl, lit≤ tt, lit≤ tt)
positive-within (fin false m e) (inr (inl p)) = absurd (false≢true p)
positive-within (fin false m e) (inr (inr z)) = either (Within 0 1) (ltb (0 * down e) (m * up e * 1)) (fin false m e) b0
    (λ _. (refl, omega arith, omega (arith, ap (λ (k : ℕ). k * up e) z))) (λ _. (refl, lit≤ tt, lit≤ tt))

-- ---- the weights, and their sum

-- for crates that form divisors
pub weight-within : (d slope : Float) → T (not_negative d) → T (not_positive slope) → Within 0 1 (weight_by slope d)
unfolding weight_by
weight-within d slope l k = positive-within (b1 ⊕ d ⊗ slope) (less (d ⊗ slope) (mul-side binary32 false true d slope (side-of d l) (not-positive slope k)))

-- `weight`'s contract
pub weight-bounded : (d slope w : Float) → w ≡ weight_by slope d → (w ≡ weight_by slope d) × WeightBounded d slope w
weight-bounded d slope w e = (e, λ l k. rw e (within-le b0 b1 (weight_by slope d) 0 1 zero-value one_value (weight-within d slope l k)))

pub distance-not-negative : DistanceNotNegative
distance-not-negative cs ds v k p = of-side _ (distance-side v k ds cs p)

pub slope-not-positive : SlopeNotPositive
slope-not-positive limit sigma m p h k =
    of-side-below _ (mul-side binary32 true false (falloff ⊘ sigma) m (div-side binary32 true false falloff sigma falloff-side (not-under limit sigma p (reached sigma limit h))) (side-of m k))

-- a sum that starts at 1
pub one-within : Within 1 1 b1
unfolding of_bits
one-within = (refl, lit≤ tt, lit≤ tt)

-- adding weights to it
pub sum-within : (s w : Float) (b : ℕ) → b + 1 ≤ 2 ^ 24 → Within 1 b s → Within 0 1 w → Within 1 (b + 1) (s ⊕ w)
sum-within s w b h = add-within binary32 s w 1 b 0 1 h

-- as many weights as the step has neighbours
pub most-within : (step : ℕ) (s : Float) → Within 1 (1 + length (kernel step)) s → Between b1 (most step) s
most-within step s = within-le b1 (most step) s 1 (1 + length (kernel step)) one_value (most-value step)

pub few-weights : (step : ℕ) → 1 + length (kernel step) ≤ 2 ^ 24
unfolding kernel
few-weights zero = lit≤ tt
few-weights (suc step) = lit≤ tt

module _ (cs : List Scaled) (ks ds : List Offset) (limit sigma m : Float) (v : Around)
    (over : T (above limit)) (uncopied : copied sigma limit ≡ false) (gain : T (not_negative m)) (scales : ScalesNotNegative cs) where
  at-within : (k : Offset) → Within 0 1 (weight_at cs ks ds sigma m v k)
  unfolding weight_at
  at-within k = weight-within (distance cs ds v k) (falloff ⊘ sigma ⊗ m) (distance-not-negative cs ds v k scales) (slope-not-positive limit sigma m over uncopied gain)

  -- the sum so far is at most b, and this many weights remain
  more : (s : Float) (b : ℕ) (l : List Offset) → b + length l ≤ 2 ^ 24 → Within 1 b s → Within 1 (b + length l) (along (λ (x : Float) (k : Offset). x ⊕ weight_at cs ks ds sigma m v k) s l)
  unfolding along
  more s b [] h w = rw add-zero w
  more s b (k ∷ l) h w =
      let e : b + suc (length l) ≡ b + 1 + length l = omega arith in
      rw e (more (s ⊕ weight_at cs ks ds sigma m v k) (b + 1) l (omega arith) (sum-within s (weight_at cs ks ds sigma m v k) b (omega arith) w (at-within k)))

  divisor-within : 1 + length ks ≤ 2 ^ 24 → Within 1 (1 + length ks) (divisor cs ks ds sigma m v)
  unfolding divisor
  divisor-within h = more b1 1 ks h one-within

pub weight-bounds : WeightBounds
weight-bounds cs ks ds limit sigma m v k p q r s = within-le b0 b1 (weight_at cs ks ds sigma m v k) 0 1 zero-value one_value (at-within cs ks ds limit sigma m v p q r s k)

pub divisor-bounds : DivisorBounds
divisor-bounds step cs ds limit sigma m v p q r s = most-within step (divisor cs (kernel step) ds sigma m v) (divisor-within cs (kernel step) ds limit sigma m v p q r s (few-weights step))

pub multiplier-not-negative : MultiplierNotNegative
unfolding multiplier
multiplier-not-negative m b row col h k = of-side _ (either (Side false) (border row || border col) (m ⊗ b) m (λ _. mul-side binary32 false false m b (side-of m h) (side-of b k)) (λ _. side-of m h))

pub pass-bounds : PassBounds
pass-bounds e w h top sigma g x y over scales gain edge uncopied =
    let m = multiplier-not-negative e.multiplier e.border_mul (top + y) x gain edge in (
      λ k. weight-bounds e.scales (kernel e.step) (dists e.step) e.limit _ _ _ k over uncopied m scales,
      divisor-bounds e.step e.scales (dists e.step) e.limit _ _ _ over uncopied m scales,
    )
