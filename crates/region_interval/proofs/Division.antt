-- Division rounded down and rounded up, by the nearest multiples below and above. Assumes nothing.
use mathlib.Core.Path.{◌≡◌, refl, ap}
use Prim.Native.Nat.{ℕ, suc, ◌+◌, ◌*◌, ◌/◌, ◌<◌, ◌≤◌}
use native.Mathlib.Nat.{mod-lt, div-add-mod', suc-mul, mul-le-mul_right}
use native.Mathlib.Decide.{dec_le}
use native.Mathlib.Omega.{arith}
use lib.IntN.{ℤ, pos, negsuc, neg_ℤ, ◌*ℤ◌}
use Rattle.region_interval.specs.Integers.{floor_div, ceil_div}
use Rattle.region_interval.proofs.Order.{above, below, eq_of, neg-above, neg-below}

-- ---- a multiple of m, positive and negative part

pub multiple-above : (k : ℤ) (m : ℕ) → above (k *ℤ pos m) ≡ above k * m
multiple-above (pos a) m = refl
multiple-above (negsuc a) m = omega (arith, neg-above (pos (suc a * m)))

pub multiple-below : (k : ℤ) (m : ℕ) → below (k *ℤ pos m) ≡ below k * m
multiple-below (pos a) m = omega arith
multiple-below (negsuc a) m = neg-below (pos (suc a * m))

-- ---- the quotient rounded down: q * m ≤ z < q * m + m

pub record Floor (q z : ℤ) (m : ℕ) : Type 0 where
  pub under : above q * m + below z ≤ above z + below q * m
  pub over : above z + below q * m < above q * m + below z + m

pub floor-is : (z : ℤ) (m : ℕ) → 0 < m → Floor (floor_div z m) z m
floor-is (pos a) m h =
    record { under = omega (arith, div-add-mod' a m); over = omega (arith, div-add-mod' a m, mod-lt a h) }
floor-is (negsuc a) m h =
    let e : suc (a / m) * m ≡ a / m * m + m = suc-mul (a / m) m in
    record { under = omega (arith, div-add-mod' a m, mod-lt a h); over = omega (arith, div-add-mod' a m, mod-lt a h) }

-- a multiple of m that is at most z is at most q * m
pub floor-most : (q z : ℤ) (m : ℕ) (k : ℤ) → Floor q z m → above k * m + below z ≤ above z + below k * m → above k + below q ≤ above q + below k
floor-most q z m k f h = go (dec_le (above k + below q) (above q + below k))
  where
    go : Dec (above k + below q ≤ above q + below k) → above k + below q ≤ above q + below k
    go (yes l) = l
    go (no l) =
        let n : above q + below k + 1 ≤ above k + below q = omega arith in
        let e : (above q + below k + 1) * m ≡ above q * m + below k * m + m = omega arith in
        let g : (above k + below q) * m ≡ above k * m + below q * m = omega arith in
        absurd (omega (arith, mul-le-mul_right m n, f.over))

-- the quotient is the only k with k * m ≤ z < k * m + m
pub floor-only : (z : ℤ) (m : ℕ) (k : ℤ) → 0 < m → Floor k z m → floor_div z m ≡ k
floor-only z m k h f =
    let g = floor-is z m h in
    eq_of (floor_div z m) k (omega (arith, floor-most k z m (floor_div z m) f g.under, floor-most (floor_div z m) z m k g f.under))

-- ---- the quotient rounded up: c * m - m < z ≤ c * m

pub ceil-under : (z : ℤ) (m : ℕ) → 0 < m → above z + below (ceil_div z m) * m ≤ above (ceil_div z m) * m + below z
ceil-under z m h =
    let f = (floor-is (neg_ℤ z) m h).under in
    let q = floor_div (neg_ℤ z) m in
    let a : above (neg_ℤ q) * m ≡ below q * m = ap (λ (n : ℕ). n * m) (neg-above q) in
    let b : below (neg_ℤ q) * m ≡ above q * m = ap (λ (n : ℕ). n * m) (neg-below q) in
    omega (arith, f, neg-above z, neg-below z, a, b)

-- a multiple of m that is at least z is at least c * m
pub ceil-least : (z : ℤ) (m : ℕ) (k : ℤ) → 0 < m → above z + below k * m ≤ above k * m + below z
    → above (ceil_div z m) + below k ≤ above k + below (ceil_div z m)
ceil-least z m k h l =
    let q = floor_div (neg_ℤ z) m in
    let a : above (neg_ℤ k) * m ≡ below k * m = ap (λ (n : ℕ). n * m) (neg-above k) in
    let b : below (neg_ℤ k) * m ≡ above k * m = ap (λ (n : ℕ). n * m) (neg-below k) in
    let t = floor-most q (neg_ℤ z) m (neg_ℤ k) (floor-is (neg_ℤ z) m h) (omega (arith, l, neg-above z, neg-below z, a, b)) in
    omega (arith, t, neg-above q, neg-below q, neg-above k, neg-below k)
