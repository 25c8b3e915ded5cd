-- The area of a region fits in 64 bits. Assumes nothing.
use Prim.Native.Nat.{ℕ, ◌*◌, ◌<◌, ◌≤◌}
use native.Mathlib.Omega.{arith}
use native.Mathlib.Nat.{mul-le-mul_left, mul-le-mul_right}

pub product : (w h : ℕ) → w < 4294967296 → h < 4294967296 → w * h < 18446744073709551616
product w h p q =
    let a : w ≤ 4294967295 = omega arith in
    let b : h ≤ 4294967295 = omega arith in
    omega (arith, mul-le-mul_right h a, mul-le-mul_left 4294967295 b)
