-- A bound on `mag` (z, or -1 - z if z is negative) of a product, and powers of two as an i64. Assumes nothing.
use mathlib.Core.Path.{◌≡◌}
use Prim.Native.Nat.{ℕ, zero, suc, ◌+◌, ◌*◌, ◌%◌, ◌^◌, ◌<◌, ◌≤◌}
use native.Mathlib.Nat.{one-mul, mod-eq_of_lt, suc-mul}
use lib.Pow.{pow-lt}
use native.Mathlib.Omega.{arith}
use lib.IntN.{ℤ, pos, negsuc, neg_ℤ, ◌*ℤ◌}
use lib.Signed.{mag}
use mir.Syntax.{w64}
use mir.Val.{to_z}
use mir.Facts.{to_z-of_z}

pub pos64 : (n : ℕ) → n < 9223372036854775808 → to_z w64 n ≡ pos n
pos64 n h = to_z-of_z {w = w64} {z = pos n} (record { sfits = h })

pub mag-mul : (z : ℤ) (m : ℕ) → mag (z *ℤ pos m) ≤ mag z * m + m
mag-mul (pos a) m = omega arith
mag-mul (negsuc a) m = let e : suc a * m ≡ a * m + m = suc-mul a m in rw e (turned (a * m + m))
  where
    turned : (k : ℕ) → mag (neg_ℤ (pos k)) ≤ k
    turned zero = omega arith
    turned (suc k) = omega arith

-- 2 ^ f as an i64, for the exponents of the alignments
pub power64 : (f : ℕ) → f < 14 → to_z w64 ((1 * 2 ^ f) % 18446744073709551616) ≡ pos (2 ^ f)
power64 f h =
    let l : 2 ^ f < 2 ^ 14 = pow-lt {i = f} {j = 14} h in
    let low : 2 ^ f % 18446744073709551616 ≡ 2 ^ f = mod-eq_of_lt (omega arith) in
    rw (one-mul (2 ^ f), low) (pos64 (2 ^ f) (omega arith))
