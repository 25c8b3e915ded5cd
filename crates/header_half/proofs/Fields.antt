-- A binary32 number from its sign, exponent and fraction fields. Assumes nothing.
use Prim.Native.Nat.{ℕ, suc, ◌+◌, ◌*◌, ◌/◌, ◌%◌, ◌<◌}
use mathlib.Core.Bool.{Bool, true, false, not}
use mathlib.Core.Path.{◌≡◌, refl}
use native.Mathlib.Omega.{arith}
use borrow.Author.Tests.{le-leb, lt-leb, leb-true, leb-false, ne_eqb}
use lib.Dec.{T, leb}
use lib.Ieee.{of_fields, of_bits, nan_bits, binary32, odd}

module _ (s x t : ℕ) (hs : s < 2) (hx : x < 255) (ht : t < 8388608) where
  abbrev pattern : ℕ
  pattern = s * 2147483648 + x * 8388608 + t

  sign-by : (v : Bool) → leb 1 s ≡ v → leb 2147483648 pattern ≡ v
  sign-by true e = le-leb 2147483648 pattern (omega (arith, leb-true 1 s e))
  sign-by false e = lt-leb 2147483648 pattern (omega (arith, leb-false 1 s e))

  exponent-is : pattern % 2147483648 / 8388608 ≡ x
  exponent-is = omega arith

  digits-is : pattern % 8388608 ≡ t
  digits-is = omega arith

  pub pattern_fields : of_bits binary32 pattern ≡ of_fields binary32 (leb 1 s) x t
  unfolding of_bits
  pattern_fields = rw (sign-by (leb 1 s) refl, exponent-is, digits-is)

  not_255 : x ≡ 255 → ⊥
  not_255 e = omega arith

  pub pattern_not_nan : T (not (nan_bits binary32 pattern))
  unfolding nan_bits
  pattern_not_nan = rw (exponent-is, ne_eqb x 255 not_255) tt

-- an exponent field other than 0 and 255
pub normal-fields : (s : Bool) (y t : ℕ) → y < 254 → of_fields binary32 s (suc y) t ≡ odd 24 s (8388608 + t) y 149
unfolding of_fields
normal-fields s y t h = rw (ne_eqb (suc y) 255 (λ e. none e))
  where
    none : suc y ≡ 255 → ⊥
    none e = omega arith
