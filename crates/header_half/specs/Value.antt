-- The value of a finite IEEE 754 half-precision number (binary16).
use Rattle.std.specs.Prelude.{ℕ, zero, suc, ◌+◌, ◌/◌, ◌%◌, Bool, leb, Float}
use Rattle.std.specs.Float.Ieee.{odd}

-- sign, exponent field and fraction of the 16 bits
abbrev pub sign_of : ℕ → Bool
sign_of h = leb 32768 h

abbrev pub exponent_of : ℕ → ℕ
exponent_of h = h / 1024 % 32

abbrev pub digits_of : ℕ → ℕ
digits_of h = h % 1024

-- `odd 11 s m x 24` is the number ± m × 2 ^ x / 2 ^ 24, exactly, for an m of at most 11 binary digits.
-- Exponent field 0 has significand t and exponent −24; field x + 1 has significand 1024 + t and exponent x − 24.
unfoldable pub value_of : Bool → ℕ → ℕ → Float
value_of s zero t = odd 11 s t 0 24
value_of s (suc x) t = odd 11 s (1024 + t) x 24

unfoldable pub half_of : ℕ → Float
half_of h = value_of (sign_of h) (exponent_of h) (digits_of h)
